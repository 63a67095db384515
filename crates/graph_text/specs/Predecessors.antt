-- The tasks that a task waits for.
use Rattle.std.specs.Prelude.{◌≡◌, ℕ, ◌<◌, Bool, List, [], ◌∷◌, ◌++◌, filter, length, slice_index_or, if◌then◌else◌}
use Rattle.graph_types.specs.Graph.{has, successors_of, tasks_of}
use Rattle.graph_types.specs.declared.graph.Graph.{Graph}

-- the tasks that have this one among their successors, ascending
abbrev pub predecessors_of : Graph → (task : ℕ) → List ℕ
predecessors_of g task = filter (λ first. has (successors_of g first) task) (tasks_of g)

-- a list with one more number behind it, or the list alone
abbrev pub noted : Bool → (number : ℕ) → List ℕ → List ℕ
noted is_last number numbers = numbers ++ (if is_last then number ∷ [] else [])

-- the new lists are the old ones, and in those of these successors the task behind what stood there
pub record IsNotedAt (task : ℕ) (successors : List ℕ) (old new : List (List ℕ)) : Type 0 where
  pub same_count : length new ≡ length old
  pub at : (n : ℕ) → n < length old → slice_index_or new n [] ≡ noted (has successors n) task (slice_index_or old n [])
