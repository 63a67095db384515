-- Where what the requirements of a task want stands, for a level and a material.
use Rattle.std.specs.Prelude.{◌≡◌, ℕ, ◌+◌, ◌*◌, ◌<◌, ◌==◌, ◌&&◌, Bool, true, false, Option, Some, None, IfSome, List, [], ◌∷◌, All, length, map, slice_get, slice_index, take}
use Rattle.std.specs.List.{list_any}
use Rattle.std.specs.Option.{option_map_or}
use Rattle.kernel_ast.specs.declared.expression.Store.{Store}
use Rattle.problem_types.specs.Form.{IsProblemInForm}
use Rattle.problem_types.specs.Lists.{is_of_field, is_reduces, task_list}
use Rattle.problem_types.specs.declared.problem.Problem.{Problem}
use Rattle.problem_types.specs.declared.problem.Require.{Require}
use Rattle.problem_types.specs.declared.problem.Task.{Task}
use Rattle.problem_types.specs.declared.problem.Write.{Write}
use Rattle.task_check.specs.Bounds.{AreBoundedTasks, IsBounded}
use Rattle.task_check.specs.First.{IsAccepted}
use Rattle.task_check.specs.Plan.{Slot as TaskSlot, New, has_number, is_line_of, is_read, line_is, patch_of, patches_of, slots_of, wants}
use Rattle.task_check.specs.Sizes.{reduces_count}
use Rattle.graph_types.specs.Graph.{has}
use Rattle.graph_compiler.specs.Layouts.{AreLaidOut}
use Rattle.graph_compiler.specs.Places.{AreOldSlots, StandsAt}
use Rattle.graph_compiler.specs.Searched.{found_by}
use Rattle.graph_compiler.specs.declared.sources.Source.{Source}
use Rattle.graph_compiler.specs.declared.sources.Source.TheVariants as source
use Rattle.graph_compiler.specs.declared.sources.Sources.{Sources}
use Rattle.graph_compiler.specs.declared.touched.Touched.{Touched}

-- the tasks are a list of an accepted problem, and its slots stand as it is noted
pub record AreFrom (s : Sources) : Type 0 where
  pub form : IsProblemInForm s.problem.now
  pub accepted : IsAccepted s.problem.now
  pub limits : IsBounded s.problem.now
  pub list : (list : ℕ) × (list < 2) × (s.tasks.now ≡ task_list s.problem.now list)
  pub tasks : AreBoundedTasks s.problem.now s.tasks.now
  pub layouts : AreLaidOut s.problem.now s.tasks.now s.layouts.now
  pub old : AreOldSlots s.problem.now s.tasks.now s.old.now

-- the places of the slots that a detailed task on a patch reads of a source; `old` has those of the old variables
abbrev pub slots_from : List Touched → (old : List ℕ) → (patch : ℕ) → Source → List ℕ
slots_from made old patch (source.Number slot) = slot ∷ []
slots_from made old patch (source.New search first lines) = map (λ other. first + other * lines) (found_by made search patch)
slots_from made old patch (source.Old search first) = map (λ other. slice_index old (first + other)) (found_by made search patch)

-- the search of a source was made
abbrev pub IsMade : List Touched → Source → Type 0
IsMade made (source.Number slot) = Unit {0}
IsMade made (source.New search first lines) = search < length made
IsMade made (source.Old search first) = search < length made

-- On each patch of a level, the slots that stand at the places of the sources are those that some requirements of the task `t` at its
-- place in the list want for a material.
pub record AreSourcesOf (p : Problem) (tasks : List Task) (task : ℕ) (t : Task) (level material : ℕ) (requirements : List Require)
    (made : List Touched) (old : List ℕ) (sources : List Source) : Type 0 where
  pub searched : All (IsMade made) sources
  pub within : (patch : ℕ) → patch < length (patches_of p level)
      → All (λ source. All (λ place. place < length (slots_of p tasks)) (slots_from made old patch source)) sources
  pub wanted : (patch place : ℕ) (s : TaskSlot) → patch < length (patches_of p level) → StandsAt p tasks place s
      → list_any (λ source. has (slots_from made old patch source) place) sources ≡ list_any (wants p tasks task t level material patch s) requirements

-- the place of the last item that passes, where one does
abbrev pub IsLast : {A : Type 0} → (A → Bool) → List A → Option ℕ → Type 0
IsLast {A} passes items None = (place : ℕ) (item : A) → slice_get items place ≡ Some item → passes item ≡ false
IsLast {A} passes items (Some last) = (item : A) × (slice_get items last ≡ Some item) × (passes item ≡ true)
    × ((place : ℕ) (other : A) → last < place → slice_get items place ≡ Some other → passes other ≡ false)

-- a line that reduces the name
abbrev pub is_of_reduction : ℕ → Write → Bool
is_of_reduction name w = (w.name == name) && is_reduces w.kind

-- how many lines that reduce stand before one that reduces the name, where there is one
abbrev pub IsNumberAmong : List Write → (name : ℕ) → Option ℕ → Type 0
IsNumberAmong writes name None = (line : ℕ) → line_is writes (is_of_reduction name) line ≡ false
IsNumberAmong writes name (Some number) = (line : ℕ) × (line_is writes (is_of_reduction name) line ≡ true) × (number ≡ reduces_count (take line writes))

-- the place is the one that was found
abbrev pub is_found : Option ℕ → (place : ℕ) → Bool
is_found found place = option_map_or (λ n. n == place) found false

-- the number of a reduction in a store stands at the place that was found, and nowhere else
pub record HasNumberAt (p : Problem) (tasks : List Task) (at : Store) (name : ℕ) (found : Option ℕ) : Type 0 where
  pub within : IfSome found (λ place. place < length (slots_of p tasks))
  pub alone : (place : ℕ) (s : TaskSlot) → StandsAt p tasks place s → has_number tasks at name s ≡ is_found found place

-- The variable that a line of the task `writer` writes on a level and a material stands so: on patch 0 at `first`, and on the others at
-- equal distances.
pub record IsWrittenFrom (p : Problem) (tasks : List Task) (writer name level material first lines : ℕ) : Type 0 where
  pub line : ℕ
  pub of_line : is_line_of tasks (λ w. is_of_field w.kind) name writer line ≡ true
  pub stands : (patch : ℕ) → patch < length (patches_of p level) → StandsAt p tasks (first + patch * lines) (New writer line level material patch)

abbrev pub IsWriterSource : Problem → List Task → (writer name level material search : ℕ) → Option Source → Type 0
IsWriterSource p tasks writer name level material search None = ⊥
IsWriterSource p tasks writer name level material search (Some (source.Number slot)) = ⊥
IsWriterSource p tasks writer name level material search (Some (source.Old at first)) = ⊥
IsWriterSource p tasks writer name level material search (Some (source.New at first lines)) = (at ≡ search) × IsWrittenFrom p tasks writer name level material first lines

-- The slots of a list that `has` passes, one for each patch of a level and no other, stand where the source says, as far as they are read.
pub record AreFoundBy (p : Problem) (tasks : List Task) (has : TaskSlot → Bool) (level search : ℕ) (old : List ℕ) (source : Source) : Type 0 where
  pub slot : (patch : ℕ) → TaskSlot
  pub place : (patch : ℕ) → ℕ
  pub from : (made : List Touched) (patch : ℕ) → slots_from made old patch source ≡ map place (found_by made search patch)
  pub made : (made : List Touched) → search < length made → IsMade made source
  pub passes : (patch : ℕ) → has (slot patch) ≡ true
  pub on_patch : (patch : ℕ) → patch_of (slot patch) ≡ patch
  pub stands : (patch : ℕ) → patch < length (patches_of p level) → is_read p tasks (slot patch) ≡ true → StandsAt p tasks (place patch) (slot patch)
  pub no_other : (place : ℕ) (s : TaskSlot) → StandsAt p tasks place s → has s ≡ true → (s ≡ slot (patch_of s)) × (patch_of s < length (patches_of p level))

-- the same, or no slot of the list passes
abbrev pub IsSourceOf : Problem → List Task → (TaskSlot → Bool) → (level search : ℕ) → (old : List ℕ) → Option Source → Type 0
IsSourceOf p tasks has level search old None = (place : ℕ) (s : TaskSlot) → StandsAt p tasks place s → has s ≡ false
IsSourceOf p tasks has level search old (Some source) = AreFoundBy p tasks has level search old source
