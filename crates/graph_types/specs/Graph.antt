-- Task graphs as numbers: who reads and writes which slot, who waits for whom, and which graphs are valid.
use Rattle.std.specs.Prelude.{◌≡◌, ℕ, ◌+◌, ◌<◌, ◌≤◌, ◌==◌, Bool, true, false, cond, List, [], length, filter, All, slice_index_or}
use Rattle.std.specs.List.{count_by, sum_by, list_any, range_with_len}
use Rattle.std.specs.List.Sorted.{IsStrictlyIncreasing}
use Rattle.graph_types.specs.declared.graph.Graph.{Graph}

-- the slots that a task reads and those that it writes; none for a number that no task has
abbrev pub reads_of : Graph → ℕ → List ℕ
reads_of g d = slice_index_or g.reads d []

abbrev pub writes_of : Graph → ℕ → List ℕ
writes_of g d = slice_index_or g.writes d []

abbrev pub successors_of : Graph → ℕ → List ℕ
successors_of g d = slice_index_or g.successors d []

-- the list has the number
abbrev pub has : List ℕ → ℕ → Bool
has numbers n = list_any (λ m. m == n) numbers

-- the task reads the slot, and writes it
abbrev pub reads : Graph → (task slot : ℕ) → Bool
reads g task slot = has (reads_of g task) slot

abbrev pub writes : Graph → (task slot : ℕ) → Bool
writes g task slot = has (writes_of g task) slot

-- the second task reads a slot that the first one writes
abbrev pub follows : Graph → (first second : ℕ) → Bool
follows g first second = list_any (reads g second) (writes_of g first)

-- the numbers of the tasks
abbrev pub tasks_of : Graph → List ℕ
tasks_of g = range_with_len 0 g.tasks

-- how many tasks read a slot, and how many write it
abbrev pub readers : Graph → (slot : ℕ) → ℕ
readers g slot = count_by (λ task. reads g task slot) (tasks_of g)

abbrev pub writers : Graph → (slot : ℕ) → ℕ
writers g slot = count_by (λ task. writes g task slot) (tasks_of g)

abbrev pub is_kept : Graph → (slot : ℕ) → Bool
is_kept g slot = slice_index_or g.kept slot false

-- slots below so many, each at most once, ascending
pub record IsSlotList (slots : ℕ) (numbers : List ℕ) : Type 0 where
  pub ascending : IsStrictlyIncreasing numbers
  pub below : All (λ slot. slot < slots) numbers

-- an entry for each task, and for each slot
pub record HasLengths (g : Graph) : Type 0 where
  pub reads : length g.reads ≡ g.tasks
  pub writes : length g.writes ≡ g.tasks
  pub successors : length g.successors ≡ g.tasks
  pub predecessors : length g.predecessors ≡ g.tasks
  pub uses : length g.uses ≡ g.slots
  pub kept : length g.kept ≡ g.slots
  pub old : g.old ≤ g.slots

-- the limits of a graph
pub record IsWithinLimits (g : Graph) : Type 0 where
  pub tasks : g.tasks ≤ 65536
  pub slots : g.slots ≤ 262144
  pub reads : sum_by length g.reads ≤ 2097152

-- Each slot but the old ones is written by exactly one task. An old slot is written by none, read by some and not kept.
pub record AreSlotsValid (g : Graph) : Type 0 where
  pub written : (slot : ℕ) → g.old ≤ slot → slot < g.slots → writers g slot ≡ 1
  pub unwritten : (slot : ℕ) → slot < g.old → writers g slot ≡ 0
  pub wanted : (slot : ℕ) → slot < g.old → 1 ≤ readers g slot
  pub let_go : (slot : ℕ) → slot < g.old → is_kept g slot ≡ false
  pub uses : (slot : ℕ) → slot < g.slots → slice_index_or g.uses slot 0 ≡ readers g slot + (writers g slot + cond (is_kept g slot) 1 0)

-- The successors of a task are those that follow it, and each stands behind it. A task knows how many it follows.
pub record AreTasksOrdered (g : Graph) : Type 0 where
  pub successors : (task : ℕ) → task < g.tasks → successors_of g task ≡ filter (follows g task) (tasks_of g)
  pub forward : (first second : ℕ) → first < g.tasks → second < g.tasks → follows g first second ≡ true → first < second
  pub predecessors : (task : ℕ) → task < g.tasks → slice_index_or g.predecessors task 0 ≡ count_by (λ first. follows g first task) (tasks_of g)

-- a graph that the scheduler can run
pub record IsValid (g : Graph) : Type 0 where
  pub lengths : HasLengths g
  pub limits : IsWithinLimits g
  pub reads : All (IsSlotList g.slots) g.reads
  pub writes : All (IsSlotList g.slots) g.writes
  pub slots : AreSlotsValid g
  pub order : AreTasksOrdered g
