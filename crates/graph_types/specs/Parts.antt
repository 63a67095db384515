-- What the parts of the test for valid graphs decide, slot by slot and task by task, and the tables that it keeps.
use Rattle.std.specs.Prelude.{◌≡◌, ℕ, ◌+◌, ◌<◌, ◌≤◌, ◌==◌, Bool, true, false, cond, List, length, take, All, Some, slice_get, slice_index, slice_index_or}
use Rattle.std.specs.List.{count_by, range_with_len}
use Rattle.graph_types.specs.declared.graph.Graph.{Graph}
use Rattle.graph_types.specs.Graph.{HasLengths, IsSlotList, IsWithinLimits, follows, has, is_kept, readers, successors_of, tasks_of, writers, writes}

-- what a graph's lists are by themselves: their lengths, the limits, and ascending slots
pub record HasLists (g : Graph) : Type 0 where
  pub lengths : HasLengths g
  pub limits : IsWithinLimits g
  pub reads : All (IsSlotList g.slots) g.reads
  pub writes : All (IsSlotList g.slots) g.writes

-- no number stands in the list twice
abbrev pub StandOnce : List ℕ → Type 0
StandOnce numbers = (k : ℕ) → k < length numbers → has (take k numbers) (slice_index numbers k) ≡ false

-- for each slot in how many of the lists it stands
pub record AreCounts (slots : ℕ) (lists : List (List ℕ)) (counts : List ℕ) : Type 0 where
  pub size : length counts ≡ slots
  pub at : (slot : ℕ) → slot < slots → slice_index counts slot ≡ count_by (λ numbers. has numbers slot) lists

-- an old slot is written by none, read by some and not kept; each other one is written by one
abbrev pub IsPlaced : (is_old : Bool) (readers writers : ℕ) (kept : Bool) → Type 0
IsPlaced true readers writers kept = (writers ≡ 0) × (1 ≤ readers) × (kept ≡ false)
IsPlaced false readers writers kept = writers ≡ 1

-- the slot keeps the rules of slots
pub record IsSlotValid (g : Graph) (slot : ℕ) : Type 0 where
  pub written : g.old ≤ slot → writers g slot ≡ 1
  pub unwritten : slot < g.old → writers g slot ≡ 0
  pub wanted : slot < g.old → 1 ≤ readers g slot
  pub let_go : slot < g.old → is_kept g slot ≡ false
  pub uses : slice_index_or g.uses slot 0 ≡ readers g slot + (writers g slot + cond (is_kept g slot) 1 0)

-- a table with the task that writes each slot, and with no task for a slot that none writes
pub record AreOwners (g : Graph) (owners : List ℕ) : Type 0 where
  pub size : length owners ≡ g.slots
  pub at : (task slot : ℕ) → task < g.tasks → slot < g.slots → writes g task slot ≡ (slice_index owners slot == task)

-- how many of the tasks before one follow a task
abbrev pub followers_before : Graph → (task before : ℕ) → ℕ
followers_before g task before = count_by (follows g task) (range_with_len 0 before)

-- for each task how many of the tasks before one follow it
pub record AreFollowersCounted (g : Graph) (before : ℕ) (counts : List ℕ) : Type 0 where
  pub size : length counts ≡ g.tasks
  pub at : (task : ℕ) → task < g.tasks → slice_index counts task ≡ followers_before g task before

-- the tasks that have the mark are those in the list, each once, and no mark is greater
pub record AreNoted (seen : List ℕ) (mark : ℕ) (found : List ℕ) : Type 0 where
  pub marks : All (λ m. m ≤ mark) seen
  pub once : StandOnce found
  pub within : All (λ task. task < length seen) found
  pub marked : (task : ℕ) → task < length seen → has found task ≡ (slice_index seen task == mark)

-- the tasks that one follows, each once
pub record AreLeaders (g : Graph) (task : ℕ) (leaders : List ℕ) : Type 0 where
  pub once : StandOnce leaders
  pub within : All (λ first. first < g.tasks) leaders
  pub are : (first : ℕ) → first < g.tasks → has leaders first ≡ follows g first task

-- the task follows only tasks before it, knows how many, and stands behind the earlier followers of each
pub record IsTaskOrdered (g : Graph) (task : ℕ) : Type 0 where
  pub behind : (first : ℕ) → first < g.tasks → follows g first task ≡ true → first < task
  pub predecessors : slice_index_or g.predecessors task 0 ≡ count_by (λ first. follows g first task) (tasks_of g)
  pub listed : (first : ℕ) → first < g.tasks → follows g first task ≡ true → slice_get (successors_of g first) (followers_before g first task) ≡ Some task
