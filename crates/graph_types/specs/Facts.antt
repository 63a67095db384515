-- What valid graphs keep: how many read and write a slot, its one writer, and who is listed as a successor.
use Rattle.std.proofs.Common.{◌≡◌, ◌∙◌, inl, inr, ℕ, ◌<◌, ◌≤◌, true, List, [], get_or, ap, arith, sym}
use Rattle.std.specs.List.{All, count_by, filter, range_with_len}
use Rattle.std.proofs.lemmas.Bool.{cases_lt, cases_order}
use Rattle.std.proofs.lemmas.List.{get_or_default}
use Rattle.std.proofs.lemmas.List.Elements.{All-filter, filter_passes}
use Rattle.std.proofs.lemmas.List.Folds.{list_any_at}
use Rattle.std.proofs.lemmas.Option.{slice_get_within, get_or_from_slice_get}
use Rattle.graph_types.specs.declared.graph.Graph.{Graph}
use Rattle.graph_types.specs.Counting.{all_below, count_found, count_places, count_two, count_within, filter_at, has_all, has_at, has_from}
use Rattle.graph_types.specs.Graph.{AreSlotsValid, AreTasksOrdered, HasLengths, follows, has, readers, reads, reads_of, successors_of, tasks_of, writers, writes, writes_of}

-- readers and writers are counted by lists
pub readers_listed : (g : Graph) → HasLengths g → (slot : ℕ) → readers g slot ≡ count_by (λ numbers. has numbers slot) g.reads
readers_listed g lengths slot = count_places (λ numbers. has numbers slot) g.reads [] g.tasks lengths.reads

pub writers_listed : (g : Graph) → HasLengths g → (slot : ℕ) → writers g slot ≡ count_by (λ numbers. has numbers slot) g.writes
writers_listed g lengths slot = count_places (λ numbers. has numbers slot) g.writes [] g.tasks lengths.writes

pub few_readers : (g : Graph) (slot : ℕ) → readers g slot ≤ g.tasks
few_readers g slot = count_within (λ task. has (reads_of g task) slot) g.tasks

pub few_writers : (g : Graph) (slot : ℕ) → writers g slot ≤ g.tasks
few_writers g slot = count_within (λ task. has (writes_of g task) slot) g.tasks

pub most_writers : (g : Graph) → AreSlotsValid g → (slot : ℕ) → slot < g.slots → writers g slot ≤ 1
most_writers g valid slot there = elim (cases_lt slot g.old) [
  | inl old ↦ omega (arith, valid.unwritten slot old)
  | inr new ↦ omega (arith, valid.written slot new there)
]

-- two tasks that write one slot are one, where at most one writes it
pub only_one : (g : Graph) (slot : ℕ) → writers g slot ≤ 1 → (a b : ℕ) → a < g.tasks → b < g.tasks → writes g a slot ≡ true → writes g b slot ≡ true → a ≡ b
only_one g slot most a b a_there b_there by_a by_b = elim (cases_order a b) [
  | inl same ↦ same
  | inr (inl less) ↦ absurd (omega (arith, count_two (λ task. writes g task slot) g.tasks a b less b_there by_a by_b))
  | inr (inr more) ↦ absurd (omega (arith, count_two (λ task. writes g task slot) g.tasks b a more a_there by_b by_a))
]

pub only_writer : (g : Graph) → AreSlotsValid g → (slot a b : ℕ) → slot < g.slots → a < g.tasks → b < g.tasks → writes g a slot ≡ true → writes g b slot ≡ true → a ≡ b
only_writer g valid slot a b there = only_one g slot (most_writers g valid slot there) a b

-- a slot that is not old has a writer
pub some_writer : (g : Graph) → AreSlotsValid g → (slot : ℕ) → g.old ≤ slot → slot < g.slots → (task : ℕ) × (task < g.tasks) × (writes g task slot ≡ true)
some_writer g valid slot new there = count_found (λ task. writes g task slot) g.tasks (omega (arith, valid.written slot new there))

-- an old slot has a reader
pub some_reader : (g : Graph) → AreSlotsValid g → (slot : ℕ) → slot < g.old → (task : ℕ) × (task < g.tasks) × (reads g task slot ≡ true)
some_reader g valid slot old = count_found (λ task. reads g task slot) g.tasks (valid.wanted slot old)

-- a task that reads a slot follows the task that writes it
pub reader_follows : (g : Graph) (first second slot : ℕ) → writes g first slot ≡ true → reads g second slot ≡ true → follows g first second ≡ true
reader_follows g first second slot by_first by_second =
    let at = has_at (writes_of g first) slot by_first in
    let here : get_or (writes_of g first) at.0 0 ≡ slot = get_or_default (writes_of g first) at.0 0 slot at.1 ∙ at.2 in
    list_any_at (reads g second) (writes_of g first) at.0 0 at.1 (ap (reads g second) here ∙ by_second)

-- a task that follows another is among its successors
pub follower_listed : (g : Graph) → AreTasksOrdered g → (first second : ℕ) → first < g.tasks → second < g.tasks → follows g first second ≡ true → has (successors_of g first) second ≡ true
follower_listed g ordered first second here there follow =
    let at = filter_at (follows g first) g.tasks second there follow in
    let place = count_by (follows g first) (range_with_len 0 second) in
    ap (λ (xs : List ℕ). has xs second) (ordered.successors first here)
    ∙ has_from (filter (follows g first) (tasks_of g)) place second (slice_get_within (filter (follows g first) (tasks_of g)) place second at)
    (get_or_from_slice_get (filter (follows g first) (tasks_of g)) place second 0 at)

-- a successor is a task, follows, and stands behind
pub record IsFollower (g : Graph) (first second : ℕ) : Type 0 where
  pub there : second < g.tasks
  pub follows : follows g first second ≡ true
  pub behind : first < second

pub successor_follows : (g : Graph) → AreTasksOrdered g → (first second : ℕ) → first < g.tasks → has (successors_of g first) second ≡ true → IsFollower g first second
successor_follows g ordered first second here listed =
    let passing : has (filter (follows g first) (tasks_of g)) second ≡ true = sym (ap (λ (xs : List ℕ). has xs second) (ordered.successors first here)) ∙ listed in
    let tasks : All (λ task. task < g.tasks) (tasks_of g) = all_below g.tasks in
    let there : second < g.tasks = has_all (λ task. task < g.tasks) (filter (follows g first) (tasks_of g)) (All-filter (follows g first) (λ task. task < g.tasks) (tasks_of g) tasks) second passing in
    let follow : follows g first second ≡ true = has_all (λ task. follows g first task ≡ true) (filter (follows g first) (tasks_of g)) (filter_passes (follows g first) (tasks_of g)) second passing in
    record { there = there; follows = follow; behind = ordered.forward first second here there follow }
