-- What holds between any two steps.
use Rattle.std.specs.Prelude.{◌≡◌, ℕ, ◌+◌, ◌<◌, ◌≤◌, ◌==◌, ◌⊎◌, ◌↔◌, Bool, true, false, not, cond, ◌&&◌, ◌||◌, List, length, Option, Some, IsTrue, All, nat_lt, slice_get, slice_index, slice_index_or}
use Rattle.std.specs.List.{count_by, sum_by, list_any}
use Rattle.graph_types.specs.declared.graph.Graph.{Graph}
use Rattle.graph_types.specs.Graph.{IsValid, tasks_of, reads, writes, follows, is_kept}
use Rattle.sched_core.specs.declared.act.Act.{Act}
use Rattle.sched_core.specs.declared.act.Act.TheVariants.{LowersUse, LowersSuccessor}
use Rattle.sched_core.specs.declared.view.Due.{Due}
use Rattle.sched_core.specs.declared.view.Due.TheVariants as due
use Rattle.sched_core.specs.declared.view.View.{View}
use Rattle.sched_core.specs.declared.view.View.TheVariants as view
use Rattle.sched_core.specs.declared.state.Core.{Core}
use Rattle.sched_core.specs.Core.{script, holders, runners, number_at, number_behind, is_finished, is_behind, is_scrub, is_put_at, is_in_hand, is_anything, does_something, closes, publishes, lowers_use, lowers_successor, gone_of, halted_of, seats_of}

-- something may be due at this act
abbrev pub may_owe : Due → Option Act → Bool
may_owe due.Nothing (Some act) = true
may_owe due.Scrub (Some (LowersUse slot)) = true
may_owe due.Place (Some (LowersSuccessor task)) = true
may_owe (due.Put at) (Some (LowersSuccessor task)) = true
may_owe owed act = false

-- a running view stands inside the script of a task, where what it owes may be due
abbrev pub is_in_shape : Graph → View → Bool
is_in_shape g (view.Running task at owed) = nat_lt task g.tasks && may_owe owed (slice_get (script g task) at)
is_in_shape g view = true

-- lengths, and the range of each word
pub record Shapes (g : Graph) (ring dep published left turn : List ℕ) (home : List Bool) (abort : ℕ) (views : List View) : Type 0 where
  pub ring_length : length ring ≡ g.tasks
  pub dep_length : length dep ≡ g.tasks
  pub published_length : length published ≡ g.tasks
  pub left_length : length left ≡ g.slots
  pub turn_length : length turn ≡ g.slots
  pub home_length : length home ≡ g.slots
  pub some_seat : 1 ≤ length views
  pub few_seats : length views ≤ 64
  pub published_words : All (λ word. word ≤ 1) published
  pub turn_words : All (λ word. word ≤ 2) turn
  pub abort_word : abort ≤ 1
  pub views_fit : All (λ view. IsTrue (is_in_shape g view)) views

-- each ticket is for a task's place below head, and no two seats hold the same
pub record Tickets (g : Graph) (head : ℕ) (tickets : ℕ → ℕ) : Type 0 where
  pub below : (place : ℕ) → 1 ≤ tickets place → (place < g.tasks) × (place < head)
  pub apart : (place : ℕ) → tickets place ≤ 1

-- a place below tail holds a task, or one seat owes it a task
abbrev pub IsFilled : (tasks word owing : ℕ) → Type 0
IsFilled tasks word owing = ((1 ≤ word) × (word ≤ tasks) × (owing ≡ 0)) ⊎ ((word ≡ 0) × (owing ≡ 1))

-- the task stands in the ring below the place
abbrev pub StandsBelow : (ring : List ℕ) → (place task : ℕ) → Type 0
StandsBelow ring place task = (p : ℕ) × (p < place) × (slice_index ring p ≡ task + 1)

-- how often the task stands in the ring
abbrev pub number_in : (ring : List ℕ) → (task : ℕ) → ℕ
number_in ring task = count_by (λ word. word == task + 1) ring

-- The ring is filled up to tail, and each task whose count is 0 stands in it once or is in one hand, and no other does. Those that a task
-- follows stand in front of it.
pub record Ring (g : Graph) (tail : ℕ) (ring dep : List ℕ) (owing in_hand : ℕ → ℕ) (put_at : ℕ → ℕ → ℕ) : Type 0 where
  pub room : tail ≤ g.tasks
  pub empty : (place : ℕ) → tail ≤ place → slice_index ring place ≡ 0
  pub filled : (place : ℕ) → place < tail → IsFilled g.tasks (slice_index ring place) (owing place)
  pub owed : (place : ℕ) → 1 ≤ owing place → place < tail
  pub once : (task : ℕ) → task < g.tasks → number_in ring task + in_hand task ≡ cond (slice_index dep task == 0) 1 0
  pub ordered : (place task before : ℕ) → (slice_index ring place ≡ task + 1) ⊎ (1 ≤ put_at place task) → before < g.tasks → follows g before task ≡ true → StandsBelow ring place before

-- the task stands in the ring at a place below head of which no seat holds the ticket
abbrev pub IsDrawn : (head : ℕ) (ring : List ℕ) → (ℕ → ℕ) → (task : ℕ) → Type 0
IsDrawn head ring tickets task = (place : ℕ) × (place < head) × (slice_index ring place ≡ task + 1) × (tickets place ≡ 0)

-- A task that runs or is published was drawn, and one seat at most runs it. While it runs it is published once that place is behind it.
pub record Running (g : Graph) (head : ℕ) (ring published : List ℕ) (tickets runners publishing : ℕ → ℕ) : Type 0 where
  pub drawn : (task : ℕ) → task < g.tasks → 1 ≤ runners task + slice_index published task → IsDrawn head ring tickets task
  pub apart : (task : ℕ) → runners task ≤ 1
  pub told : (task : ℕ) → 1 ≤ runners task → slice_index published task ≡ publishing task

-- a task waits for those that it follows and that have not lowered its count
pub record Dependencies (g : Graph) (dep : List ℕ) (has_lowered : (task successor : ℕ) → Bool) : Type 0 where
  pub counts : (task : ℕ) → task < g.tasks → slice_index dep task ≡ count_by (λ first. follows g first task && not (has_lowered first task)) (tasks_of g)

-- a slot has the uses left of those that read or write it and have not lowered its count, and 1 where it is kept
pub record Uses (g : Graph) (left : List ℕ) (has_lowered : (task slot : ℕ) → Bool) : Type 0 where
  pub counts : (slot : ℕ) → slot < g.slots → slice_index left slot ≡ count_by (λ task. (reads g task slot || writes g task slot) && not (has_lowered task slot)) (tasks_of g) + cond (is_kept g slot) 1 0

-- some task writes the slot and has not published
abbrev pub is_unwritten : Graph → (published : List ℕ) → (slot : ℕ) → Bool
is_unwritten g published slot = list_any (λ task. writes g task slot && not (slice_index published task == 1)) (tasks_of g)

-- How a slot may stand, by whether it is unwritten, its uses left, its turn, whether its value is home, how many seats have its turn to
-- close, and how many are due to scrub it.
pub data SlotStands (unwritten : Bool) (left turn : ℕ) (home : Bool) (closing scrubbing : ℕ) : Type 0 where
  Unwritten : unwritten ≡ true → turn ≡ 0 → home ≡ false → closing ≡ 0 → SlotStands unwritten left turn home closing scrubbing
  Free : unwritten ≡ false → 1 ≤ left → turn ≡ 0 → home ≡ true → closing ≡ 0 → SlotStands unwritten left turn home closing scrubbing
  Held : unwritten ≡ false → 1 ≤ left → turn ≡ 1 → home ≡ false → closing ≡ 1 → SlotStands unwritten left turn home closing scrubbing
  Last : unwritten ≡ false → left ≡ 0 → turn ≡ 0 → home ≡ true → scrubbing ≡ 1 → closing ≡ 0 → SlotStands unwritten left turn home closing scrubbing
  Scrubbed : unwritten ≡ false → left ≡ 0 → turn ≡ 2 → home ≡ false → scrubbing ≡ 0 → closing ≡ 0 → SlotStands unwritten left turn home closing scrubbing

-- a slot is scrubbed only where no use is left, and stands in one of the five ways
pub record Slots (g : Graph) (left turn : List ℕ) (home : List Bool) (unwritten : ℕ → Bool) (closing scrubbing : ℕ → ℕ) : Type 0 where
  pub unused : (slot : ℕ) → 1 ≤ scrubbing slot → slice_index left slot ≡ 0
  pub stands : (slot : ℕ) → slot < g.slots → SlotStands (unwritten slot) (slice_index left slot) (slice_index turn slot) (slice_index_or home slot false) (closing slot) (scrubbing slot)

pub record Done (g : Graph) (done : ℕ) (finished : ℕ → Bool) : Type 0 where
  pub count : done ≡ count_by finished (tasks_of g)

-- each draw behind all tasks made a seat gone; and the views stand for as many seats as there are
pub record Head (g : Graph) (head gone here seats : ℕ) : Type 0 where
  pub drawn : head ≤ g.tasks + gone
  pub all : here ≡ seats

-- the place holds a task that runs or is published
abbrev pub HasBegun : (word : ℕ) (published : List ℕ) → (ℕ → ℕ) → Type 0
HasBegun word published runners = (task : ℕ) × (word ≡ task + 1) × (1 ≤ runners task + slice_index published task)

-- the step is aborted where a seat halted, a seat is gone only behind all tasks, and what was drawn is in a seat's hands unless aborted
pub record NothingLost (g : Graph) (head abort : ℕ) (ring published : List ℕ) (gone halted : ℕ) (tickets runners : ℕ → ℕ) : Type 0 where
  pub aborted : (abort ≡ 1) ↔ (1 ≤ halted)
  pub ended : 1 ≤ gone → g.tasks < head
  pub begun : (place : ℕ) → place < head → place < g.tasks → (1 ≤ tickets place) ⊎ (HasBegun (slice_index ring place) published runners ⊎ (abort ≡ 1))

-- a sound state
pub record IsSound (c : Core) : Type 0 where
  pub graph : IsValid c.graph
  pub shapes : Shapes c.graph c.ring c.dep c.published c.left c.turn c.home c.abort c.views
  pub tickets : Tickets c.graph c.head (holders c.views)
  pub ring : Ring c.graph c.tail c.ring c.dep (λ place. number_at c.graph c.views (is_put_at place) does_something) (λ task. number_at c.graph c.views is_in_hand (lowers_successor task)) (λ place task. number_at c.graph c.views (is_put_at place) (lowers_successor task))
  pub running : Running c.graph c.head c.ring c.published (holders c.views) (runners c.views) (number_behind c.graph c.views publishes)
  pub dependencies : Dependencies c.graph c.dep (λ task successor. is_behind c.graph c.published c.views (lowers_successor successor) task)
  pub uses : Uses c.graph c.left (λ task slot. is_behind c.graph c.published c.views (lowers_use slot) task)
  pub slots : Slots c.graph c.left c.turn c.home (is_unwritten c.graph c.published) (λ slot. number_at c.graph c.views is_anything (closes slot)) (λ slot. number_at c.graph c.views is_scrub (lowers_use slot))
  pub done : Done c.graph c.done (is_finished c.published c.views)
  pub head : Head c.graph c.head (sum_by gone_of c.views) (sum_by seats_of c.views) (length c.views)
  pub nothing_lost : NothingLost c.graph c.head c.abort c.ring c.published (sum_by gone_of c.views) (sum_by halted_of c.views) (holders c.views) (runners c.views)
