-- The script of a task, and where the seats stand in it.
use Rattle.std.specs.Prelude.{ℕ, ◌+◌, ◌==◌, Bool, true, false, ◌&&◌, ◌||◌, nat_lt, List, [], ◌∷◌, ◌++◌, map, take, Option, Some, None, option_map, slice_get, slice_index, slice_index_or}
use Rattle.std.specs.List.{count_by, flat_map, list_any}
use Rattle.graph_types.specs.declared.graph.Graph.{Graph}
use Rattle.graph_types.specs.Graph.{reads_of, writes_of, successors_of}
use Rattle.sched_core.specs.declared.act.Act.{Act}
use Rattle.sched_core.specs.declared.act.Act.TheVariants.{Opens, Closes, Publishes, LowersUse, LowersSuccessor, Finishes}
use Rattle.sched_core.specs.declared.view.Due.{Due}
use Rattle.sched_core.specs.declared.view.Due.TheVariants.{Nothing, Scrub, Place, Put}
use Rattle.sched_core.specs.declared.view.View.{View}
use Rattle.sched_core.specs.declared.view.View.TheVariants.{Ticket, Running, Gone, Halted, Closing, Spent}
use Rattle.sched_core.specs.declared.view.Doing.{Doing}
use Rattle.sched_core.specs.declared.state.Core.{Core}

-- what a task does with a slot that it reads
abbrev pub reading : (slot : ℕ) → List Act
reading slot = Opens slot ∷ Closes slot ∷ []

-- what a task lowers when it has published: the uses of what it read and wrote, then the counts of its successors
abbrev pub lowering : Graph → (task : ℕ) → List Act
lowering g task = map LowersUse (reads_of g task ++ writes_of g task) ++ map LowersSuccessor (successors_of g task)

-- The script of a task, place by place. It opens and closes what it reads, publishes, lowers, and finishes.
unfoldable pub script : Graph → (task : ℕ) → List Act
script g task = flat_map reading (reads_of g task) ++ (Publishes ∷ (lowering g task ++ (Finishes ∷ [])))

-- what a running view does, and where
abbrev pub doing : Graph → View → Option Doing
doing g (Running task at due) = option_map (λ act. record { task = task; at = at; due = due; act = act }) (slice_get (script g task) at)
doing g _ = None

-- Tests of acts.
abbrev pub closes : (slot : ℕ) → Act → Bool
closes slot (Closes s) = s == slot
closes slot _ = false

abbrev pub publishes : Act → Bool
publishes Publishes = true
publishes _ = false

abbrev pub lowers_use : (slot : ℕ) → Act → Bool
lowers_use slot (LowersUse s) = s == slot
lowers_use slot _ = false

abbrev pub lowers_successor : (task : ℕ) → Act → Bool
lowers_successor task (LowersSuccessor t) = t == task
lowers_successor task _ = false

abbrev pub does_something : Act → Bool
does_something _ = true

-- Tests of what is due.
abbrev pub is_scrub : Due → Bool
is_scrub Scrub = true
is_scrub _ = false

abbrev pub is_put_at : (place : ℕ) → Due → Bool
is_put_at place (Put p) = p == place
is_put_at place _ = false

-- a task that waits for nothing more, and is not put yet
abbrev pub is_in_hand : Due → Bool
is_in_hand Place = true
is_in_hand (Put _) = true
is_in_hand _ = false

abbrev pub is_anything : Due → Bool
is_anything _ = true

-- Tests of views: it holds the ticket of a place, it runs a task.
abbrev pub holds : (place : ℕ) → View → Bool
holds place (Ticket p) = p == place
holds place _ = false

abbrev pub runs : (task : ℕ) → View → Bool
runs task (Running t at due) = t == task
runs task _ = false

-- the act at a place, if there is one, passes the test
abbrev pub act_passes : (Act → Bool) → Option Act → Bool
act_passes test None = false
act_passes test (Some act) = test act

-- it stands at such an act, and such a thing is due
abbrev pub is_at : Graph → (Due → Bool) → (Act → Bool) → View → Bool
is_at g is_due test (Running task at due) = is_due due && act_passes test (slice_get (script g task) at)
is_at g is_due test _ = false

-- how many places a task has behind it; at one where something is due, the count was lowered
abbrev pub places_behind : (at : ℕ) → Due → ℕ
places_behind at Nothing = at
places_behind at _ = at + 1

-- it runs the task and has such an act behind it
abbrev pub has_behind : Graph → (Act → Bool) → (task : ℕ) → View → Bool
has_behind g test task (Running t at due) = (t == task) && list_any test (take (places_behind at due) (script g t))
has_behind g test task _ = false

-- How many seats the tests hold for: the ticket of a place, a task, an act behind a task.
abbrev pub holders : List View → (place : ℕ) → ℕ
holders views place = count_by (holds place) views

abbrev pub runners : List View → (task : ℕ) → ℕ
runners views task = count_by (runs task) views

abbrev pub number_behind : Graph → List View → (Act → Bool) → (task : ℕ) → ℕ
number_behind g views test task = count_by (has_behind g test task) views

abbrev pub number_at : Graph → List View → (Due → Bool) → (Act → Bool) → ℕ
number_at g views is_due test = count_by (is_at g is_due test) views

-- the task has published, and no seat runs it
abbrev pub is_finished : (published : List ℕ) → List View → (task : ℕ) → Bool
is_finished published views task = (slice_index published task == 1) && (runners views task == 0)

-- the task is finished, or a seat runs it and has such an act behind it
abbrev pub is_behind : Graph → (published : List ℕ) → List View → (Act → Bool) → (task : ℕ) → Bool
is_behind g published views test task = is_finished published views task || nat_lt 0 (number_behind g views test task)

-- What seats add up to: those that were gone and those that halted, and how many seats each stands for.
abbrev pub gone_of : View → ℕ
gone_of Gone = 1
gone_of (Closing gone halted) = gone
gone_of _ = 0

abbrev pub halted_of : View → ℕ
halted_of Halted = 1
halted_of (Closing gone halted) = halted
halted_of _ = 0

abbrev pub seats_of : View → ℕ
seats_of (Closing gone halted) = gone + halted
seats_of Spent = 0
seats_of _ = 1

-- the view of a seat; a number that no seat has is as good as spent
abbrev pub view_of : Core → (seat : ℕ) → View
view_of c seat = slice_index_or c.views seat Spent
