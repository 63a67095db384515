-- What each kind of step does, where it is enabled. A step is one step on one word by one seat.
use Rattle.std.specs.Prelude.{◌≡◌, is_some, ℕ, ◌+◌, ◌-◌, ◌==◌, Bool, true, false, nat_lt, if◌then◌else◌, List, [], ◌∷◌, Option, Some, None, unwrap_or, slice_index, slice_set}
use Rattle.std.specs.List.{fold, position}
use Rattle.graph_types.specs.Graph.{writes_of}
use Rattle.sched_core.specs.declared.act.Act.{Act}
use Rattle.sched_core.specs.declared.act.Act.TheVariants as act
use Rattle.sched_core.specs.declared.view.Due.{Due}
use Rattle.sched_core.specs.declared.view.Due.TheVariants as due
use Rattle.sched_core.specs.declared.view.View.{View}
use Rattle.sched_core.specs.declared.view.View.TheVariants.{Unmade, Idle, Ticket, Running, Gone, Halted, Closing, Spent}
use Rattle.sched_core.specs.declared.view.Doing.{Doing}
use Rattle.sched_core.specs.declared.event.Kind.{Kind}
use Rattle.sched_core.specs.declared.event.Kind.TheVariants.{Split, Draw, See, LookAbort, Abort, Finish, LookDone, Join, Publish, LowerDep, Place, Put, Open, Close, LowerUse, Scrub}
use Rattle.sched_core.specs.declared.event.Event.{Event}
use Rattle.sched_core.specs.declared.state.Core.{Core}
use Rattle.sched_core.specs.Core.{doing, view_of}

-- the seat has this view now
abbrev pub with_view : Core → (seat : ℕ) → View → Core
with_view c seat view = record c { views = slice_set c.views seat view }

abbrev pub is_unmade : View → Bool
is_unmade Unmade = true
is_unmade _ = false

-- the views behind a task's place: the next place, and the same place with something due
abbrev pub next_place : Doing → View
next_place d = Running d.task (d.at + 1) due.Nothing

abbrev pub still_due : Doing → Due → View
still_due d owed = Running d.task d.at owed

-- the slots, one after the other, have this mark
abbrev pub marked : List Bool → (slots : List ℕ) → Bool → List Bool
marked marks slots mark = fold (λ ms slot. slice_set ms slot mark) marks slots

-- Tickets.

-- the first seat that is not made becomes idle
abbrev pub split : Core → View → (unmade : Option ℕ) → Option Core
split c Idle (Some seat) = Some (with_view c seat Idle)
split c _ _ = None

abbrev pub drawn : Core → (place : ℕ) → View
drawn c place = if nat_lt place c.graph.tasks then Ticket place else Gone

abbrev pub draw : Core → (seat : ℕ) → View → Option Core
draw c seat Idle = Some (record c { head = c.head + 1; views = slice_set c.views seat (drawn c c.head) })
draw c seat _ = None

-- nothing stands at the place yet, or the task below this word
abbrev pub seen : (place word : ℕ) → View
seen place word = if word == 0 then Ticket place else Running (word - 1) 0 due.Nothing

abbrev pub see : Core → (seat : ℕ) → View → Option Core
see c seat (Ticket place) = Some (with_view c seat (seen place (slice_index c.ring place)))
see c seat _ = None

abbrev pub look_abort : Core → (seat : ℕ) → View → Option Core
look_abort c seat (Ticket place) = Some (with_view c seat (if c.abort == 1 then Halted else Ticket place))
look_abort c seat _ = None

abbrev pub abort_before : Core → (seat at : ℕ) → Due → Option Core
abort_before c seat at due.Nothing = if at == 0 then Some (record c { abort = 1; views = slice_set c.views seat Halted }) else None
abort_before c seat at _ = None

abbrev pub abort : Core → (seat : ℕ) → View → Option Core
abort c seat (Running task at owed) = abort_before c seat at owed
abort c seat _ = None

abbrev pub finish : Core → (seat : ℕ) → Doing → Due → Act → Option Core
finish c seat d due.Nothing act.Finishes = Some (record c { done = c.done + 1; views = slice_set c.views seat Idle })
finish c seat d _ _ = None

abbrev pub look_done : Core → View → Option Core
look_done c Idle = Some c
look_done c Gone = Some c
look_done c Halted = Some c
look_done c (Closing gone halted) = Some c
look_done c _ = None

-- how many seats that were gone, and how many that halted, a view stands for that draws no more
abbrev pub closed : View → Option (ℕ × ℕ)
closed Gone = Some (1, 0)
closed Halted = Some (0, 1)
closed (Closing gone halted) = Some (gone, halted)
closed _ = None

abbrev pub joined : Core → (seat other : ℕ) → (mine theirs : Option (ℕ × ℕ)) → Option Core
joined c seat other (Some mine) (Some theirs) =
    Some (with_view (with_view c seat (Closing (mine.0 + theirs.0) (mine.1 + theirs.1))) other Spent)
joined c seat other _ _ = None

abbrev pub join : Core → (seat other : ℕ) → Option Core
join c seat other = if seat == other then None else joined c seat other (closed (view_of c seat)) (closed (view_of c other))

-- The graph.

abbrev pub publish : Core → (seat : ℕ) → Doing → Due → Act → Option Core
publish c seat d due.Nothing act.Publishes =
    Some (record c { published = slice_set c.published d.task 1; home = marked c.home (writes_of c.graph d.task) true; views = slice_set c.views seat (next_place d) })
publish c seat d _ _ = None

-- something is due where the count was 1
abbrev pub lowered : Doing → (count : ℕ) → Due → View
lowered d count owed = if count == 1 then still_due d owed else next_place d

abbrev pub lower_dep : Core → (seat : ℕ) → Doing → Due → Act → Option Core
lower_dep c seat d due.Nothing (act.LowersSuccessor task) =
    Some (record c { dep = slice_set c.dep task (slice_index c.dep task - 1); views = slice_set c.views seat (lowered d (slice_index c.dep task) due.Place) })
lower_dep c seat d _ _ = None

abbrev pub place : Core → (seat : ℕ) → Doing → Due → Act → Option Core
place c seat d due.Place (act.LowersSuccessor task) = Some (record c { tail = c.tail + 1; views = slice_set c.views seat (still_due d (due.Put c.tail)) })
place c seat d _ _ = None

abbrev pub put : Core → (seat : ℕ) → Doing → Due → Act → Option Core
put c seat d (due.Put at) (act.LowersSuccessor task) = Some (record c { ring = slice_set c.ring at (task + 1); views = slice_set c.views seat (next_place d) })
put c seat d _ _ = None

-- Slots.

-- the slot has this turn, its value is there or not, and the seat goes on
abbrev pub turned : Core → (seat : ℕ) → Doing → (slot turn : ℕ) → Bool → Core
turned c seat d slot turn home =
    record c { turn = slice_set c.turn slot turn; home = slice_set c.home slot home; views = slice_set c.views seat (next_place d) }

abbrev pub open_slot : Core → (seat : ℕ) → Doing → Due → Act → Option Core
open_slot c seat d due.Nothing (act.Opens slot) = Some (if slice_index c.turn slot == 0 then turned c seat d slot 1 false else c)
open_slot c seat d _ _ = None

abbrev pub close : Core → (seat : ℕ) → Doing → Due → Act → Option Core
close c seat d due.Nothing (act.Closes slot) = Some (turned c seat d slot 0 true)
close c seat d _ _ = None

abbrev pub lower_use : Core → (seat : ℕ) → Doing → Due → Act → Option Core
lower_use c seat d due.Nothing (act.LowersUse slot) =
    Some (record c { left = slice_set c.left slot (slice_index c.left slot - 1); views = slice_set c.views seat (lowered d (slice_index c.left slot) due.Scrub) })
lower_use c seat d _ _ = None

abbrev pub scrub : Core → (seat : ℕ) → Doing → Due → Act → Option Core
scrub c seat d due.Scrub (act.LowersUse slot) = Some (turned c seat d slot 2 false)
scrub c seat d _ _ = None

-- a step by what the seat's task does
abbrev pub by_task : (Core → ℕ → Doing → Due → Act → Option Core) → Core → (seat : ℕ) → Option Doing → Option Core
by_task effect c seat None = None
by_task effect c seat (Some d) = effect c seat d d.due d.act

abbrev pub by_doing : (Core → ℕ → Doing → Due → Act → Option Core) → Core → (seat : ℕ) → Option Core
by_doing effect c seat = by_task effect c seat (doing c.graph (view_of c seat))

abbrev pub next_by : Core → (seat : ℕ) → Kind → Option Core
next_by c seat Split = split c (view_of c seat) (position is_unmade c.views)
next_by c seat Draw = draw c seat (view_of c seat)
next_by c seat See = see c seat (view_of c seat)
next_by c seat LookAbort = look_abort c seat (view_of c seat)
next_by c seat Abort = abort c seat (view_of c seat)
next_by c seat Finish = by_doing finish c seat
next_by c seat LookDone = look_done c (view_of c seat)
next_by c seat (Join other) = join c seat other
next_by c seat Publish = by_doing publish c seat
next_by c seat LowerDep = by_doing lower_dep c seat
next_by c seat Place = by_doing place c seat
next_by c seat Put = by_doing put c seat
next_by c seat Open = by_doing open_slot c seat
next_by c seat Close = by_doing close c seat
next_by c seat LowerUse = by_doing lower_use c seat
next_by c seat Scrub = by_doing scrub c seat

-- the state behind the step, or none where the step is not enabled
unfoldable pub next_state : Core → Event → Option Core
next_state c event = next_by c event.seat event.kind

-- the state behind the steps; one that is not enabled changes nothing
abbrev pub state_after : Core → Event → Core
state_after c event = unwrap_or (next_state c event) c

abbrev pub states_after : Core → (events : List Event) → Core
states_after c [] = c
states_after c (event ∷ events) = states_after (state_after c event) events

-- a step that was taken leaves the next state, and one that is not enabled changes nothing
pub record Takes (next : Option Core) (old new : Core) (taken : Bool) : Type 0 where
  pub enabled : taken ≡ is_some next
  pub state : new ≡ unwrap_or next old
