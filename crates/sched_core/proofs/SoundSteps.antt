-- Each step leaves a sound state, and so does each list of steps.
use Rattle.std.proofs.Common.{ℕ, Option, Some, None, [], ◌∷◌, refl, subst}
use Rattle.std.specs.Prelude.{unwrap_or}
use Rattle.sched_core.specs.declared.event.Kind.{Kind}
use Rattle.sched_core.specs.declared.event.Kind.TheVariants as kind
use Rattle.sched_core.specs.declared.event.Event.{Event}
use Rattle.sched_core.specs.declared.state.Core.{Core}
use Rattle.sched_core.specs.Core.{view_of}
use Rattle.sched_core.specs.Start.{start}
use Rattle.sched_core.specs.Step.{finish, publish, lower_dep, place, put, open_slot, close, lower_use, scrub, next_by, next_state, state_after}
use Rattle.sched_core.specs.Sound.{IsSound}
use Rattle.sched_core.specs.Laws.{KeepsSound, StepsKeepSound, ReachedAreSound}
use Rattle.sched_core.proofs.StartSound.{sound_at_start}
use Rattle.sched_core.proofs.TicketSteps.{Leaves, by_task_leaves, split_leaves, draw_leaves, see_leaves, look_abort_leaves, abort_leaves, finish_leaves, look_done_leaves, join_leaves}
use Rattle.sched_core.proofs.GraphSteps.{publish_leaves, lower_dep_leaves, place_leaves, put_leaves, open_leaves, close_leaves, lower_use_leaves, scrub_leaves}

-- a step of any kind
step_leaves : (c : Core) → IsSound c → (seat : ℕ) (k : Kind) → Leaves (next_by c seat k)
step_leaves c sound seat kind.Split = split_leaves c sound (view_of c seat) _ refl
step_leaves c sound seat kind.Draw = draw_leaves c sound seat (view_of c seat) refl
step_leaves c sound seat kind.See = see_leaves c sound seat (view_of c seat) refl
step_leaves c sound seat kind.LookAbort = look_abort_leaves c sound seat (view_of c seat) refl
step_leaves c sound seat kind.Abort = abort_leaves c sound seat (view_of c seat) refl
step_leaves c sound seat kind.Finish = by_task_leaves finish c seat (finish_leaves c sound seat)
step_leaves c sound seat kind.LookDone = look_done_leaves c sound (view_of c seat)
step_leaves c sound seat (kind.Join other) = join_leaves c sound seat other
step_leaves c sound seat kind.Publish = by_task_leaves publish c seat (publish_leaves c sound seat)
step_leaves c sound seat kind.LowerDep = by_task_leaves lower_dep c seat (lower_dep_leaves c sound seat)
step_leaves c sound seat kind.Place = by_task_leaves place c seat (place_leaves c sound seat)
step_leaves c sound seat kind.Put = by_task_leaves put c seat (put_leaves c sound seat)
step_leaves c sound seat kind.Open = by_task_leaves open_slot c seat (open_leaves c sound seat)
step_leaves c sound seat kind.Close = by_task_leaves close c seat (close_leaves c sound seat)
step_leaves c sound seat kind.LowerUse = by_task_leaves lower_use c seat (lower_use_leaves c sound seat)
step_leaves c sound seat kind.Scrub = by_task_leaves scrub c seat (scrub_leaves c sound seat)

pub keeps_sound : (k : Kind) → KeepsSound k
keeps_sound k c new seat sound is = subst Leaves is (step_leaves c sound seat k)

-- a step that is not enabled changes nothing
pub step_sound : (c : Core) (event : Event) → IsSound c → IsSound (state_after c event)
unfolding next_state
step_sound c event sound = stays (next_by c event.seat event.kind) (step_leaves c sound event.seat event.kind) where
  stays : (next : Option Core) → Leaves next → IsSound (unwrap_or next c)
  stays None h = sound
  stays (Some new) h = h

pub steps_sound : StepsKeepSound
steps_sound c [] sound = sound
steps_sound c (event ∷ events) sound = steps_sound (state_after c event) events (step_sound c event sound)

pub reached_sound : ReachedAreSound
reached_sound g seats events valid some few = steps_sound (start g seats) events (sound_at_start (start g seats) g seats refl valid some few)
