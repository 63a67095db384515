-- A seat that stays with its task: what the invariant says of tickets, of running tasks and of all that was drawn stays.
use Rattle.std.proofs.Common.{◌≡◌, ◌∙◌, ℕ, true, sym, refl, arith, length-set}
use Rattle.std.specs.Prelude.{slice_get, slice_set, slice_index}
use Rattle.sched_core.specs.declared.view.Due.{Due}
use Rattle.sched_core.specs.declared.view.View.TheVariants as view
use Rattle.sched_core.specs.declared.state.Core.{Core}
use Rattle.sched_core.specs.Core.{script, holds, holders, runners, number_behind, publishes, gone_of, halted_of, seats_of}
use Rattle.sched_core.specs.Sound.{may_owe, IsSound}
use Rattle.sched_core.proofs.Seats.{IsSeat, count_same, sum_same}
use Rattle.sched_core.proofs.Frames.{IsSeatSound, shapes_seat, fewer_tickets, head_stays, begun_still, lost_none, running_moved}
use Rattle.sched_core.proofs.Facts.{fits_there}
use Rattle.sched_core.proofs.Moving.{runners_stay}

module _ (c : Core) (seat task at at' : ℕ) (owed owed' : Due) (is : IsSeat c.views seat (view.Running task at owed)) (sound : IsSound c) where
  tickets_stay : (place : ℕ) → holders (slice_set c.views seat (view.Running task at' owed')) place ≡ holders c.views place
  tickets_stay place = count_same c.views seat (view.Running task at owed) (view.Running task at' owed') is (holds place) refl

  pub goes_on : may_owe owed' (slice_get (script c.graph task) at') ≡ true →
      ((t : ℕ) → number_behind c.graph c.views publishes t ≡ number_behind c.graph (slice_set c.views seat (view.Running task at' owed')) publishes t) →
      IsSeatSound c (slice_set c.views seat (view.Running task at' owed'))
  goes_on fits publishing =
      let new = view.Running task at' owed' in
      let views = slice_set c.views seat new in
      let gone = sum_same c.views seat (view.Running task at owed) new is gone_of refl in
      let halted = sum_same c.views seat (view.Running task at owed) new is halted_of refl in
      let seats = sum_same c.views seat (view.Running task at owed) new is seats_of refl in
      let ran = runners_stay c seat task at at' owed owed' is sound in
      record {
        shapes = shapes_seat c.graph c.ring c.dep c.published c.left c.turn c.home c.abort c.views seat new (fits_there c sound seat task at at' owed owed' is fits) sound.shapes;
        tickets = fewer_tickets c.graph c.head (holders c.views) (holders views) (λ p. omega (arith, tickets_stay p)) sound.tickets;
        running = running_moved c.graph c.head c.head c.ring c.published (holders c.views) (holders views) (runners c.views) (runners views) (number_behind c.graph c.views publishes) (number_behind c.graph views publishes)
            (omega arith) (λ p lt none. tickets_stay p ∙ none) (λ t. sym (ran t)) publishing sound.running;
        head = head_stays c views gone seats (length-set c.views seat new) sound;
        nothing_lost = lost_none c views gone halted (λ p lt room. begun_still (slice_index c.ring p) c.abort c.published c.published (holders c.views p) (holders views p) (runners c.views) (runners views)
            (λ some. omega (arith, tickets_stay p)) (λ t there some. omega (arith, ran t)) (sound.nothing_lost.begun p lt room)) sound;
      }
