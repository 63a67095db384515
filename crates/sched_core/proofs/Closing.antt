-- Seats that are made, halted and joined leave sound states.
use Rattle.std.proofs.Common.{◌≡◌, ◌∙◌, ◌≤◌, ◌<◌, ℕ, true, Some, inr, List, length, sym, refl, subst, arith, length-set}
use Rattle.std.specs.Prelude.{nat_lt, slice_set, slice_index, slice_index_or}
use Rattle.std.specs.List.{sum_by, position, position_or_len}
use Rattle.std.proofs.lemmas.Bool.{ltb-true, false≢true}
use Rattle.std.proofs.lemmas.Option.{cond_some}
use Rattle.std.proofs.lemmas.List.Sums.{passes_at_first}
use Rattle.sched_core.specs.declared.view.View.{View}
use Rattle.sched_core.specs.declared.view.View.TheVariants as view
use Rattle.sched_core.specs.declared.state.Core.{Core}
use Rattle.sched_core.specs.Core.{holds, holders, runners, number_behind, publishes, gone_of, halted_of, seats_of}
use Rattle.sched_core.specs.Step.{is_unmade, with_view}
use Rattle.sched_core.specs.Sound.{Shapes, IsSound}
use Rattle.sched_core.proofs.Seats.{IsSeat, counted, count_same, sum_same, summed}
use Rattle.sched_core.proofs.Frames.{shapes_seat, IsWorkSound, work_framed, work_of, sound_of, fewer_tickets, head_stays, begun_still, lost_none, running_moved}
use Rattle.sched_core.proofs.Quiet.{is_running, quiet_runners, quiet_behind, quiet_dues, quiet_same}

-- views of which all that the invariant counts is as before
module _ (c : Core) (after : List View)
    (tickets : (place : ℕ) → holders c.views place ≡ holders after place)
    (running : (task : ℕ) → runners c.views task ≡ runners after task)
    (publishing : (task : ℕ) → number_behind c.graph c.views publishes task ≡ number_behind c.graph after publishes task)
    (gone : sum_by gone_of after ≡ sum_by gone_of c.views)
    (halted : sum_by halted_of after ≡ sum_by halted_of c.views)
    (seats : sum_by seats_of after ≡ sum_by seats_of c.views)
    (number : length after ≡ length c.views)
    (shapes : Shapes c.graph c.ring c.dep c.published c.left c.turn c.home c.abort after)
    (work : IsWorkSound c after)
    (sound : IsSound c) where
  pub same_numbers : IsSound (record c { views = after })
  same_numbers = sound_of c after sound.graph work (record {
    shapes = shapes;
    tickets = fewer_tickets c.graph c.head (holders c.views) (holders after) (λ place. omega (arith, tickets place)) sound.tickets;
    running = running_moved c.graph c.head c.head c.ring c.published (holders c.views) (holders after) (runners c.views) (runners after) (number_behind c.graph c.views publishes) (number_behind c.graph after publishes)
        (omega arith) (λ place lt none. sym (tickets place) ∙ none) running publishing sound.running;
    head = head_stays c after gone seats number sound;
    nothing_lost = lost_none c after gone halted (λ place lt room. begun_still (slice_index c.ring place) c.abort c.published c.published (holders c.views place) (holders after place) (runners c.views) (runners after)
        (λ some. omega (arith, tickets place)) (λ task there some. omega (arith, running task)) (sound.nothing_lost.begun place lt room)) sound;
  })

-- the first seat that is not made is one, and not made
made : (v : View) → is_unmade v ≡ true → v ≡ view.Unmade
made view.Unmade h = refl
made _ h = absurd (false≢true h)

pub split_sound : (c : Core) (unmade : ℕ) → position is_unmade c.views ≡ Some unmade → IsSound c → IsSound (with_view c unmade view.Idle)
unfolding is_running
split_sound c unmade first sound =
    let found = cond_some (nat_lt (position_or_len is_unmade c.views) (length c.views)) (position_or_len is_unmade c.views) unmade first in
    let within : unmade < length c.views = subst (λ (k : ℕ). k < length c.views) found.1 (ltb-true _ _ found.0) in
    let passes : is_unmade (slice_index_or c.views unmade view.Spent) ≡ true =
    subst (λ (k : ℕ). is_unmade (slice_index_or c.views k view.Spent) ≡ true) found.1 (passes_at_first is_unmade c.views view.Spent (ltb-true _ _ found.0)) in
    let is : IsSeat c.views unmade view.Unmade = record { within = within; was = made (slice_index_or c.views unmade view.Spent) passes } in
    let after = slice_set c.views unmade view.Idle in
    same_numbers c after
    (λ place. sym (count_same c.views unmade view.Unmade view.Idle is (holds place) refl))
    (quiet_runners c.views unmade view.Unmade view.Idle is refl refl)
    (quiet_behind c.views unmade view.Unmade view.Idle is refl refl c.graph publishes)
    (sum_same c.views unmade view.Unmade view.Idle is gone_of refl)
    (sum_same c.views unmade view.Unmade view.Idle is halted_of refl)
    (sum_same c.views unmade view.Unmade view.Idle is seats_of refl)
    (length-set c.views unmade view.Idle)
    (shapes_seat c.graph c.ring c.dep c.published c.left c.turn c.home c.abort c.views unmade view.Idle refl sound.shapes)
    (work_framed c c.views after (quiet_dues c.views unmade view.Unmade view.Idle is refl refl c.graph) (quiet_same c.views unmade view.Unmade view.Idle is refl refl c.graph c.published) (work_of c sound))
    sound

-- a ticket is given up by a seat that saw the abort
pub halt_sound : (c : Core) (seat place : ℕ) → IsSeat c.views seat (view.Ticket place) → c.abort ≡ 1 → IsSound c → IsSound (with_view c seat view.Halted)
unfolding is_running
halt_sound c seat place is aborted sound =
    let after = slice_set c.views seat view.Halted in
    let work = work_framed c c.views after (quiet_dues c.views seat (view.Ticket place) view.Halted is refl refl c.graph) (quiet_same c.views seat (view.Ticket place) view.Halted is refl refl c.graph c.published) (work_of c sound) in
    let gone = sum_same c.views seat (view.Ticket place) view.Halted is gone_of refl in
    let halted = summed c.views seat (view.Ticket place) view.Halted is halted_of in
    let seats = sum_same c.views seat (view.Ticket place) view.Halted is seats_of refl in
    sound_of c after sound.graph work (record {
      shapes = shapes_seat c.graph c.ring c.dep c.published c.left c.turn c.home c.abort c.views seat view.Halted refl sound.shapes;
      tickets = fewer_tickets c.graph c.head (holders c.views) (holders after) fewer sound.tickets;
      running = running_moved c.graph c.head c.head c.ring c.published (holders c.views) (holders after) (runners c.views) (runners after) (number_behind c.graph c.views publishes) (number_behind c.graph after publishes)
          (omega arith) (λ p lt none. omega (arith, fewer p)) (quiet_runners c.views seat (view.Ticket place) view.Halted is refl refl) (quiet_behind c.views seat (view.Ticket place) view.Halted is refl refl c.graph publishes) sound.running;
      head = head_stays c after gone seats (length-set c.views seat view.Halted) sound;
      nothing_lost = record {
        aborted = (λ _. omega (arith, halted), λ _. aborted);
        ended = λ some. sound.nothing_lost.ended (omega (arith, gone));
        begun = λ p lt room. inr (inr aborted);
      };
    })
  where
    fewer : (p : ℕ) → holders (slice_set c.views seat view.Halted) p ≤ holders c.views p
    fewer p = omega (arith, counted c.views seat (view.Ticket place) view.Halted is (holds p))
