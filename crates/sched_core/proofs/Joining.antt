-- Two seats that are joined leave a sound state.
use Rattle.std.proofs.Common.{◌≡◌, ◌∙◌, ◌≢◌, ◌<◌, ◌+◌, ℕ, false, Some, ap, sym, refl, subst, arith, length-set, get_or-set_other}
use Rattle.std.specs.Prelude.{slice_set}
use Rattle.std.proofs.lemmas.Option.{none-some, same_Some}
use Rattle.sched_core.specs.declared.view.View.{View}
use Rattle.sched_core.specs.declared.view.View.TheVariants as view
use Rattle.sched_core.specs.declared.state.Core.{Core}
use Rattle.sched_core.specs.Core.{holds, publishes, gone_of, halted_of, seats_of, view_of}
use Rattle.sched_core.specs.Step.{closed, with_view}
use Rattle.sched_core.specs.Sound.{IsSound}
use Rattle.sched_core.proofs.Seats.{IsSeat, seat_of, count_same, summed}
use Rattle.sched_core.proofs.Frames.{shapes_seat, work_framed, work_of}
use Rattle.sched_core.proofs.Quiet.{is_running, quiet_runners, quiet_behind, quiet_dues, quiet_same}
use Rattle.sched_core.proofs.Closing.{same_numbers}

-- what a view that draws no more stands for
pub record IsClosed (v : View) (stands : ℕ × ℕ) : Type 0 where
  pub quiet : is_running v ≡ false
  pub no_ticket : (place : ℕ) → holds place v ≡ false
  pub gone : gone_of v ≡ stands.0
  pub halted : halted_of v ≡ stands.1
  pub seats : seats_of v ≡ stands.0 + stands.1
  pub real : v ≢ view.Spent

pub closed_is : (v : View) (stands : ℕ × ℕ) → closed v ≡ Some stands → IsClosed v stands
unfolding is_running
closed_is view.Gone stands h =
    let e = same_Some _ stands h in
    record { quiet = refl; no_ticket = λ p. refl; gone = ap (λ (n : ℕ × ℕ). n.0) e; halted = ap (λ (n : ℕ × ℕ). n.1) e; seats = ap (λ (n : ℕ × ℕ). n.0 + n.1) e; real = λ e. cc }
closed_is view.Halted stands h =
    let e = same_Some _ stands h in
    record { quiet = refl; no_ticket = λ p. refl; gone = ap (λ (n : ℕ × ℕ). n.0) e; halted = ap (λ (n : ℕ × ℕ). n.1) e; seats = ap (λ (n : ℕ × ℕ). n.0 + n.1) e; real = λ e. cc }
closed_is (view.Closing gone halted) stands h =
    let e = same_Some _ stands h in
    record { quiet = refl; no_ticket = λ p. refl; gone = ap (λ (n : ℕ × ℕ). n.0) e; halted = ap (λ (n : ℕ × ℕ). n.1) e; seats = ap (λ (n : ℕ × ℕ). n.0 + n.1) e; real = λ e. cc }
closed_is _ stands h = absurd (none-some stands h)

pub join_sound : (c : Core) (seat other : ℕ) (mine theirs : ℕ × ℕ) → seat ≢ other → closed (view_of c seat) ≡ Some mine → closed (view_of c other) ≡ Some theirs → IsSound c →
    IsSound (with_view (with_view c seat (view.Closing (mine.0 + theirs.0) (mine.1 + theirs.1))) other view.Spent)
unfolding is_running
join_sound c seat other mine theirs apart own their sound =
    let first = closed_is (view_of c seat) mine own in
    let second = closed_is (view_of c other) theirs their in
    let joined = view.Closing (mine.0 + theirs.0) (mine.1 + theirs.1) in
    let views = slice_set c.views seat joined in
    let after = slice_set views other view.Spent in
    let is : IsSeat c.views seat (view_of c seat) = seat_of c.views seat (view_of c seat) refl first.real in
    let there : IsSeat c.views other (view_of c other) = seat_of c.views other (view_of c other) refl second.real in
    let away : other ≢ seat = λ e. apart (sym e) in
    let then : IsSeat views other (view_of c other) = record { within = subst (λ (n : ℕ). other < n) (sym (length-set c.views seat joined)) there.within; was = get_or-set_other c.views seat other joined view.Spent away } in
    let gone1 = summed c.views seat (view_of c seat) joined is gone_of in
    let gone2 = summed views other (view_of c other) view.Spent then gone_of in
    let halted1 = summed c.views seat (view_of c seat) joined is halted_of in
    let halted2 = summed views other (view_of c other) view.Spent then halted_of in
    let seats1 = summed c.views seat (view_of c seat) joined is seats_of in
    let seats2 = summed views other (view_of c other) view.Spent then seats_of in
    let shapes1 = shapes_seat c.graph c.ring c.dep c.published c.left c.turn c.home c.abort c.views seat joined refl sound.shapes in
    let work1 = work_framed c c.views views (quiet_dues c.views seat (view_of c seat) joined is first.quiet refl c.graph) (quiet_same c.views seat (view_of c seat) joined is first.quiet refl c.graph c.published) (work_of c sound) in
    same_numbers c after
    (λ place. sym (count_same c.views seat (view_of c seat) joined is (holds place) (first.no_ticket place)) ∙ sym (count_same views other (view_of c other) view.Spent then (holds place) (second.no_ticket place)))
    (λ task. quiet_runners c.views seat (view_of c seat) joined is first.quiet refl task ∙ quiet_runners views other (view_of c other) view.Spent then second.quiet refl task)
    (λ task. quiet_behind c.views seat (view_of c seat) joined is first.quiet refl c.graph publishes task ∙ quiet_behind views other (view_of c other) view.Spent then second.quiet refl c.graph publishes task)
    (omega (arith, gone1, gone2, first.gone, second.gone))
    (omega (arith, halted1, halted2, first.halted, second.halted))
    (omega (arith, seats1, seats2, first.seats, second.seats))
    (length-set views other view.Spent ∙ length-set c.views seat joined)
    (shapes_seat c.graph c.ring c.dep c.published c.left c.turn c.home c.abort views other view.Spent refl shapes1)
    (work_framed c views after (quiet_dues views other (view_of c other) view.Spent then second.quiet refl c.graph) (quiet_same views other (view_of c other) view.Spent then second.quiet refl c.graph c.published) work1)
    sound
