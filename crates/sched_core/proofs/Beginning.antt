-- A seat that sees its task, and one that aborts, leave sound states.
use Rattle.std.proofs.Common.{◌≡◌, ◌∙◌, ◌≢◌, ◌≤◌, ◌<◌, ◌+◌, ℕ, Bool, false, ◌⊎◌, inl, inr, ap, sym, refl, subst, arith, length-set}
use Rattle.std.specs.Prelude.{◌==◌, ◌&&◌, slice_set, slice_index}
use Rattle.std.proofs.lemmas.Bool.{cases_eq, eq-eqb, ne_eqb, lt-ltb, and_from, and_right}
use Rattle.sched_core.specs.declared.act.Act.{Act}
use Rattle.sched_core.specs.declared.view.Due.TheVariants as due
use Rattle.sched_core.specs.declared.view.View.{View}
use Rattle.sched_core.specs.declared.view.View.TheVariants as view
use Rattle.sched_core.specs.declared.state.Core.{Core}
use Rattle.sched_core.specs.Core.{holds, holders, runners, runs, is_at, has_behind, number_behind, is_finished, is_scrub, is_put_at, is_in_hand, is_anything, closes, publishes, lowers_use, lowers_successor, gone_of, halted_of, seats_of}
use Rattle.sched_core.specs.Step.{with_view}
use Rattle.sched_core.specs.Sound.{HasBegun, IsDrawn, IsSound}
use Rattle.sched_core.proofs.Seats.{IsSeat, counted, count_same, count_less, count_more, count_at_least, sum_same}
use Rattle.sched_core.proofs.Frames.{SameDues, shapes_seat, IsWorkSound, work_framed, work_of, sound_of, fewer_tickets, head_stays, begun_still, lost_none}
use Rattle.sched_core.proofs.Scripts.{first_opens, has_first}
use Rattle.sched_core.proofs.Facts.{behind_runs, unpublished, is_task, not_begun}

-- the view of a seat that is about to begin a task
abbrev pub begins : ℕ → View
begins task = view.Running task 0 due.Nothing

module _ (c : Core) (seat place task : ℕ) (is : IsSeat c.views seat (view.Ticket place)) (stands : slice_index c.ring place ≡ task + 1) (sound : IsSound c) where
  held : 1 ≤ holders c.views place
  held = count_at_least c.views seat (view.Ticket place) (begins task) is (holds place) (eq-eqb place place refl)

  below : task < c.graph.tasks
  below = is_task c sound place task stands

  begun_not : runners c.views task + slice_index c.published task ≡ 0
  begun_not = not_begun c sound place task held stands

  fewer : (p : ℕ) → holders (slice_set c.views seat (begins task)) p ≤ holders c.views p
  fewer p = omega (arith, counted c.views seat (view.Ticket place) (begins task) is (holds p))

  given_up : holders (slice_set c.views seat (begins task)) place ≡ 0
  given_up = omega (arith, count_less c.views seat (view.Ticket place) (begins task) is (holds place) (eq-eqb place place refl) refl, sound.tickets.apart place)

  other_tickets : (p : ℕ) → p ≢ place → holders (slice_set c.views seat (begins task)) p ≡ holders c.views p
  other_tickets p other = count_same c.views seat (view.Ticket place) (begins task) is (holds p) (ne_eqb place p (λ e. other (sym e)))

  runs_now : runners (slice_set c.views seat (begins task)) task ≡ runners c.views task + 1
  runs_now = count_more c.views seat (view.Ticket place) (begins task) is (runs task) refl (eq-eqb task task refl)

  other_runners : (t : ℕ) → t ≢ task → runners (slice_set c.views seat (begins task)) t ≡ runners c.views t
  other_runners t other = count_same c.views seat (view.Ticket place) (begins task) is (runs t) (sym (ne_eqb task t (λ e. other (sym e))))

  more : (t : ℕ) → runners c.views t ≤ runners (slice_set c.views seat (begins task)) t
  more t = omega (arith, counted c.views seat (view.Ticket place) (begins task) is (runs t))

  behind_same : (test : Act → Bool) (t : ℕ) → number_behind c.graph c.views test t ≡ number_behind c.graph (slice_set c.views seat (begins task)) test t
  behind_same test t = sym (count_same c.views seat (view.Ticket place) (begins task) is (has_behind c.graph test t) (sym (and_right (task == t) false refl)))

  dues : SameDues c.graph c.views (slice_set c.views seat (begins task))
  dues = record {
    put = λ p test. sym (count_same c.views seat (view.Ticket place) (begins task) is (is_at c.graph (is_put_at p) test) refl);
    in_hand = λ t. sym (count_same c.views seat (view.Ticket place) (begins task) is (is_at c.graph is_in_hand (lowers_successor t)) refl);
    closing = λ slot. sym (count_same c.views seat (view.Ticket place) (begins task) is (is_at c.graph is_anything (closes slot)) (sym (first_opens c.graph task slot)));
    scrubbing = λ slot. sym (count_same c.views seat (view.Ticket place) (begins task) is (is_at c.graph is_scrub (lowers_use slot)) refl);
  }

  finished_same : (t : ℕ) → (t ≡ task) ⊎ (t ≡ task → ⊥) → is_finished c.published c.views t ≡ is_finished c.published (slice_set c.views seat (begins task)) t
  finished_same t (inl e) =
      let none : slice_index c.published t ≡ 0 = subst (λ (k : ℕ). slice_index c.published k ≡ 0) (sym e) (omega (arith, begun_not)) in
      unpublished c.published c.views t none ∙ sym (unpublished c.published (slice_set c.views seat (begins task)) t none)
  finished_same t (inr other) = ap (λ (n : ℕ). (slice_index c.published t == 1) && (n == 0)) (sym (other_runners t other))

  work : IsWorkSound c (slice_set c.views seat (begins task))
  work = work_framed c c.views (slice_set c.views seat (begins task)) dues
      (record { finished = λ t. finished_same t (cases_eq t task); uses = λ t slot. behind_same (lowers_use slot) t; successors = λ t successor. behind_same (lowers_successor successor) t })
      (work_of c sound)

  drawn : (t : ℕ) → (t ≡ task) ⊎ (t ≡ task → ⊥) → t < c.graph.tasks → 1 ≤ runners (slice_set c.views seat (begins task)) t + slice_index c.published t →
      IsDrawn c.head c.ring (holders (slice_set c.views seat (begins task))) t
  drawn t (inl e) lt some = (place, (sound.tickets.below place held).1, subst (λ (k : ℕ). slice_index c.ring place ≡ k + 1) (sym e) stands, given_up)
  drawn t (inr other) lt some =
      let was = sound.running.drawn t lt (omega (arith, other_runners t other)) in
      (was.0, was.1, was.2, omega (arith, fewer was.0, was.3))

  apart : (t : ℕ) → (t ≡ task) ⊎ (t ≡ task → ⊥) → runners (slice_set c.views seat (begins task)) t ≤ 1
  apart t (inl e) = subst (λ (k : ℕ). runners (slice_set c.views seat (begins task)) k ≤ 1) (sym e) (omega (arith, runs_now, begun_not))
  apart t (inr other) = omega (arith, other_runners t other, sound.running.apart t)

  told : (t : ℕ) → (t ≡ task) ⊎ (t ≡ task → ⊥) → 1 ≤ runners (slice_set c.views seat (begins task)) t → slice_index c.published t ≡ number_behind c.graph (slice_set c.views seat (begins task)) publishes t
  told t (inl e) some =
      let here : slice_index c.published task ≡ number_behind c.graph (slice_set c.views seat (begins task)) publishes task = omega (arith, begun_not, behind_same publishes task, behind_runs c.graph c.views publishes task) in
      subst (λ (k : ℕ). slice_index c.published k ≡ number_behind c.graph (slice_set c.views seat (begins task)) publishes k) (sym e) here
  told t (inr other) some = sound.running.told t (omega (arith, other_runners t other)) ∙ behind_same publishes t

  begun : (p : ℕ) → (p ≡ place) ⊎ (p ≡ place → ⊥) → (1 ≤ holders c.views p) ⊎ (HasBegun (slice_index c.ring p) c.published (runners c.views) ⊎ (c.abort ≡ 1)) →
      (1 ≤ holders (slice_set c.views seat (begins task)) p) ⊎ (HasBegun (slice_index c.ring p) c.published (runners (slice_set c.views seat (begins task))) ⊎ (c.abort ≡ 1))
  begun p (inl e) h = inr (inl (task, subst (λ (q : ℕ). slice_index c.ring q ≡ task + 1) (sym e) stands, omega (arith, runs_now)))
  begun p (inr other) h =
      begun_still (slice_index c.ring p) c.abort c.published c.published (holders c.views p) (holders (slice_set c.views seat (begins task)) p) (runners c.views) (runners (slice_set c.views seat (begins task)))
      (λ some. omega (arith, other_tickets p other)) (λ t there some. omega (arith, more t)) h

  pub begin_sound : IsSound (with_view c seat (begins task))
  begin_sound =
      let gone = sum_same c.views seat (view.Ticket place) (begins task) is gone_of refl in
      let halted = sum_same c.views seat (view.Ticket place) (begins task) is halted_of refl in
      let seats = sum_same c.views seat (view.Ticket place) (begins task) is seats_of refl in
      sound_of c (slice_set c.views seat (begins task)) sound.graph work (record {
        shapes = shapes_seat c.graph c.ring c.dep c.published c.left c.turn c.home c.abort c.views seat (begins task) (and_from _ _ (lt-ltb _ _ below) (has_first c.graph task)) sound.shapes;
        tickets = fewer_tickets c.graph c.head (holders c.views) (holders (slice_set c.views seat (begins task))) fewer sound.tickets;
        running = record {
          drawn = λ t lt some. drawn t (cases_eq t task) lt some;
          apart = λ t. apart t (cases_eq t task);
          told = λ t some. told t (cases_eq t task) some;
        };
        head = head_stays c (slice_set c.views seat (begins task)) gone seats (length-set c.views seat (begins task)) sound;
        nothing_lost = lost_none c (slice_set c.views seat (begins task)) gone halted (λ p lt room. begun p (cases_eq p place) (sound.nothing_lost.begun p lt room)) sound;
      })
