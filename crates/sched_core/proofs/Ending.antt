-- A seat that aborts before its task, and one that finishes it, leave sound states.
use Rattle.std.proofs.Common.{◌≡◌, ◌∙◌, ◌≢◌, ◌≤◌, ℕ, Bool, false, ◌⊎◌, inl, inr, ap, sym, refl, subst, arith, length-set}
use Rattle.std.specs.Prelude.{◌==◌, ◌&&◌, slice_get, slice_set, slice_index}
use Rattle.std.proofs.lemmas.Bool.{cases_eq, eq-eqb, ne_eqb, and_left, and_right}
use Rattle.sched_core.specs.declared.act.Act.{Act}
use Rattle.sched_core.specs.declared.view.Due.{Due}
use Rattle.sched_core.specs.declared.view.Due.TheVariants as due
use Rattle.sched_core.specs.declared.view.View.{View}
use Rattle.sched_core.specs.declared.view.View.TheVariants as view
use Rattle.sched_core.specs.declared.state.Core.{Core}
use Rattle.sched_core.specs.Core.{script, holds, holders, runners, runs, is_at, act_passes, has_behind, number_behind, is_finished, is_scrub, is_put_at, is_in_hand, is_anything, closes, publishes, lowers_use, lowers_successor, gone_of, halted_of, seats_of}
use Rattle.sched_core.specs.Sound.{IsSound}
use Rattle.sched_core.proofs.Lists.{number_false}
use Rattle.sched_core.proofs.Seats.{IsSeat, counted, count_same, count_less, count_at_least, sum_same, summed}
use Rattle.sched_core.proofs.Frames.{SameDues, shapes_seat, shapes_as, IsWorkSound, work_framed, work_of, work_as, sound_of, fewer_tickets, head_stays}
use Rattle.sched_core.proofs.Scripts.{first_opens}
use Rattle.sched_core.proofs.Facts.{behind_runs, unpublished}
use Rattle.sched_core.proofs.Beginning.{begins}

-- A seat that runs a task to which nothing is due leaves it.
module _ (c : Core) (seat task at : ℕ) (new : View) (is : IsSeat c.views seat (view.Running task at due.Nothing)) (sound : IsSound c)
    (stays : (t : ℕ) → runs t new ≡ false) (keeps : (p : ℕ) → holds p new ≡ false) where
  pub left_alone : (p : ℕ) → holders (slice_set c.views seat new) p ≡ holders c.views p
  left_alone p = count_same c.views seat (view.Running task at due.Nothing) new is (holds p) (sym (keeps p))

  pub fewer_run : (t : ℕ) → runners (slice_set c.views seat new) t ≤ runners c.views t
  fewer_run t = omega (arith, counted c.views seat (view.Running task at due.Nothing) new is (runs t), number_false (runs t new) (stays t))

  pub one_ran : 1 ≤ runners c.views task
  one_ran = count_at_least c.views seat (view.Running task at due.Nothing) new is (runs task) (eq-eqb task task refl)

  pub none_runs : runners (slice_set c.views seat new) task ≡ 0
  none_runs = omega (arith, count_less c.views seat (view.Running task at due.Nothing) new is (runs task) (eq-eqb task task refl) (stays task), sound.running.apart task)

  pub others_run : (t : ℕ) → t ≢ task → runners (slice_set c.views seat new) t ≡ runners c.views t
  others_run t other = count_same c.views seat (view.Running task at due.Nothing) new is (runs t) (ne_eqb task t (λ e. other (sym e)) ∙ sym (stays t))

  pub others_behind : (behind_none : (test : Act → Bool) (t : ℕ) → has_behind c.graph test t new ≡ false) (test : Act → Bool) (t : ℕ) → t ≢ task →
      number_behind c.graph (slice_set c.views seat new) test t ≡ number_behind c.graph c.views test t
  others_behind behind_none test t other =
      count_same c.views seat (view.Running task at due.Nothing) new is (has_behind c.graph test t)
      (and_left (task == t) _ (ne_eqb task t (λ e. other (sym e))) ∙ sym (behind_none test t))

  -- no act that closes stands at its place
  pub dues_left : (at_none : (is_due : Due → Bool) (test : Act → Bool) → is_at c.graph is_due test new ≡ false) → ((slot : ℕ) → act_passes (closes slot) (slice_get (script c.graph task) at) ≡ false) →
      SameDues c.graph c.views (slice_set c.views seat new)
  dues_left at_none opens = record {
    put = λ p test. sym (count_same c.views seat (view.Running task at due.Nothing) new is (is_at c.graph (is_put_at p) test) (sym (at_none (is_put_at p) test)));
    in_hand = λ t. sym (count_same c.views seat (view.Running task at due.Nothing) new is (is_at c.graph is_in_hand (lowers_successor t)) (sym (at_none is_in_hand (lowers_successor t))));
    closing = λ slot. sym (count_same c.views seat (view.Running task at due.Nothing) new is (is_at c.graph is_anything (closes slot)) (opens slot ∙ sym (at_none is_anything (closes slot))));
    scrubbing = λ slot. sym (count_same c.views seat (view.Running task at due.Nothing) new is (is_at c.graph is_scrub (lowers_use slot)) (sym (at_none is_scrub (lowers_use slot))));
  }

-- the task had done nothing yet
module _ (c : Core) (seat task : ℕ) (is : IsSeat c.views seat (begins task)) (sound : IsSound c) where
  behind_same : (test : Act → Bool) (t : ℕ) → number_behind c.graph c.views test t ≡ number_behind c.graph (slice_set c.views seat view.Halted) test t
  behind_same test t = sym (count_same c.views seat (begins task) view.Halted is (has_behind c.graph test t) (and_right (task == t) false refl))

  unread : slice_index c.published task ≡ 0
  unread =
      let told = sound.running.told task (one_ran c seat task 0 view.Halted is sound (λ t. refl) (λ p. refl)) in
      omega (arith, told, behind_same publishes task, behind_runs c.graph (slice_set c.views seat view.Halted) publishes task, none_runs c seat task 0 view.Halted is sound (λ t. refl) (λ p. refl))

  finished_same : (t : ℕ) → (t ≡ task) ⊎ (t ≡ task → ⊥) → is_finished c.published c.views t ≡ is_finished c.published (slice_set c.views seat view.Halted) t
  finished_same t (inl e) =
      let none : slice_index c.published t ≡ 0 = subst (λ (k : ℕ). slice_index c.published k ≡ 0) (sym e) unread in
      unpublished c.published c.views t none ∙ sym (unpublished c.published (slice_set c.views seat view.Halted) t none)
  finished_same t (inr other) = ap (λ (n : ℕ). (slice_index c.published t == 1) && (n == 0)) (sym (others_run c seat task 0 view.Halted is sound (λ t. refl) (λ p. refl) t other))

  work : IsWorkSound c (slice_set c.views seat view.Halted)
  work = work_framed c c.views (slice_set c.views seat view.Halted) (dues_left c seat task 0 view.Halted is sound (λ t. refl) (λ p. refl) (λ is_due test. refl) (first_opens c.graph task))
      (record { finished = λ t. finished_same t (cases_eq t task); uses = λ t slot. behind_same (lowers_use slot) t; successors = λ t successor. behind_same (lowers_successor successor) t })
      (work_of c sound)

  pub abort_sound : IsSound (record c { abort = 1; views = slice_set c.views seat view.Halted })
  abort_sound =
      let gone = sum_same c.views seat (begins task) view.Halted is gone_of refl in
      let halted = summed c.views seat (begins task) view.Halted is halted_of in
      let seats = sum_same c.views seat (begins task) view.Halted is seats_of refl in
      let tickets = left_alone c seat task 0 view.Halted is sound (λ t. refl) (λ p. refl) in
      let fewer = fewer_run c seat task 0 view.Halted is sound (λ t. refl) (λ p. refl) in
      let shapes = shapes_seat c.graph c.ring c.dep c.published c.left c.turn c.home c.abort c.views seat view.Halted refl sound.shapes in
      sound_of (record c { abort = 1 }) (slice_set c.views seat view.Halted) sound.graph (work_as c c.head 1 (slice_set c.views seat view.Halted) work) (record {
        shapes = shapes_as c (record c { abort = 1 }) (slice_set c.views seat view.Halted) refl refl refl refl refl refl shapes.published_words shapes.turn_words (omega arith) shapes;
        tickets = fewer_tickets c.graph c.head (holders c.views) (holders (slice_set c.views seat view.Halted)) (λ p. omega (arith, tickets p)) sound.tickets;
        running = record {
          drawn = λ t lt some. let was = sound.running.drawn t lt (omega (arith, fewer t)) in (was.0, was.1, was.2, tickets was.0 ∙ was.3);
          apart = λ t. omega (arith, fewer t, sound.running.apart t);
          told = λ t some. sound.running.told t (omega (arith, fewer t)) ∙ behind_same publishes t;
        };
        head = head_stays c (slice_set c.views seat view.Halted) gone seats (length-set c.views seat view.Halted) sound;
        nothing_lost = record {
          aborted = (λ _. omega (arith, halted), λ _. refl);
          ended = λ some. sound.nothing_lost.ended (omega (arith, gone));
          begun = λ p lt room. inr (inr refl);
        };
      })
