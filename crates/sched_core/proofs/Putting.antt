-- A seat that puts a task into the ring leaves a sound state.
use Rattle.std.proofs.Common.{◌≡◌, ◌∙◌, ◌≢◌, ◌≤◌, ◌<◌, ◌+◌, ℕ, Bool, true, cond, Some, ◌⊎◌, inl, inr, length, ap, sym, refl, subst, arith, length-set, get_or-set_same, get_or-set_other}
use Rattle.std.specs.Prelude.{◌==◌, slice_get, slice_set, slice_index}
use Rattle.std.proofs.lemmas.Bool.{cases_eq, eq-eqb, ne_eqb, and_from, and_left}
use Rattle.std.proofs.lemmas.List.Sums.{sum_by-set}
use Rattle.sched_core.specs.declared.act.Act.{Act}
use Rattle.sched_core.specs.declared.act.Act.TheVariants as act
use Rattle.sched_core.specs.declared.view.Due.TheVariants as due
use Rattle.sched_core.specs.declared.view.View.TheVariants as view
use Rattle.sched_core.specs.declared.state.Core.{Core}
use Rattle.sched_core.specs.Core.{script, act_passes, is_at, holders, runners, number_at, is_scrub, is_put_at, is_in_hand, is_anything, does_something, closes, publishes, lowers_use, lowers_successor}
use Rattle.sched_core.specs.Sound.{Ring, IsFilled, HasBegun, number_in, IsSound, is_unwritten, may_owe}
use Rattle.sched_core.proofs.Lists.{number, number_true, number_false}
use Rattle.sched_core.proofs.Seats.{IsSeat, counted, count_same, count_less, count_at_least}
use Rattle.sched_core.proofs.Frames.{SameBehind, dependencies_framed, uses_framed, done_framed, slots_alike, IsSeatSound, shapes_as, sound_of}
use Rattle.sched_core.proofs.Facts.{runs_task}
use Rattle.sched_core.proofs.Progress.{next_exists, no_close_next, opens}
use Rattle.sched_core.proofs.Moving.{number_kept, kept_behind, undue, closing_same}
use Rattle.sched_core.proofs.Going.{goes_on}
use Rattle.sched_core.proofs.LoweringDeps.{follower}

module _ (c : Core) (seat task at e q : ℕ) (is : IsSeat c.views seat (view.Running task at (due.Put q))) (stands : slice_get (script c.graph task) at ≡ Some (act.LowersSuccessor e)) (sound : IsSound c) where
  seats : IsSeatSound c (slice_set c.views seat (view.Running task (at + 1) due.Nothing))
  seats =
      goes_on c seat task at (at + 1) (due.Put q) due.Nothing is sound (ap (may_owe due.Nothing) (next_exists c.graph task at (act.LowersSuccessor e) stands (λ same. cc)).1)
      (number_kept c seat task at (at + 1) (due.Put q) due.Nothing is sound publishes refl)

  same_behind : SameBehind c.graph c.published c.published c.views (slice_set c.views seat (view.Running task (at + 1) due.Nothing))
  same_behind = kept_behind c seat task at (at + 1) (due.Put q) due.Nothing is sound c.published (λ t other. refl) (λ s. refl) (λ t. refl)

  below : e < c.graph.tasks
  below = (follower c.graph sound.graph task at e (runs_task c sound seat task at (due.Put q) is) stands).there

  -- it owes the place its task, and no other seat does
  here : is_at c.graph (is_put_at q) does_something (view.Running task at (due.Put q)) ≡ true
  here = and_from (q == q) _ (eq-eqb q q refl) (ap (act_passes does_something) stands)

  owed_before : 1 ≤ number_at c.graph c.views (is_put_at q) does_something
  owed_before = count_at_least c.views seat (view.Running task at (due.Put q)) (view.Running task (at + 1) due.Nothing) is (is_at c.graph (is_put_at q) does_something) here

  owed_own : number_at c.graph (slice_set c.views seat (view.Running task (at + 1) due.Nothing)) (is_put_at q) does_something + 1 ≡ number_at c.graph c.views (is_put_at q) does_something
  owed_own = count_less c.views seat (view.Running task at (due.Put q)) (view.Running task (at + 1) due.Nothing) is (is_at c.graph (is_put_at q) does_something) here refl

  put_else : (p : ℕ) (test : Act → Bool) → p ≢ q → number_at c.graph (slice_set c.views seat (view.Running task (at + 1) due.Nothing)) (is_put_at p) test ≡ number_at c.graph c.views (is_put_at p) test
  put_else p test other =
      count_same c.views seat (view.Running task at (due.Put q)) (view.Running task (at + 1) due.Nothing) is (is_at c.graph (is_put_at p) test)
      (and_left (q == p) _ (ne_eqb q p (λ same. other (sym same))))

  room : q < c.tail
  room = sound.ring.owed q owed_before

  was_empty : (slice_index c.ring q ≡ 0) × (number_at c.graph c.views (is_put_at q) does_something ≡ 1)
  was_empty = by_place (sound.ring.filled q room) where
    by_place : IsFilled c.graph.tasks (slice_index c.ring q) (number_at c.graph c.views (is_put_at q) does_something) → (slice_index c.ring q ≡ 0) × (number_at c.graph c.views (is_put_at q) does_something ≡ 1)
    by_place (inl (some, le, none)) = absurd (omega (arith, owed_before, none))
    by_place (inr both) = both

  ring_else : (p : ℕ) → p ≢ q → slice_index (slice_set c.ring q (e + 1)) p ≡ slice_index c.ring p
  ring_else p other = get_or-set_other c.ring q p (e + 1) 0 other

  in_ring : q < length c.ring
  in_ring = omega (arith, sound.shapes.ring_length, sound.ring.room, room)

  ring_own : slice_index (slice_set c.ring q (e + 1)) q ≡ e + 1
  ring_own = get_or-set_same c.ring q (e + 1) 0 in_ring

  -- what stood in the ring does
  stays : (p t : ℕ) → slice_index c.ring p ≡ t + 1 → slice_index (slice_set c.ring q (e + 1)) p ≡ t + 1
  stays p t h = ring_else p (λ same. let zero : slice_index c.ring p ≡ 0 = ap (slice_index c.ring) same ∙ was_empty.0 in omega arith) ∙ h

  number_now : (t : ℕ) → number_in (slice_set c.ring q (e + 1)) t + number (slice_index c.ring q == t + 1) ≡ number_in c.ring t + number (e + 1 == t + 1)
  number_now t = sum_by-set (λ w. cond (w == t + 1) 1 0) c.ring q (e + 1) 0 in_ring

  hand_own : number_at c.graph (slice_set c.views seat (view.Running task (at + 1) due.Nothing)) is_in_hand (lowers_successor e) + 1 ≡ number_at c.graph c.views is_in_hand (lowers_successor e)
  hand_own = count_less c.views seat (view.Running task at (due.Put q)) (view.Running task (at + 1) due.Nothing) is (is_at c.graph is_in_hand (lowers_successor e)) (ap (act_passes (lowers_successor e)) stands ∙ eq-eqb e e refl) refl

  hand_else : (t : ℕ) → t ≢ e → number_at c.graph (slice_set c.views seat (view.Running task (at + 1) due.Nothing)) is_in_hand (lowers_successor t) ≡ number_at c.graph c.views is_in_hand (lowers_successor t)
  hand_else t other = count_same c.views seat (view.Running task at (due.Put q)) (view.Running task (at + 1) due.Nothing) is (is_at c.graph is_in_hand (lowers_successor t)) (ap (act_passes (lowers_successor t)) stands ∙ ne_eqb e t (λ same. other (sym same)))

  once : (t : ℕ) → t < c.graph.tasks → (t ≡ e) ⊎ (t ≡ e → ⊥) →
      number_in (slice_set c.ring q (e + 1)) t + number_at c.graph (slice_set c.views seat (view.Running task (at + 1) due.Nothing)) is_in_hand (lowers_successor t) ≡ cond (slice_index c.dep t == 0) 1 0
  once t lt (inl same) =
      subst (λ (u : ℕ). number_in (slice_set c.ring q (e + 1)) u + number_at c.graph (slice_set c.views seat (view.Running task (at + 1) due.Nothing)) is_in_hand (lowers_successor u) ≡ cond (slice_index c.dep u == 0) 1 0) (sym same)
      (omega (arith, number_now e, hand_own, sound.ring.once e below, number_false (slice_index c.ring q == e + 1) (ne_eqb _ _ (λ z. omega (arith, was_empty.0))), number_true (e + 1 == e + 1) (eq-eqb _ _ refl)))
  once t lt (inr other) =
      omega (arith, number_now t, hand_else t other, sound.ring.once t lt, number_false (slice_index c.ring q == t + 1) (ne_eqb _ _ (λ z. omega (arith, was_empty.0))), number_false (e + 1 == t + 1) (ne_eqb _ _ (λ z. other (omega arith))))

  filled : (p : ℕ) → p < c.tail → (p ≡ q) ⊎ (p ≡ q → ⊥) →
      IsFilled c.graph.tasks (slice_index (slice_set c.ring q (e + 1)) p) (number_at c.graph (slice_set c.views seat (view.Running task (at + 1) due.Nothing)) (is_put_at p) does_something)
  filled p lt (inl same) =
      subst (λ (u : ℕ). IsFilled c.graph.tasks (slice_index (slice_set c.ring q (e + 1)) u) (number_at c.graph (slice_set c.views seat (view.Running task (at + 1) due.Nothing)) (is_put_at u) does_something)) (sym same)
      (inl (omega (arith, ring_own), omega (arith, ring_own, below), omega (arith, owed_own, was_empty.1)))
  filled p lt (inr other) =
      subst (λ (w : ℕ). IsFilled c.graph.tasks w (number_at c.graph (slice_set c.views seat (view.Running task (at + 1) due.Nothing)) (is_put_at p) does_something)) (sym (ring_else p other))
      (subst (λ (n : ℕ). IsFilled c.graph.tasks (slice_index c.ring p) n) (sym (put_else p does_something other)) (sound.ring.filled p lt))

  stood : (p t : ℕ) → (p ≡ q) ⊎ (p ≡ q → ⊥) →
      (slice_index (slice_set c.ring q (e + 1)) p ≡ t + 1) ⊎ (1 ≤ number_at c.graph (slice_set c.views seat (view.Running task (at + 1) due.Nothing)) (is_put_at p) (lowers_successor t)) →
      (slice_index c.ring p ≡ t + 1) ⊎ (1 ≤ number_at c.graph c.views (is_put_at p) (lowers_successor t))
  stood p t (inr other) (inl there) = inl (sym (ring_else p other) ∙ there)
  stood p t (inr other) (inr some) = inr (omega (arith, put_else p (lowers_successor t) other))
  stood p t (inl same) (inl there) =
      let is_e : e ≡ t = omega (arith, ring_own, sym (ap (slice_index (slice_set c.ring q (e + 1))) same) ∙ there) in
      inr (subst (λ (u : ℕ). 1 ≤ number_at c.graph c.views (is_put_at p) (lowers_successor u)) is_e (subst (λ (u : ℕ). 1 ≤ number_at c.graph c.views (is_put_at u) (lowers_successor e)) (sym same) owes_e))
    where
      owes_e : 1 ≤ number_at c.graph c.views (is_put_at q) (lowers_successor e)
      owes_e = count_at_least c.views seat (view.Running task at (due.Put q)) (view.Running task (at + 1) due.Nothing) is (is_at c.graph (is_put_at q) (lowers_successor e))
          (and_from (q == q) _ (eq-eqb q q refl) (ap (act_passes (lowers_successor e)) stands ∙ eq-eqb e e refl))
  stood p t (inl same) (inr some) =
      inr (omega (arith, counted c.views seat (view.Running task at (due.Put q)) (view.Running task (at + 1) due.Nothing) is (is_at c.graph (is_put_at p) (lowers_successor t))))

  ring_now : Ring c.graph c.tail (slice_set c.ring q (e + 1)) c.dep (λ place. number_at c.graph (slice_set c.views seat (view.Running task (at + 1) due.Nothing)) (is_put_at place) does_something) (λ t. number_at c.graph (slice_set c.views seat (view.Running task (at + 1) due.Nothing)) is_in_hand (lowers_successor t)) (λ place t. number_at c.graph (slice_set c.views seat (view.Running task (at + 1) due.Nothing)) (is_put_at place) (lowers_successor t))
  ring_now = record {
    room = sound.ring.room;
    empty = λ p le. ring_else p (λ same. omega (arith, room)) ∙ sound.ring.empty p le;
    filled = λ p lt. filled p lt (cases_eq p q);
    owed = λ p some. sound.ring.owed p (omega (arith, counted c.views seat (view.Running task at (due.Put q)) (view.Running task (at + 1) due.Nothing) is (is_at c.graph (is_put_at p) does_something)));
    once = λ t lt. once t lt (cases_eq t e);
    ordered = λ p t before there lt after. let found = sound.ring.ordered p t before (stood p t (cases_eq p q) there) lt after in (found.0, found.1, stays found.0 before found.2);
  }

  closing_none : (s : ℕ) → number_at c.graph c.views is_anything (closes s) ≡ number_at c.graph (slice_set c.views seat (view.Running task (at + 1) due.Nothing)) is_anything (closes s)
  unfolding opens
  closing_none =
      closing_same c seat task at (at + 1) (due.Put q) due.Nothing is sound (λ s. ap (act_passes (closes s)) stands) (λ s. no_close_next c.graph task at s (act.LowersSuccessor e) stands refl)

  pub put_sound : IsSound (record c { ring = slice_set c.ring q (e + 1); views = slice_set c.views seat (view.Running task (at + 1) due.Nothing) })
  put_sound =
      let views = slice_set c.views seat (view.Running task (at + 1) due.Nothing) in
      sound_of (record c { ring = slice_set c.ring q (e + 1) }) views sound.graph (record {
        ring = ring_now;
        dependencies = dependencies_framed c.graph c.published c.published c.views views same_behind c.dep sound.dependencies;
        uses = uses_framed c.graph c.published c.published c.views views same_behind c.left sound.uses;
        slots = slots_alike c.graph c.left c.turn c.home (is_unwritten c.graph c.published) c.views views closing_none
            (λ s. undue c seat task at (at + 1) (due.Put q) due.Nothing is sound is_scrub refl refl (lowers_use s)) sound.slots;
        done = done_framed c.graph c.published c.published c.views views same_behind c.done sound.done;
      }) (record {
        shapes = shapes_as c (record c { ring = slice_set c.ring q (e + 1) }) views (length-set c.ring q (e + 1)) refl refl refl refl refl seats.shapes.published_words seats.shapes.turn_words seats.shapes.abort_word seats.shapes;
        tickets = seats.tickets;
        running = record {
          drawn = λ t lt some. let was = seats.running.drawn t lt some in (was.0, was.1, stays was.0 t was.2, was.3);
          apart = seats.running.apart;
          told = seats.running.told;
        };
        head = seats.head;
        nothing_lost = record {
          aborted = seats.nothing_lost.aborted;
          ended = seats.nothing_lost.ended;
          begun = λ p lt room. still p (seats.nothing_lost.begun p lt room);
        };
      })
    where
      still : (p : ℕ) →
          (1 ≤ holders (slice_set c.views seat (view.Running task (at + 1) due.Nothing)) p) ⊎ (HasBegun (slice_index c.ring p) c.published (runners (slice_set c.views seat (view.Running task (at + 1) due.Nothing))) ⊎ (c.abort ≡ 1)) →
          (1 ≤ holders (slice_set c.views seat (view.Running task (at + 1) due.Nothing)) p) ⊎ (HasBegun (slice_index (slice_set c.ring q (e + 1)) p) c.published (runners (slice_set c.views seat (view.Running task (at + 1) due.Nothing))) ⊎ (c.abort ≡ 1))
      still p (inl held) = inl held
      still p (inr (inl (t, there, some))) = inr (inl (t, stays p t there, some))
      still p (inr (inr aborted)) = inr (inr aborted)
