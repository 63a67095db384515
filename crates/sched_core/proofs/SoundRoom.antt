-- There is room in the ring for each task that is in a hand.
use Rattle.std.proofs.Common.{◌≡◌, ◌∙◌, ◌≤◌, ◌<◌, ◌+◌, ◌-◌, ℕ, true, cond, inl, inr, Option, Some, None, ap, sym, refl, arith}
use Rattle.std.specs.Prelude.{◌==◌, slice_get, slice_set, slice_index, IsTrue}
use Rattle.std.specs.List.{count_by, sum_by, range_with_len}
use Rattle.std.proofs.lemmas.Bool.{false≢true, eq-eqb, eqb-true, ltb-true, and_parts}
use Rattle.std.proofs.lemmas.List.Elements.{All-set, All-weaker}
use Rattle.graph_types.specs.declared.graph.Graph.{Graph}
use Rattle.graph_types.specs.Counting.{count_one}
use Rattle.graph_types.specs.Graph.{tasks_of, IsValid}
use Rattle.sched_core.specs.declared.act.Act.{Act}
use Rattle.sched_core.specs.declared.act.Act.TheVariants as act
use Rattle.sched_core.specs.declared.view.Due.TheVariants as due
use Rattle.sched_core.specs.declared.view.View.{View}
use Rattle.sched_core.specs.declared.view.View.TheVariants as view
use Rattle.sched_core.specs.declared.state.Core.{Core}
use Rattle.sched_core.specs.Core.{script, act_passes, is_at, number_at, is_put_at, is_in_hand, does_something, lowers_successor}
use Rattle.sched_core.specs.Sound.{is_in_shape, may_owe, IsFilled, number_in, IsSound}
use Rattle.sched_core.proofs.Lists.{number_le}
use Rattle.sched_core.proofs.Seats.{IsSeat, summed}
use Rattle.sched_core.proofs.LoweringDeps.{follower}
use Rattle.sched_core.proofs.SoundSums.{sum_zero, sum_add, sum_swap, sum_less, sum_at_most, sum_at_least, counts_few, sum_front}

-- to how many places below tail a view owes a task
abbrev pub owes : Graph → (tail : ℕ) → View → ℕ
owes g tail v = count_by (λ p. is_at g (is_put_at p) does_something v) (range_with_len 0 tail)

-- how many tasks a view has in hand
abbrev pub in_hands : Graph → View → ℕ
in_hands g v = count_by (λ t. is_at g is_in_hand (lowers_successor t) v) (tasks_of g)

module _ (g : Graph) (valid : IsValid g) (tail : ℕ) where
  has_hand : (task at e : ℕ) → task < g.tasks → slice_get (script g task) at ≡ Some (act.LowersSuccessor e) → 1 ≤ in_hands g (view.Running task at due.Place)
  has_hand task at e lt stands =
      count_one (λ t. is_at g is_in_hand (lowers_successor t) (view.Running task at due.Place)) g.tasks e (follower g valid task at e lt stands).there (ap (act_passes (lowers_successor e)) stands ∙ eq-eqb e e refl)

  owes_less : (v : View) → is_in_shape g v ≡ true → owes g tail v ≤ in_hands g v
  owes_less (view.Running task at (due.Put q)) fits = by_act (slice_get (script g task) at) refl (and_parts _ _ fits).1 where
    one : owes g tail (view.Running task at (due.Put q)) ≤ 1
    one = (counts_few (λ p. is_at g (is_put_at p) does_something (view.Running task at (due.Put q))) q tail (λ p met. sym (eqb-true q p (and_parts (q == p) (act_passes does_something (slice_get (script g task) at)) met).0))).0

    by_act : (o : Option Act) → slice_get (script g task) at ≡ o → may_owe (due.Put q) o ≡ true → owes g tail (view.Running task at (due.Put q)) ≤ in_hands g (view.Running task at (due.Put q))
    by_act (Some (act.LowersSuccessor e)) stands h =
        let some : 1 ≤ in_hands g (view.Running task at (due.Put q)) =
        count_one (λ t. is_at g is_in_hand (lowers_successor t) (view.Running task at (due.Put q))) g.tasks e (follower g valid task at e (ltb-true _ _ (and_parts _ _ fits).0) stands).there (ap (act_passes (lowers_successor e)) stands ∙ eq-eqb e e refl) in
        omega (arith, one, some)
    by_act (Some act.Publishes) stands h = absurd (false≢true h)
    by_act (Some act.Finishes) stands h = absurd (false≢true h)
    by_act (Some (act.Opens s)) stands h = absurd (false≢true h)
    by_act (Some (act.Closes s)) stands h = absurd (false≢true h)
    by_act (Some (act.LowersUse s)) stands h = absurd (false≢true h)
    by_act None stands h = absurd (false≢true h)
  owes_less (view.Running task at due.Nothing) fits = let none : owes g tail (view.Running task at due.Nothing) ≡ 0 = sum_zero (range_with_len 0 tail) in omega (arith, none)
  owes_less (view.Running task at due.Scrub) fits = let none : owes g tail (view.Running task at due.Scrub) ≡ 0 = sum_zero (range_with_len 0 tail) in omega (arith, none)
  owes_less (view.Running task at due.Place) fits = let none : owes g tail (view.Running task at due.Place) ≡ 0 = sum_zero (range_with_len 0 tail) in omega (arith, none)
  owes_less _ fits = omega (arith, sum_zero (range_with_len 0 tail))

module _ (c : Core) (seat task at e : ℕ) (is : IsSeat c.views seat (view.Running task at due.Place)) (below : task < c.graph.tasks) (stands : slice_get (script c.graph task) at ≡ Some (act.LowersSuccessor e)) (sound : IsSound c) where
  -- how often a word of the ring stands for a task
  abbrev stands_for : (word : ℕ) → ℕ
  stands_for word = count_by (λ t. word == t + 1) (tasks_of c.graph)

  words : sum_by (λ p. stands_for (slice_index c.ring p)) (range_with_len 0 c.tail) ≤ sum_by (number_in c.ring) (tasks_of c.graph)
  words =
      let front = sum_front stands_for c.ring c.tail (omega (arith, sound.shapes.ring_length, sound.ring.room)) in
      let swapped : sum_by stands_for c.ring ≡ sum_by (number_in c.ring) (tasks_of c.graph) = sum_swap (λ w t. cond (w == t + 1) 1 0) c.ring (tasks_of c.graph) in
      omega (arith, front, swapped)

  owed : sum_by (λ p. number_at c.graph c.views (is_put_at p) does_something) (range_with_len 0 c.tail) ≡ sum_by (owes c.graph c.tail) c.views
  owed = sum_swap (λ p v. cond (is_at c.graph (is_put_at p) does_something v) 1 0) (range_with_len 0 c.tail) c.views

  in_hand : sum_by (λ t. number_at c.graph c.views is_in_hand (lowers_successor t)) (tasks_of c.graph) ≡ sum_by (in_hands c.graph) c.views
  in_hand = sum_swap (λ t v. cond (is_at c.graph is_in_hand (lowers_successor t) v) 1 0) (tasks_of c.graph) c.views

  -- this seat has a task in hand and owes it to no place yet
  one_more : sum_by (owes c.graph c.tail) c.views + 1 ≤ sum_by (in_hands c.graph) c.views
  one_more =
      let quiet = All-set (λ v. IsTrue (is_in_shape c.graph v)) c.views seat view.Idle refl sound.shapes.views_fit in
      let less = sum_less (owes c.graph c.tail) (in_hands c.graph) (slice_set c.views seat view.Idle) (All-weaker (λ v. IsTrue (is_in_shape c.graph v)) (λ v. owes c.graph c.tail v ≤ in_hands c.graph v) (owes_less c.graph sound.graph c.tail) (slice_set c.views seat view.Idle) quiet) in
      let none : owes c.graph c.tail (view.Running task at due.Place) ≡ 0 = sum_zero (range_with_len 0 c.tail) in
      let none_idle : owes c.graph c.tail view.Idle ≡ 0 = sum_zero (range_with_len 0 c.tail) in
      let no_hand : in_hands c.graph view.Idle ≡ 0 = sum_zero (tasks_of c.graph) in
      omega (
        arith,
        less,
        none,
        none_idle,
        no_hand,
        has_hand c.graph sound.graph c.tail task at e below stands,
        summed c.views seat (view.Running task at due.Place) view.Idle is (owes c.graph c.tail),
        summed c.views seat (view.Running task at due.Place) view.Idle is (in_hands c.graph),
      )

  each_filled : (p : ℕ) → p < c.tail → 1 ≤ stands_for (slice_index c.ring p) + number_at c.graph c.views (is_put_at p) does_something
  each_filled p lt = by_place (sound.ring.filled p lt) where
    by_place : IsFilled c.graph.tasks (slice_index c.ring p) (number_at c.graph c.views (is_put_at p) does_something) → 1 ≤ stands_for (slice_index c.ring p) + number_at c.graph c.views (is_put_at p) does_something
    by_place (inl (some, le, none)) =
        let one : 1 ≤ stands_for (slice_index c.ring p) = count_one (λ t. slice_index c.ring p == t + 1) c.graph.tasks (slice_index c.ring p - 1) (omega (arith, some, le)) (eq-eqb _ _ (omega (arith, some))) in
        omega (arith, one)
    by_place (inr (none, one)) = omega (arith, one)

  each_once : (t : ℕ) → t < c.graph.tasks → number_in c.ring t + number_at c.graph c.views is_in_hand (lowers_successor t) ≤ 1
  each_once t lt = omega (arith, sound.ring.once t lt, number_le (slice_index c.dep t == 0))

  pub room : c.tail + 1 ≤ c.graph.tasks
  room =
      omega (
        arith,
        words,
        owed,
        in_hand,
        one_more,
        sum_at_least (λ p. stands_for (slice_index c.ring p) + number_at c.graph c.views (is_put_at p) does_something) c.tail each_filled,
        sum_add (λ p. stands_for (slice_index c.ring p)) (λ p. number_at c.graph c.views (is_put_at p) does_something) (range_with_len 0 c.tail),
        sum_at_most (λ t. number_in c.ring t + number_at c.graph c.views is_in_hand (lowers_successor t)) c.graph.tasks each_once,
        sum_add (number_in c.ring) (λ t. number_at c.graph c.views is_in_hand (lowers_successor t)) (tasks_of c.graph),
      )
