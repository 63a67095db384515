-- A seat that draws a place of the ring for a task leaves a sound state.
use Rattle.std.proofs.Common.{◌≡◌, ◌∙◌, ◌≢◌, ◌≤◌, ◌<◌, ◌+◌, ℕ, Bool, true, cond, not, Option, Some, None, ◌⊎◌, inl, inr, List, ap, sym, refl, subst, arith}
use Rattle.std.specs.Prelude.{◌==◌, ◌&&◌, slice_get, slice_set, slice_index}
use Rattle.std.proofs.lemmas.Bool.{cases_eq, cases_lt, eq-eqb, ne_eqb, and_from, and_left, and_right, and_parts}
use Rattle.std.proofs.lemmas.List.Sums.{sum_by-le-sum_by}
use Rattle.graph_types.specs.declared.graph.Graph.{Graph}
use Rattle.graph_types.specs.Counting.{count_one}
use Rattle.graph_types.specs.Graph.{follows}
use Rattle.sched_core.specs.declared.act.Act.{Act}
use Rattle.sched_core.specs.declared.act.Act.TheVariants as act
use Rattle.sched_core.specs.declared.view.Due.{Due}
use Rattle.sched_core.specs.declared.view.Due.TheVariants as due
use Rattle.sched_core.specs.declared.view.View.{View}
use Rattle.sched_core.specs.declared.view.View.TheVariants as view
use Rattle.sched_core.specs.declared.state.Core.{Core}
use Rattle.sched_core.specs.Core.{script, act_passes, is_at, number_at, is_behind, is_scrub, is_put_at, is_in_hand, is_anything, does_something, closes, publishes, lowers_use, lowers_successor}
use Rattle.sched_core.specs.Sound.{may_owe, Ring, IsFilled, StandsBelow, IsSound, is_unwritten}
use Rattle.sched_core.proofs.Lists.{number_false}
use Rattle.sched_core.proofs.Seats.{IsSeat, count_same, count_more, count_at_least}
use Rattle.sched_core.proofs.Frames.{SameBehind, dependencies_framed, uses_framed, done_framed, slots_alike, IsSeatSound, seats_as, sound_of}
use Rattle.sched_core.proofs.Scripts.{reads_lower_none}
use Rattle.sched_core.proofs.Facts.{runs_task, zero_or_more, one_or_less}
use Rattle.sched_core.proofs.LoweringDeps.{follower}
use Rattle.sched_core.proofs.Moving.{number_kept, kept_behind, undue, closing_same}
use Rattle.sched_core.proofs.Going.{goes_on}
use Rattle.sched_core.proofs.Unwritten.{unpublished_keeps}
use Rattle.sched_core.proofs.SoundRoom.{room}

-- who owes a task to a place stands at an act there
put_owes : (g : Graph) (views : List View) (is_due : Due → Bool) (test : Act → Bool) → number_at g views is_due test ≤ number_at g views is_due does_something
put_owes g views is_due test = sum_by-le-sum_by (λ v. cond (is_at g is_due test v) 1 0) (λ v. cond (is_at g is_due does_something v) 1 0) views each where
  some_act : (o : Option Act) → act_passes test o ≡ true → act_passes does_something o ≡ true
  some_act None h = h
  some_act (Some a) h = refl

  too : (v : View) → is_at g is_due test v ≡ true → is_at g is_due does_something v ≡ true
  too (view.Running task at owed) h =
      let parts = and_parts (is_due owed) (act_passes test (slice_get (script g task) at)) h in
      and_from (is_due owed) (act_passes does_something (slice_get (script g task) at)) parts.0 (some_act (slice_get (script g task) at) parts.1)
  too _ h = h

  each : (v : View) → cond (is_at g is_due test v) 1 0 ≤ cond (is_at g is_due does_something v) 1 0
  each v = one_or_less (is_at g is_due does_something v) (is_at g is_due test v) (too v)

module _ (c : Core) (sound : IsSound c) where
  -- where a task waits for none, each that it follows has published
  pub waited_for : (task before : ℕ) → task < c.graph.tasks → slice_index c.dep task ≡ 0 → before < c.graph.tasks → follows c.graph before task ≡ true → slice_index c.published before ≡ 1
  waited_for task before lt none lt' after = by_word (cases_eq (slice_index c.published before) 1) where
    by_word : (slice_index c.published before ≡ 1) ⊎ (slice_index c.published before ≡ 1 → ⊥) → slice_index c.published before ≡ 1
    by_word (inl read) = read
    by_word (inr unread) =
        let waits = count_one (λ t. follows c.graph t task && not (is_behind c.graph c.published c.views (lowers_successor task) t)) c.graph.tasks before lt'
        (and_from _ _ after (ap not (unpublished_keeps c sound (lowers_successor task) (reads_lower_none task) before unread))) in
        absurd (omega (arith, waits, sound.dependencies.counts task lt, none))

  -- and stands in the ring
  pub stands_before : (task before : ℕ) → task < c.graph.tasks → slice_index c.dep task ≡ 0 → before < c.graph.tasks → follows c.graph before task ≡ true → StandsBelow c.ring c.tail before
  stands_before task before lt none lt' after =
      let drawn = sound.running.drawn before lt' (omega (arith, waited_for task before lt none lt' after)) in
      (drawn.0, by_order drawn.0 drawn.2 (cases_lt drawn.0 c.tail), drawn.2)
    where
      by_order : (p : ℕ) → slice_index c.ring p ≡ before + 1 → (p < c.tail) ⊎ (c.tail ≤ p) → p < c.tail
      by_order p there (inl less) = less
      by_order p there (inr le) = absurd (omega (arith, there, sound.ring.empty p le))

module _ (c : Core) (seat task at e : ℕ) (is : IsSeat c.views seat (view.Running task at due.Place)) (stands : slice_get (script c.graph task) at ≡ Some (act.LowersSuccessor e)) (sound : IsSound c) where
  below : task < c.graph.tasks
  below = runs_task c sound seat task at due.Place is

  successor : e < c.graph.tasks
  successor = (follower c.graph sound.graph task at e below stands).there

  same_behind : SameBehind c.graph c.published c.published c.views (slice_set c.views seat (view.Running task at (due.Put c.tail)))
  same_behind = kept_behind c seat task at at due.Place (due.Put c.tail) is sound c.published (λ t other. refl) (λ s. refl) (λ t. refl)

  seats : IsSeatSound c (slice_set c.views seat (view.Running task at (due.Put c.tail)))
  seats = goes_on c seat task at at due.Place (due.Put c.tail) is sound (ap (may_owe (due.Put c.tail)) stands) (number_kept c seat task at at due.Place (due.Put c.tail) is sound publishes refl)

  -- the task is in hand before and after
  hand_before : 1 ≤ number_at c.graph c.views is_in_hand (lowers_successor e)
  hand_before = count_at_least c.views seat (view.Running task at due.Place) (view.Running task at (due.Put c.tail)) is (is_at c.graph is_in_hand (lowers_successor e)) (ap (act_passes (lowers_successor e)) stands ∙ eq-eqb e e refl)

  hand_same : (t : ℕ) → number_at c.graph (slice_set c.views seat (view.Running task at (due.Put c.tail))) is_in_hand (lowers_successor t) ≡ number_at c.graph c.views is_in_hand (lowers_successor t)
  hand_same t = count_same c.views seat (view.Running task at due.Place) (view.Running task at (due.Put c.tail)) is (is_at c.graph is_in_hand (lowers_successor t)) refl

  waits_for_none : slice_index c.dep e ≡ 0
  waits_for_none = by_count (cases_eq (slice_index c.dep e) 0) where
    by_count : (slice_index c.dep e ≡ 0) ⊎ (slice_index c.dep e ≡ 0 → ⊥) → slice_index c.dep e ≡ 0
    by_count (inl none) = none
    by_count (inr more) = absurd (omega (arith, hand_before, sound.ring.once e successor, number_false (slice_index c.dep e == 0) (ne_eqb _ _ more)))

  -- nobody owed the place a task, and now this seat does
  put_else : (p : ℕ) (test : Act → Bool) → p ≢ c.tail → number_at c.graph (slice_set c.views seat (view.Running task at (due.Put c.tail))) (is_put_at p) test ≡ number_at c.graph c.views (is_put_at p) test
  put_else p test other =
      count_same c.views seat (view.Running task at due.Place) (view.Running task at (due.Put c.tail)) is (is_at c.graph (is_put_at p) test)
      (sym (and_left (c.tail == p) _ (ne_eqb c.tail p (λ same. other (sym same)))))

  none_owed : number_at c.graph c.views (is_put_at c.tail) does_something ≡ 0
  none_owed = by_number (zero_or_more (number_at c.graph c.views (is_put_at c.tail) does_something)) where
    by_number : (number_at c.graph c.views (is_put_at c.tail) does_something ≡ 0) ⊎ (1 ≤ number_at c.graph c.views (is_put_at c.tail) does_something) → number_at c.graph c.views (is_put_at c.tail) does_something ≡ 0
    by_number (inl none) = none
    by_number (inr some) = absurd (omega (arith, sound.ring.owed c.tail some))

  owed_own : number_at c.graph (slice_set c.views seat (view.Running task at (due.Put c.tail))) (is_put_at c.tail) does_something ≡ 1
  owed_own =
      let more = count_more c.views seat (view.Running task at due.Place) (view.Running task at (due.Put c.tail)) is (is_at c.graph (is_put_at c.tail) does_something) refl
      (and_from (c.tail == c.tail) _ (eq-eqb c.tail c.tail refl) (ap (act_passes does_something) stands)) in
      omega (arith, more, none_owed)

  filled : (p : ℕ) → p < c.tail + 1 → (p ≡ c.tail) ⊎ (p ≡ c.tail → ⊥) →
      IsFilled c.graph.tasks (slice_index c.ring p) (number_at c.graph (slice_set c.views seat (view.Running task at (due.Put c.tail))) (is_put_at p) does_something)
  filled p lt (inl same) =
      subst (λ (u : ℕ). IsFilled c.graph.tasks (slice_index c.ring u) (number_at c.graph (slice_set c.views seat (view.Running task at (due.Put c.tail))) (is_put_at u) does_something)) (sym same)
      (inr (sound.ring.empty c.tail (omega arith), owed_own))
  filled p lt (inr other) =
      subst (λ (n : ℕ). IsFilled c.graph.tasks (slice_index c.ring p) n) (sym (put_else p does_something other)) (sound.ring.filled p (omega (arith, lt, other)))

  owed : (p : ℕ) → (p ≡ c.tail) ⊎ (p ≡ c.tail → ⊥) → 1 ≤ number_at c.graph (slice_set c.views seat (view.Running task at (due.Put c.tail))) (is_put_at p) does_something → p < c.tail + 1
  owed p (inl same) some = omega (arith, same)
  owed p (inr other) some = let before = sound.ring.owed p (omega (arith, put_else p does_something other, some)) in omega (arith, before)

  -- a task that is to be put at the place drawn last is this seat's
  put_own : (t : ℕ) → 1 ≤ number_at c.graph (slice_set c.views seat (view.Running task at (due.Put c.tail))) (is_put_at c.tail) (lowers_successor t) → e ≡ t
  put_own t some = by_test (cases_eq e t) where
    by_test : (e ≡ t) ⊎ (e ≡ t → ⊥) → e ≡ t
    by_test (inl same) = same
    by_test (inr other) =
        let stays = count_same c.views seat (view.Running task at due.Place) (view.Running task at (due.Put c.tail)) is (is_at c.graph (is_put_at c.tail) (lowers_successor t))
        (sym (and_right (c.tail == c.tail) _ (ap (act_passes (lowers_successor t)) stands ∙ ne_eqb e t other))) in
        absurd (omega (arith, some, stays, put_owes c.graph c.views (is_put_at c.tail) (lowers_successor t), none_owed))

  ordered : (p t before : ℕ) → (p ≡ c.tail) ⊎ (p ≡ c.tail → ⊥) →
      (slice_index c.ring p ≡ t + 1) ⊎ (1 ≤ number_at c.graph (slice_set c.views seat (view.Running task at (due.Put c.tail))) (is_put_at p) (lowers_successor t)) →
      before < c.graph.tasks → follows c.graph before t ≡ true → StandsBelow c.ring p before
  ordered p t before place (inl there) lt after = sound.ring.ordered p t before (inl there) lt after
  ordered p t before (inr other) (inr some) lt after = sound.ring.ordered p t before (inr (omega (arith, some, put_else p (lowers_successor t) other))) lt after
  ordered p t before (inl same) (inr some) lt after =
      let mine = put_own t (subst (λ (u : ℕ). 1 ≤ number_at c.graph (slice_set c.views seat (view.Running task at (due.Put c.tail))) (is_put_at u) (lowers_successor t)) same some) in
      subst (λ (u : ℕ). StandsBelow c.ring u before) (sym same)
      (stands_before c sound e before successor waits_for_none lt (subst (λ (u : ℕ). follows c.graph before u ≡ true) (sym mine) after))

  ring_now : Ring c.graph (c.tail + 1) c.ring c.dep (λ place. number_at c.graph (slice_set c.views seat (view.Running task at (due.Put c.tail))) (is_put_at place) does_something) (λ t. number_at c.graph (slice_set c.views seat (view.Running task at (due.Put c.tail))) is_in_hand (lowers_successor t)) (λ place t. number_at c.graph (slice_set c.views seat (view.Running task at (due.Put c.tail))) (is_put_at place) (lowers_successor t))
  ring_now = record {
    room = room c seat task at e is below stands sound;
    empty = λ p le. sound.ring.empty p (omega (arith, le));
    filled = λ p lt. filled p lt (cases_eq p c.tail);
    owed = λ p some. owed p (cases_eq p c.tail) some;
    once = λ t lt. omega (arith, hand_same t, sound.ring.once t lt);
    ordered = λ p t before there lt after. ordered p t before (cases_eq p c.tail) there lt after;
  }

  closing_none : (s : ℕ) → number_at c.graph c.views is_anything (closes s) ≡ number_at c.graph (slice_set c.views seat (view.Running task at (due.Put c.tail))) is_anything (closes s)
  closing_none = closing_same c seat task at at due.Place (due.Put c.tail) is sound (λ s. ap (act_passes (closes s)) stands) (λ s. ap (act_passes (closes s)) stands)

  pub place_sound : IsSound (record c { tail = c.tail + 1; views = slice_set c.views seat (view.Running task at (due.Put c.tail)) })
  place_sound =
      let views = slice_set c.views seat (view.Running task at (due.Put c.tail)) in
      sound_of (record c { tail = c.tail + 1 }) views sound.graph (record {
        ring = ring_now;
        dependencies = dependencies_framed c.graph c.published c.published c.views views same_behind c.dep sound.dependencies;
        uses = uses_framed c.graph c.published c.published c.views views same_behind c.left sound.uses;
        slots = slots_alike c.graph c.left c.turn c.home (is_unwritten c.graph c.published) c.views views closing_none
            (λ s. undue c seat task at at due.Place (due.Put c.tail) is sound is_scrub refl refl (lowers_use s)) sound.slots;
        done = done_framed c.graph c.published c.published c.views views same_behind c.done sound.done;
      }) (seats_as c (c.tail + 1) c.dep c.left c.turn c.home views refl refl refl refl sound.shapes.turn_words seats)
