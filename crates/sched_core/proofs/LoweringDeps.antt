-- A seat that lowers what a task waits for leaves a sound state.
use Rattle.std.proofs.Common.{◌≡◌, ◌∙◌, ◌≤◌, ◌<◌, ◌+◌, ◌-◌, ℕ, Bool, cond, not, Some, ◌⊎◌, inl, inr, List, ap, sym, refl, subst, arith, length-set, get_or-set_same, get_or-set_other}
use Rattle.std.specs.Prelude.{◌==◌, ◌&&◌, slice_get, slice_set, slice_index}
use Rattle.std.specs.List.{count_by}
use Rattle.std.proofs.lemmas.Bool.{cases_eq, eq-eqb, ne_eqb, and_from, and_left, and_right}
use Rattle.graph_types.specs.declared.graph.Graph.{Graph}
use Rattle.graph_types.specs.Facts.{IsFollower, successor_follows}
use Rattle.graph_types.specs.Graph.{tasks_of, follows, IsValid}
use Rattle.sched_core.specs.declared.act.Act.{Act}
use Rattle.sched_core.specs.declared.act.Act.TheVariants as act
use Rattle.sched_core.specs.declared.view.Due.{Due}
use Rattle.sched_core.specs.declared.view.Due.TheVariants as due
use Rattle.sched_core.specs.declared.view.View.{View}
use Rattle.sched_core.specs.declared.view.View.TheVariants as view
use Rattle.sched_core.specs.declared.state.Core.{Core}
use Rattle.sched_core.specs.Core.{script, number_at, is_behind, is_scrub, is_put_at, is_in_hand, does_something, lowers_use, lowers_successor}
use Rattle.sched_core.specs.Sound.{Ring, number_in, IsFilled, Uses, IsSound, is_unwritten}
use Rattle.sched_core.proofs.Lists.{number, number_true, number_false}
use Rattle.sched_core.proofs.Seats.{IsSeat}
use Rattle.sched_core.proofs.Frames.{along2, slots_alike, seats_as, sound_of}
use Rattle.sched_core.proofs.Scripts.{body_successors, in_body}
use Rattle.sched_core.proofs.Facts.{runs_task}
use Rattle.sched_core.proofs.Once.{successor_once}
use Rattle.sched_core.proofs.Lowering.{HasLowered, count_lowered, alike, as_many, one_less, owed_now, owed_else, closing_kept, seats_kept, done_kept}

-- what a script lowers is a task that follows
pub follower : (g : Graph) → IsValid g → (task at e : ℕ) → task < g.tasks → slice_get (script g task) at ≡ Some (act.LowersSuccessor e) → IsFollower g task e
follower g valid task at e lt stands =
    successor_follows g valid.order task e lt (sym (body_successors g task e) ∙ in_body g task at (lowers_successor e) (act.LowersSuccessor e) stands (eq-eqb e e refl) refl)

module _ (c : Core) (seat task at e at' : ℕ) (owed' : Due) (is : IsSeat c.views seat (view.Running task at due.Nothing)) (stands : slice_get (script c.graph task) at ≡ Some (act.LowersSuccessor e)) (sound : IsSound c)
    (lowered : HasLowered c.graph task at (act.LowersSuccessor e) due.Place (slice_index c.dep e) at' owed') where
  abbrev views : List View
  views = slice_set c.views seat (view.Running task at' owed')

  below : task < c.graph.tasks
  below = runs_task c sound seat task at due.Nothing is

  behind_it : IsFollower c.graph task e
  behind_it = follower c.graph sound.graph task at e below stands

  less : slice_index c.dep e ≡ count_by (λ t. follows c.graph t e && not (is_behind c.graph c.published views (lowers_successor e) t)) (tasks_of c.graph) + 1
  less =
      sound.dependencies.counts e behind_it.there
      ∙ one_less c seat task at (act.LowersSuccessor e) due.Place (slice_index c.dep e) at' owed' is stands sound lowered (lowers_successor e) (eq-eqb e e refl) (successor_once c.graph sound.graph task e below) (λ t. follows c.graph t e) behind_it.follows

  dependencies_now : (s : ℕ) → s < c.graph.tasks →
      slice_index (slice_set c.dep e (slice_index c.dep e - 1)) s ≡ count_by (λ t. follows c.graph t s && not (is_behind c.graph c.published views (lowers_successor s) t)) (tasks_of c.graph)
  dependencies_now s lt =
      count_lowered c.dep e (λ u. count_by (λ t. follows c.graph t u && not (is_behind c.graph c.published views (lowers_successor u) t)) (tasks_of c.graph)) (omega (arith, sound.shapes.dep_length, behind_it.there)) less s
      (λ other. sound.dependencies.counts s lt ∙ as_many c seat task at (act.LowersSuccessor e) due.Place (slice_index c.dep e) at' owed' is stands sound lowered (lowers_successor s) (ne_eqb e s (λ same. other (sym same))) (λ t. follows c.graph t s))

  hand : (t : ℕ) → number_at c.graph views is_in_hand (lowers_successor t) ≡ number_at c.graph c.views is_in_hand (lowers_successor t) + number ((slice_index c.dep e == 1) && (e == t))
  hand t = owed_now c seat task at (act.LowersSuccessor e) due.Place (slice_index c.dep e) at' owed' is stands sound lowered is_in_hand refl refl (lowers_successor t)

  once : (t : ℕ) → t < c.graph.tasks → (t ≡ e) ⊎ (t ≡ e → ⊥) →
      number_in c.ring t + number_at c.graph views is_in_hand (lowers_successor t) ≡ cond (slice_index (slice_set c.dep e (slice_index c.dep e - 1)) t == 0) 1 0
  once t lt (inl same) =
      subst (λ (u : ℕ). number_in c.ring u + number_at c.graph views is_in_hand (lowers_successor u) ≡ cond (slice_index (slice_set c.dep e (slice_index c.dep e - 1)) u == 0) 1 0) (sym same)
      (by_count (cases_eq (slice_index c.dep e) 1))
    where
      now : slice_index (slice_set c.dep e (slice_index c.dep e - 1)) e ≡ slice_index c.dep e - 1
      now = get_or-set_same c.dep e (slice_index c.dep e - 1) 0 (omega (arith, sound.shapes.dep_length, behind_it.there))

      none_yet : number_in c.ring e + number_at c.graph c.views is_in_hand (lowers_successor e) ≡ 0
      none_yet = sound.ring.once e behind_it.there ∙ number_false (slice_index c.dep e == 0) (ne_eqb _ _ (λ z. omega (arith, less)))

      by_count : (slice_index c.dep e ≡ 1) ⊎ (slice_index c.dep e ≡ 1 → ⊥) →
          number_in c.ring e + number_at c.graph views is_in_hand (lowers_successor e) ≡ cond (slice_index (slice_set c.dep e (slice_index c.dep e - 1)) e == 0) 1 0
      by_count (inl last) =
          let left = number_true ((slice_index c.dep e == 1) && (e == e)) (and_from _ _ (eq-eqb _ _ last) (eq-eqb e e refl)) in
          let right = number_true (slice_index (slice_set c.dep e (slice_index c.dep e - 1)) e == 0) (eq-eqb _ _ (omega (arith, now))) in
          omega (arith, hand e, none_yet, left, right)
      by_count (inr more) =
          let left = number_false ((slice_index c.dep e == 1) && (e == e)) (and_left _ _ (ne_eqb _ _ more)) in
          let right = number_false (slice_index (slice_set c.dep e (slice_index c.dep e - 1)) e == 0) (ne_eqb _ _ (λ z. omega (arith, now, less, more))) in
          omega (arith, hand e, none_yet, left, right)
  once t lt (inr other) =
      let same = get_or-set_other c.dep e t (slice_index c.dep e - 1) 0 other in
      let none = number_false ((slice_index c.dep e == 1) && (e == t)) (and_right _ _ (ne_eqb e t (λ it. other (sym it)))) in
      omega (arith, hand t, none, sound.ring.once t lt, ap (λ (n : ℕ). number (n == 0)) same)

  put_kept : (p : ℕ) (test : Act → Bool) → number_at c.graph c.views (is_put_at p) test ≡ number_at c.graph views (is_put_at p) test
  put_kept p = owed_else c seat task at (act.LowersSuccessor e) due.Place (slice_index c.dep e) at' owed' is stands sound lowered (is_put_at p) refl refl

  ring_now : Ring c.graph c.tail c.ring (slice_set c.dep e (slice_index c.dep e - 1)) (λ place. number_at c.graph views (is_put_at place) does_something) (λ t. number_at c.graph views is_in_hand (lowers_successor t)) (λ place t. number_at c.graph views (is_put_at place) (lowers_successor t))
  ring_now = record {
    room = sound.ring.room;
    empty = sound.ring.empty;
    filled = λ place lt. subst (λ (n : ℕ). IsFilled c.graph.tasks (slice_index c.ring place) n) (put_kept place does_something) (sound.ring.filled place lt);
    owed = λ place some. sound.ring.owed place (omega (arith, put_kept place does_something));
    once = λ t lt. once t lt (cases_eq t e);
    ordered = λ place t before stands' lt after. sound.ring.ordered place t before (stands_before place t stands') lt after;
  } where
    stands_before : (place t : ℕ) → (slice_index c.ring place ≡ t + 1) ⊎ (1 ≤ number_at c.graph views (is_put_at place) (lowers_successor t)) →
        (slice_index c.ring place ≡ t + 1) ⊎ (1 ≤ number_at c.graph c.views (is_put_at place) (lowers_successor t))
    stands_before place t (inl there) = inl there
    stands_before place t (inr some) = inr (omega (arith, put_kept place (lowers_successor t)))

  pub lower_dep_sound : IsSound (record c { dep = slice_set c.dep e (slice_index c.dep e - 1); views = slice_set c.views seat (view.Running task at' owed') })
  lower_dep_sound = sound_of (record c { dep = slice_set c.dep e (slice_index c.dep e - 1) }) views sound.graph (record {
    ring = ring_now;
    dependencies = record { counts = dependencies_now };
    uses = along2 (λ f. Uses c.graph c.left f) (λ t slot. is_behind c.graph c.published c.views (lowers_use slot) t) (λ t slot. is_behind c.graph c.published views (lowers_use slot) t)
        (λ t slot. alike c seat task at (act.LowersSuccessor e) due.Place (slice_index c.dep e) at' owed' is stands sound lowered (lowers_use slot) refl t) sound.uses;
    slots = slots_alike c.graph c.left c.turn c.home (is_unwritten c.graph c.published) c.views views
        (closing_kept c seat task at (act.LowersSuccessor e) due.Place (slice_index c.dep e) at' owed' is stands sound lowered (λ slot. refl))
        (λ slot. owed_else c seat task at (act.LowersSuccessor e) due.Place (slice_index c.dep e) at' owed' is stands sound lowered is_scrub refl refl (lowers_use slot)) sound.slots;
    done = done_kept c seat task at (act.LowersSuccessor e) due.Place (slice_index c.dep e) at' owed' is stands sound lowered;
  }) (seats_as c c.tail (slice_set c.dep e (slice_index c.dep e - 1)) c.left c.turn c.home views (length-set c.dep e (slice_index c.dep e - 1)) refl refl refl sound.shapes.turn_words
      (seats_kept c seat task at (act.LowersSuccessor e) due.Place (slice_index c.dep e) at' owed' is stands sound lowered refl))
