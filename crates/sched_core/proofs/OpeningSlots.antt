-- A reader that takes a slot's turn leaves a sound state.
use Rattle.std.proofs.Common.{◌≡◌, ◌∙◌, ◌≢◌, ◌≤◌, ◌<◌, ◌+◌, ℕ, true, false, cond, not, Some, ◌⊎◌, inl, inr, length, ap, sym, refl, arith, get_or-set_same}
use Rattle.std.specs.Prelude.{◌==◌, ◌&&◌, ◌||◌, slice_get, slice_set, slice_index}
use Rattle.std.proofs.lemmas.Bool.{false≢true, cases_Bool, cases_eq, cases_lt, eq-eqb, ne_eqb, and_from, and_parts, or_left}
use Rattle.std.proofs.lemmas.List.{get_or_past}
use Rattle.std.proofs.lemmas.List.Sums.{get_or-le-sum_by}
use Rattle.graph_types.specs.Counting.{count_one}
use Rattle.graph_types.specs.Facts.{reader_follows}
use Rattle.graph_types.specs.Graph.{reads_of, reads, writes, follows}
use Rattle.sched_core.specs.declared.act.Act.TheVariants as act
use Rattle.sched_core.specs.declared.view.Due.TheVariants as due
use Rattle.sched_core.specs.declared.view.View.TheVariants as view
use Rattle.sched_core.specs.declared.state.Core.{Core}
use Rattle.sched_core.specs.Core.{script, act_passes, is_at, number_at, is_behind, is_scrub, is_anything, closes, publishes, lowers_use, lowers_successor}
use Rattle.sched_core.specs.Sound.{Unwritten, Free, Held, Last, Scrubbed, IsSound, is_unwritten}
use Rattle.sched_core.proofs.Lists.{number_true, number_false, any_found}
use Rattle.sched_core.proofs.Seats.{IsSeat, count_same, count_more}
use Rattle.sched_core.proofs.Scripts.{reads_lower_no_use, reads_lower_none}
use Rattle.sched_core.proofs.Facts.{runs_task}
use Rattle.sched_core.proofs.Progress.{closes_then}
use Rattle.sched_core.proofs.SoundReads.{touched_read, none_met_yet}
use Rattle.sched_core.proofs.Moving.{runs_before, behind_was, goes, undue}
use Rattle.sched_core.proofs.Turning.{Stands, turned_sound}
use Rattle.sched_core.proofs.Unwritten.{unpublished_keeps}

module _ (c : Core) (seat task at slot : ℕ) (is : IsSeat c.views seat (view.Running task at due.Nothing)) (stands : slice_get (script c.graph task) at ≡ Some (act.Opens slot)) (free : slice_index c.turn slot ≡ 0) (sound : IsSound c) where
  below : task < c.graph.tasks
  below = runs_task c sound seat task at due.Nothing is

  is_read : reads c.graph task slot ≡ true
  is_read = touched_read c.graph task at slot (act.Opens slot) stands (eq-eqb slot slot refl)

  -- a task that runs waits for nothing
  waits_for_none : slice_index c.dep task ≡ 0
  waits_for_none =
      let was = sound.running.drawn task below (omega (arith, runs_before c seat task at (at + 1) due.Nothing due.Nothing is sound)) in
      by_count was.0 was.2 (cases_eq (slice_index c.dep task) 0)
    where
      by_count : (p : ℕ) → slice_index c.ring p ≡ task + 1 → (slice_index c.dep task ≡ 0) ⊎ (slice_index c.dep task ≡ 0 → ⊥) → slice_index c.dep task ≡ 0
      by_count p there (inl none) = none
      by_count p there (inr more) = absurd (by_order (cases_lt p (length c.ring))) where
        by_order : (p < length c.ring) ⊎ (length c.ring ≤ p) → ⊥
        by_order (inr le) = let past : slice_index c.ring p ≡ 0 = get_or_past c.ring p 0 le in omega arith
        by_order (inl lt) = omega (arith, get_or-le-sum_by (λ w. cond (w == task + 1) 1 0) c.ring p 0 lt, number_true (slice_index c.ring p == task + 1) (eq-eqb _ _ there), sound.ring.once task below, number_false (slice_index c.dep task == 0) (ne_eqb _ _ more))

  -- so what it reads is written
  written : is_unwritten c.graph c.published slot ≡ false
  written = by_test (cases_Bool (is_unwritten c.graph c.published slot)) where
    by_test : (is_unwritten c.graph c.published slot ≡ true) ⊎ (is_unwritten c.graph c.published slot ≡ false) → is_unwritten c.graph c.published slot ≡ false
    by_test (inr fine) = fine
    by_test (inl unwritten) =
        let found = any_found (λ t. writes c.graph t slot && not (slice_index c.published t == 1)) c.graph.tasks unwritten in
        let parts = and_parts (writes c.graph found.0 slot) (not (slice_index c.published found.0 == 1)) found.2 in
        let unread : slice_index c.published found.0 ≡ 1 → ⊥ = λ e. false≢true (sym (ap not (eq-eqb _ _ e)) ∙ parts.1) in
        let follows_it : follows c.graph found.0 task ≡ true = reader_follows c.graph found.0 task slot parts.0 is_read in
        let waits = count_one (λ t. follows c.graph t task && not (is_behind c.graph c.published c.views (lowers_successor task) t)) c.graph.tasks found.0 found.1
        (and_from _ _ follows_it (ap not (unpublished_keeps c sound (lowers_successor task) (reads_lower_none task) found.0 unread))) in
        absurd (omega (arith, waits, sound.dependencies.counts task below, waits_for_none))

  -- and its use of the slot is left
  left : slot < c.graph.slots → 1 ≤ slice_index c.left slot
  left within =
      let unlowered =
      behind_was c seat task at (at + 1) due.Nothing due.Nothing is sound c.published (lowers_use slot)
      ∙ none_met_yet c.graph (lowers_use slot) task at at slot (act.Opens slot) (reads_lower_no_use slot (reads_of c.graph task)) stands (eq-eqb slot slot refl) (omega arith) in
      let counts = count_one (λ t. (reads c.graph t slot || writes c.graph t slot) && not (is_behind c.graph c.published c.views (lowers_use slot) t)) c.graph.tasks task below
      (and_from _ _ (or_left _ _ is_read) (ap not unlowered)) in
      omega (arith, counts, sound.uses.counts slot within)

  closing_own : number_at c.graph (slice_set c.views seat (view.Running task (at + 1) due.Nothing)) is_anything (closes slot) ≡ number_at c.graph c.views is_anything (closes slot) + 1
  closing_own = count_more c.views seat (view.Running task at due.Nothing) (view.Running task (at + 1) due.Nothing) is (is_at c.graph is_anything (closes slot))
      (ap (act_passes (closes slot)) stands) (ap (act_passes (closes slot)) (closes_then c.graph task at slot stands) ∙ eq-eqb slot slot refl)

  closing_else : (s : ℕ) → s ≢ slot → number_at c.graph (slice_set c.views seat (view.Running task (at + 1) due.Nothing)) is_anything (closes s) ≡ number_at c.graph c.views is_anything (closes s)
  closing_else s other =
      count_same c.views seat (view.Running task at due.Nothing) (view.Running task (at + 1) due.Nothing) is (is_at c.graph is_anything (closes s))
      (ap (act_passes (closes s)) stands ∙ sym (ap (act_passes (closes s)) (closes_then c.graph task at slot stands) ∙ ne_eqb slot s (λ e. other (sym e))))

  scrubbing_same : (s : ℕ) → number_at c.graph (slice_set c.views seat (view.Running task (at + 1) due.Nothing)) is_scrub (lowers_use s) ≡ number_at c.graph c.views is_scrub (lowers_use s)
  scrubbing_same s = sym (undue c seat task at (at + 1) due.Nothing due.Nothing is sound is_scrub refl refl (lowers_use s))

  own_slot : slot < c.graph.slots → Stands c c.turn c.home c.views slot → Stands c (slice_set c.turn slot 1) (slice_set c.home slot false) (slice_set c.views seat (view.Running task (at + 1) due.Nothing)) slot
  own_slot within (Free fine some turn there none) =
      Held fine some
      (get_or-set_same c.turn slot 1 0 (omega (arith, sound.shapes.turn_length)))
      (get_or-set_same c.home slot false false (omega (arith, sound.shapes.home_length)))
      (omega (arith, closing_own))
  own_slot within (Held fine some turn away one) = absurd (omega (arith, free, turn))
  own_slot within (Unwritten unwritten turn away none) = absurd (false≢true (sym written ∙ unwritten))
  own_slot within (Last fine unused turn there one none) = absurd (omega (arith, left within, unused))
  own_slot within (Scrubbed fine unused turn away scrubbing none) = absurd (omega (arith, free, turn))

  pub open_sound : IsSound (record c { turn = slice_set c.turn slot 1; home = slice_set c.home slot false; views = slice_set c.views seat (view.Running task (at + 1) due.Nothing) })
  open_sound =
      let goes_by = goes c seat task at is sound (act.Opens slot) stands in
      turned_sound c seat task at slot 1 false due.Nothing (act.Opens slot) is stands (λ e. cc) sound (omega arith) (λ p. refl) refl
      (λ s. goes_by (lowers_use s) refl) (λ t. goes_by (lowers_successor t) refl) (goes_by publishes refl)
      closing_else (λ s other. scrubbing_same s) (omega (arith, scrubbing_same slot)) own_slot
