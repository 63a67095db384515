-- A reader that gives a slot's turn back leaves a sound state.
use Rattle.std.proofs.Common.{◌≡◌, ◌∙◌, ◌≢◌, ◌≤◌, ◌<◌, ◌+◌, ℕ, true, false, Some, ap, sym, refl, arith, get_or-set_same}
use Rattle.std.specs.Prelude.{slice_get, slice_set}
use Rattle.std.proofs.lemmas.Bool.{eq-eqb, ne_eqb}
use Rattle.sched_core.specs.declared.act.Act.TheVariants as act
use Rattle.sched_core.specs.declared.view.Due.TheVariants as due
use Rattle.sched_core.specs.declared.view.View.TheVariants as view
use Rattle.sched_core.specs.declared.state.Core.{Core}
use Rattle.sched_core.specs.Core.{script, act_passes, is_at, number_at, is_scrub, is_anything, closes, publishes, lowers_use, lowers_successor}
use Rattle.sched_core.specs.Sound.{Unwritten, Free, Held, Last, Scrubbed, IsSound}
use Rattle.sched_core.proofs.Seats.{IsSeat, count_same, count_less, count_at_least}
use Rattle.sched_core.proofs.Progress.{no_close_next, opens}
use Rattle.sched_core.proofs.Moving.{goes, undue}
use Rattle.sched_core.proofs.Turning.{Stands, turned_sound}

module _ (c : Core) (seat task at slot : ℕ) (is : IsSeat c.views seat (view.Running task at due.Nothing)) (stands : slice_get (script c.graph task) at ≡ Some (act.Closes slot)) (sound : IsSound c) where
  here : is_at c.graph is_anything (closes slot) (view.Running task at due.Nothing) ≡ true
  here = ap (act_passes (closes slot)) stands ∙ eq-eqb slot slot refl

  gone_on : (s : ℕ) → is_at c.graph is_anything (closes s) (view.Running task (at + 1) due.Nothing) ≡ false
  unfolding opens
  gone_on s = no_close_next c.graph task at s (act.Closes slot) stands refl

  closing_before : 1 ≤ number_at c.graph c.views is_anything (closes slot)
  closing_before = count_at_least c.views seat (view.Running task at due.Nothing) (view.Running task (at + 1) due.Nothing) is (is_at c.graph is_anything (closes slot)) here

  closing_own : number_at c.graph (slice_set c.views seat (view.Running task (at + 1) due.Nothing)) is_anything (closes slot) + 1 ≡ number_at c.graph c.views is_anything (closes slot)
  closing_own = count_less c.views seat (view.Running task at due.Nothing) (view.Running task (at + 1) due.Nothing) is (is_at c.graph is_anything (closes slot)) here (gone_on slot)

  closing_else : (s : ℕ) → s ≢ slot → number_at c.graph (slice_set c.views seat (view.Running task (at + 1) due.Nothing)) is_anything (closes s) ≡ number_at c.graph c.views is_anything (closes s)
  closing_else s other =
      count_same c.views seat (view.Running task at due.Nothing) (view.Running task (at + 1) due.Nothing) is (is_at c.graph is_anything (closes s))
      (ap (act_passes (closes s)) stands ∙ ne_eqb slot s (λ e. other (sym e)) ∙ sym (gone_on s))

  scrubbing_same : (s : ℕ) → number_at c.graph (slice_set c.views seat (view.Running task (at + 1) due.Nothing)) is_scrub (lowers_use s) ≡ number_at c.graph c.views is_scrub (lowers_use s)
  scrubbing_same s = sym (undue c seat task at (at + 1) due.Nothing due.Nothing is sound is_scrub refl refl (lowers_use s))

  own_slot : slot < c.graph.slots → Stands c c.turn c.home c.views slot → Stands c (slice_set c.turn slot 0) (slice_set c.home slot true) (slice_set c.views seat (view.Running task (at + 1) due.Nothing)) slot
  own_slot within (Held written some turn away one) =
      Free written some
      (get_or-set_same c.turn slot 0 0 (omega (arith, sound.shapes.turn_length)))
      (get_or-set_same c.home slot true false (omega (arith, sound.shapes.home_length)))
      (omega (arith, closing_own))
  own_slot within (Unwritten unwritten turn away none) = absurd (omega (arith, closing_before, none))
  own_slot within (Free written some turn there none) = absurd (omega (arith, closing_before, none))
  own_slot within (Last written unused turn there one none) = absurd (omega (arith, closing_before, none))
  own_slot within (Scrubbed written unused turn away scrubbing none) = absurd (omega (arith, closing_before, none))

  pub close_sound : IsSound (record c { turn = slice_set c.turn slot 0; home = slice_set c.home slot true; views = slice_set c.views seat (view.Running task (at + 1) due.Nothing) })
  close_sound =
      let goes_by = goes c seat task at is sound (act.Closes slot) stands in
      turned_sound c seat task at slot 0 true due.Nothing (act.Closes slot) is stands (λ e. cc) sound (omega arith) (λ p. refl) refl
      (λ s. goes_by (lowers_use s) refl) (λ t. goes_by (lowers_successor t) refl) (goes_by publishes refl)
      closing_else (λ s other. scrubbing_same s) (omega (arith, scrubbing_same slot)) own_slot
