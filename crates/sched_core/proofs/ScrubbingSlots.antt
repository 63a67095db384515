-- The last user of a slot that scrubs it leaves a sound state.
use Rattle.std.proofs.Common.{◌≡◌, ◌∙◌, ◌≢◌, ◌≤◌, ◌<◌, ◌+◌, ℕ, true, false, Some, ap, sym, refl, arith, get_or-set_same}
use Rattle.std.specs.Prelude.{slice_get, slice_set}
use Rattle.std.proofs.lemmas.Bool.{eq-eqb, ne_eqb}
use Rattle.sched_core.specs.declared.act.Act.TheVariants as act
use Rattle.sched_core.specs.declared.view.Due.TheVariants as due
use Rattle.sched_core.specs.declared.view.View.TheVariants as view
use Rattle.sched_core.specs.declared.state.Core.{Core}
use Rattle.sched_core.specs.Core.{script, act_passes, is_at, number_at, is_scrub, is_anything, closes, lowers_use}
use Rattle.sched_core.specs.Sound.{Unwritten, Free, Held, Last, Scrubbed, IsSound}
use Rattle.sched_core.proofs.Seats.{IsSeat, count_same, count_less, count_at_least}
use Rattle.sched_core.proofs.Progress.{no_close_next, opens}
use Rattle.sched_core.proofs.Moving.{closing_same}
use Rattle.sched_core.proofs.Turning.{Stands, turned_sound}
use Rattle.sched_core.proofs.Unwritten.{unwritten_keeps}

module _ (c : Core) (seat task at slot : ℕ) (is : IsSeat c.views seat (view.Running task at due.Scrub)) (stands : slice_get (script c.graph task) at ≡ Some (act.LowersUse slot)) (sound : IsSound c) where
  here : is_at c.graph is_scrub (lowers_use slot) (view.Running task at due.Scrub) ≡ true
  here = ap (act_passes (lowers_use slot)) stands ∙ eq-eqb slot slot refl

  scrubbing_before : 1 ≤ number_at c.graph c.views is_scrub (lowers_use slot)
  scrubbing_before = count_at_least c.views seat (view.Running task at due.Scrub) (view.Running task (at + 1) due.Nothing) is (is_at c.graph is_scrub (lowers_use slot)) here

  scrubbing_own : number_at c.graph (slice_set c.views seat (view.Running task (at + 1) due.Nothing)) is_scrub (lowers_use slot) + 1 ≡ number_at c.graph c.views is_scrub (lowers_use slot)
  scrubbing_own = count_less c.views seat (view.Running task at due.Scrub) (view.Running task (at + 1) due.Nothing) is (is_at c.graph is_scrub (lowers_use slot)) here refl

  scrubbing_else : (s : ℕ) → s ≢ slot → number_at c.graph (slice_set c.views seat (view.Running task (at + 1) due.Nothing)) is_scrub (lowers_use s) ≡ number_at c.graph c.views is_scrub (lowers_use s)
  scrubbing_else s other =
      count_same c.views seat (view.Running task at due.Scrub) (view.Running task (at + 1) due.Nothing) is (is_at c.graph is_scrub (lowers_use s))
      (ap (act_passes (lowers_use s)) stands ∙ ne_eqb slot s (λ e. other (sym e)))

  closing_none : (s : ℕ) → number_at c.graph (slice_set c.views seat (view.Running task (at + 1) due.Nothing)) is_anything (closes s) ≡ number_at c.graph c.views is_anything (closes s)
  unfolding opens
  closing_none s =
      sym (closing_same c seat task at (at + 1) due.Scrub due.Nothing is sound (λ s. ap (act_passes (closes s)) stands) (λ s. no_close_next c.graph task at s (act.LowersUse slot) stands refl) s)

  own_slot : slot < c.graph.slots → Stands c c.turn c.home c.views slot → Stands c (slice_set c.turn slot 2) (slice_set c.home slot false) (slice_set c.views seat (view.Running task (at + 1) due.Nothing)) slot
  own_slot within (Last written unused turn there one none) =
      Scrubbed written unused
      (get_or-set_same c.turn slot 2 0 (omega (arith, sound.shapes.turn_length)))
      (get_or-set_same c.home slot false false (omega (arith, sound.shapes.home_length)))
      (omega (arith, scrubbing_own))
      (closing_none slot ∙ none)
  own_slot within (Held written some turn away one) = absurd (omega (arith, sound.slots.unused slot scrubbing_before, some))
  own_slot within (Unwritten unwritten turn away none) = absurd (omega (arith, sound.slots.unused slot scrubbing_before, unwritten_keeps c sound slot within unwritten))
  own_slot within (Free written some turn there none) = absurd (omega (arith, sound.slots.unused slot scrubbing_before, some))
  own_slot within (Scrubbed written unused turn away scrubbing none) = absurd (omega (arith, scrubbing_before, scrubbing))

  pub scrub_sound : IsSound (record c { turn = slice_set c.turn slot 2; home = slice_set c.home slot false; views = slice_set c.views seat (view.Running task (at + 1) due.Nothing) })
  scrub_sound =
      turned_sound c seat task at slot 2 false due.Scrub (act.LowersUse slot) is stands (λ e. cc) sound (omega arith) (λ p. refl) refl (λ s. refl) (λ t. refl) refl
      (λ s other. closing_none s) scrubbing_else (omega (arith, scrubbing_own)) own_slot
