-- Steps of the graph and of slots leave a sound state.
use Rattle.std.proofs.Common.{◌≡◌, ◌+◌, ◌-◌, ℕ, false, Some, ◌⊎◌, inl, inr, sym, refl, subst, cond}
use Rattle.std.specs.Prelude.{◌==◌, slice_get, slice_set, slice_index}
use Rattle.std.proofs.lemmas.Bool.{cases_eq, eq-eqb, ne_eqb, cond-true, cond-false}
use Rattle.sched_core.specs.declared.act.Act.{Act}
use Rattle.sched_core.specs.declared.act.Act.TheVariants as act
use Rattle.sched_core.specs.declared.view.Due.{Due}
use Rattle.sched_core.specs.declared.view.Due.TheVariants as due
use Rattle.sched_core.specs.declared.view.View.TheVariants as view
use Rattle.sched_core.specs.declared.view.Doing.{Doing}
use Rattle.sched_core.specs.declared.state.Core.{Core}
use Rattle.sched_core.specs.Core.{script}
use Rattle.sched_core.specs.Step.{publish, lower_dep, place, put, open_slot, close, lower_use, scrub, turned}
use Rattle.sched_core.specs.Sound.{IsSound}
use Rattle.sched_core.proofs.Seats.{IsSeat}
use Rattle.sched_core.proofs.Publishing.{publish_sound}
use Rattle.sched_core.proofs.Lowering.{by_count, was_last, was_more}
use Rattle.sched_core.proofs.LoweringDeps.{lower_dep_sound}
use Rattle.sched_core.proofs.SoundLowerUse.{lower_use_sound}
use Rattle.sched_core.proofs.SoundPlace.{place_sound}
use Rattle.sched_core.proofs.Putting.{put_sound}
use Rattle.sched_core.proofs.OpeningSlots.{open_sound}
use Rattle.sched_core.proofs.ClosingSlots.{close_sound}
use Rattle.sched_core.proofs.ScrubbingSlots.{scrub_sound}
use Rattle.sched_core.proofs.Progress.{opens}
use Rattle.sched_core.proofs.TicketSteps.{Leaves}

module _ (c : Core) (sound : IsSound c) (seat : ℕ) (d : Doing) where
  pub publish_leaves : (owed : Due) (a : Act) → IsSeat c.views seat (view.Running d.task d.at owed) → slice_get (script c.graph d.task) d.at ≡ Some a → Leaves (publish c seat d owed a)
  publish_leaves due.Nothing act.Publishes is stands = publish_sound c seat d.task d.at is stands sound
  publish_leaves _ _ is stands = tt

  pub lower_dep_leaves : (owed : Due) (a : Act) → IsSeat c.views seat (view.Running d.task d.at owed) → slice_get (script c.graph d.task) d.at ≡ Some a → Leaves (lower_dep c seat d owed a)
  unfolding opens
  lower_dep_leaves due.Nothing (act.LowersSuccessor e) is stands =
      by_count (λ v. IsSound (record c { dep = slice_set c.dep e (slice_index c.dep e - 1); views = slice_set c.views seat v })) d (slice_index c.dep e) due.Place
      (λ last. lower_dep_sound c seat d.task d.at e d.at due.Place is stands sound (was_last c.graph d.task d.at (act.LowersSuccessor e) stands due.Place (slice_index c.dep e) last refl refl (λ slot. refl)))
      (λ more. lower_dep_sound c seat d.task d.at e (d.at + 1) due.Nothing is stands sound (was_more c.graph d.task d.at (act.LowersSuccessor e) stands due.Place (slice_index c.dep e) more (λ same. cc) refl))
  lower_dep_leaves _ _ is stands = tt

  pub place_leaves : (owed : Due) (a : Act) → IsSeat c.views seat (view.Running d.task d.at owed) → slice_get (script c.graph d.task) d.at ≡ Some a → Leaves (place c seat d owed a)
  place_leaves due.Place (act.LowersSuccessor e) is stands = place_sound c seat d.task d.at e is stands sound
  place_leaves _ _ is stands = tt

  pub put_leaves : (owed : Due) (a : Act) → IsSeat c.views seat (view.Running d.task d.at owed) → slice_get (script c.graph d.task) d.at ≡ Some a → Leaves (put c seat d owed a)
  put_leaves (due.Put q) (act.LowersSuccessor e) is stands = put_sound c seat d.task d.at e q is stands sound
  put_leaves _ _ is stands = tt

  pub open_leaves : (owed : Due) (a : Act) → IsSeat c.views seat (view.Running d.task d.at owed) → slice_get (script c.graph d.task) d.at ≡ Some a → Leaves (open_slot c seat d owed a)
  open_leaves due.Nothing (act.Opens slot) is stands = by_turn (cases_eq (slice_index c.turn slot) 0) where
    by_turn : (slice_index c.turn slot ≡ 0) ⊎ (slice_index c.turn slot ≡ 0 → ⊥) → IsSound (cond (slice_index c.turn slot == 0) (turned c seat d slot 1 false) c)
    by_turn (inl free) = subst IsSound (sym (cond-true _ _ _ (eq-eqb _ _ free))) (open_sound c seat d.task d.at slot is stands free sound)
    by_turn (inr held) = subst IsSound (sym (cond-false _ _ _ (ne_eqb _ _ held))) sound
  open_leaves _ _ is stands = tt

  pub close_leaves : (owed : Due) (a : Act) → IsSeat c.views seat (view.Running d.task d.at owed) → slice_get (script c.graph d.task) d.at ≡ Some a → Leaves (close c seat d owed a)
  close_leaves due.Nothing (act.Closes slot) is stands = close_sound c seat d.task d.at slot is stands sound
  close_leaves _ _ is stands = tt

  pub lower_use_leaves : (owed : Due) (a : Act) → IsSeat c.views seat (view.Running d.task d.at owed) → slice_get (script c.graph d.task) d.at ≡ Some a → Leaves (lower_use c seat d owed a)
  unfolding opens
  lower_use_leaves due.Nothing (act.LowersUse slot) is stands =
      by_count (λ v. IsSound (record c { left = slice_set c.left slot (slice_index c.left slot - 1); views = slice_set c.views seat v })) d (slice_index c.left slot) due.Scrub
      (λ last. lower_use_sound c seat d.task d.at slot d.at due.Scrub is stands sound (was_last c.graph d.task d.at (act.LowersUse slot) stands due.Scrub (slice_index c.left slot) last refl refl (λ s. refl)))
      (λ more. lower_use_sound c seat d.task d.at slot (d.at + 1) due.Nothing is stands sound (was_more c.graph d.task d.at (act.LowersUse slot) stands due.Scrub (slice_index c.left slot) more (λ same. cc) refl))
  lower_use_leaves _ _ is stands = tt

  pub scrub_leaves : (owed : Due) (a : Act) → IsSeat c.views seat (view.Running d.task d.at owed) → slice_get (script c.graph d.task) d.at ≡ Some a → Leaves (scrub c seat d owed a)
  scrub_leaves due.Scrub (act.LowersUse slot) is stands = scrub_sound c seat d.task d.at slot is stands sound
  scrub_leaves _ _ is stands = tt
