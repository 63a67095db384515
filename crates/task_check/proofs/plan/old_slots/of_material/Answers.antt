use Rattle.std.proofs.Common.{arith, ◌≡◌, ◌∙◌, ◌<◌, ◌∷◌, [], ℕ, List, length, map, ap, subst}
use Rattle.std.specs.Prelude.{slice_get}
use Rattle.std.specs.Option.{option_map_or}
use Rattle.std.proofs.lemmas.List.Concat.{flat_map_single}
use Rattle.uts_geom.specs.Spans.{counted}
use Rattle.uts_geom.specs.declared.centring.Centring.{Centring}
use Rattle.problem_types.specs.Lists.{task_list}
use Rattle.task_check.specs.Counts.{owned_count}
use Rattle.task_check.specs.Plan.{Slot, Old, patches_of}
use Rattle.task_check.specs.Tallies.{IsTally}
use Rattle.task_check.proofs.Details.{length-patches_of, patches_at}
use Rattle.task_check.proofs.Tallies.{tally_counted, tally_read, at_most_more, at_most_one}
use Rattle.task_check.proofs.plan.old_slots.of_material.Goals as goal

pub loop-patch-preserved : goal.loop-patch-preserved
loop-patch-preserved c =
    let inside : c.loop-patch.patch < length (patches_of c.args.p.now c.args.level) = omega (arith, c.loop-patch-test.true, c.patch_count-patch-end.ensures.count) in
    record {
      tally = tally_counted c.args.p.now (task_list c.args.p.now c.args.list) (λ patch. Old c.args.name c.args.level c.args.material patch ∷ [])
          c.loop-patch.patch c.loop-patch.tally c.of_slot.result c.both-tally.result c.loop-patch.invariant.tally
          (tally_read c.args.p.now (task_list c.args.p.now c.args.list) (Old c.args.name c.args.level c.args.material c.loop-patch.patch) _ c.owned_count-numbers.result
          c.of_slot.result (c.read_patches-read.ensures c.loop-patch.patch inside)
          (c.owned_count-numbers.ensures.count ∙ ap (λ (d : Centring). owned_count c.args.p.now d c.args.level c.loop-patch.patch) c.centring_of-c.ensures) c.of_slot.ensures)
          c.both-tally.ensures.slots c.both-tally.ensures.numbers;
      few = at_most_more 1 c.loop-patch.patch c.loop-patch.tally c.of_slot.result c.both-tally.result c.loop-patch.invariant.few
          (at_most_one _ c.owned_count-numbers.result c.of_slot.result c.owned_count-numbers.ensures.few c.of_slot.ensures)
          c.both-tally.ensures.slots c.both-tally.ensures.numbers;
    }

pub returns-clause-tally : goal.returns-clause-tally
returns-clause-tally c =
    let end : c.loop-patch.patch ≡ option_map_or (λ l. length l.patches) (slice_get c.args.p.now.levels c.args.level) 0 =
    omega (arith, c.loop-patch-test.false, c.patch_count-patch-end.ensures.count, c.patch_count-patch-end.ensures.few, length-patches_of c.args.p.now c.args.level) in
    subst (λ (ss : List Slot). IsTally c.args.p.now (task_list c.args.p.now c.args.list) ss c.loop-patch.tally)
    (flat_map_single (Old c.args.name c.args.level c.args.material) (counted 0 c.loop-patch.patch)
    ∙ ap (λ (n : ℕ). map (Old c.args.name c.args.level c.args.material) (counted 0 n)) end)
    c.loop-patch.invariant.tally

pub owned_count-numbers-requires-clause-patch : goal.owned_count-numbers-requires-clause-patch
owned_count-numbers-requires-clause-patch c = λ l at.
    omega (arith, c.loop-patch-test.true, c.patch_count-patch-end.ensures.count, patches_at c.args.p.now c.args.level l at)
