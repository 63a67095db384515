use Rattle.std.proofs.Common.{◌≡◌, ◌∙◌, ◌<◌, ◌++◌, ◌∷◌, [], ℕ, List, length, ap, sym, subst, arith}
use Rattle.std.specs.Prelude.{All}
use Rattle.std.specs.List.{flat_map}
use Rattle.uts_geom.specs.Counting.{length-counted}
use Rattle.task_check.specs.Plan.{OnPatch, patches_of}
use Rattle.graph_types.specs.Graph.{has}
use Rattle.graph_compiler.specs.Reading.{places_read}
use Rattle.graph_compiler.specs.Sources.{slots_from}
use Rattle.graph_compiler.specs.declared.sources.Source.{Source}
use Rattle.graph_compiler.proofs.Growing.{put_place}
use Rattle.graph_compiler.proofs.ReadingSlots.{few_slots_of, given_are, given_few}
use Rattle.graph_compiler.proofs.reads.put_patches.Goals as goal

pub put_sources-requires : goal.put_sources-requires
put_sources-requires c =
    let s = c.args.s.now in
    let made = c.sources.new.searches.made in
    let patch = c.loop-patch.patch in
    let below : patch < length (patches_of s.problem.now c.args.level) =
    omega (arith, c.loop-patch-test.true, ap length c.patch_count-patch-end.ensures.patches ∙ length-counted 0 c.patch_count-patch-end.result) in
    let few = given_few s.problem.now s.tasks.now c.args.task c.args.t.now c.requires.task c.args.level c.args.material made s.old.now.variables.items c.in_ok-sources.sources c.in_ok-sources.ensures.sources
    patch below (few_slots_of s.problem.now s.tasks.now c.requires.from.accepted c.requires.from.list) in
    subst (λ (places : List ℕ). All (λ source. All (λ slot. slot < 262144) (slots_from made places patch source)) c.as_slice.result.now) (sym c.as_slice-places.ensures.value)
    (subst (λ (sources : List Source). All (λ source. All (λ slot. slot < 262144) (slots_from made s.old.now.variables.items patch source)) sources) (sym c.as_slice.ensures) few)

pub loop-patch-preserved : goal.loop-patch-preserved
loop-patch-preserved c =
    let s = c.args.s.now in
    let p = s.problem.now in
    let tasks = s.tasks.now in
    let made = c.sources.new.searches.made in
    let patch = c.loop-patch.patch in
    let below : patch < length (patches_of p c.args.level) =
    omega (arith, c.loop-patch-test.true, ap length c.patch_count-patch-end.ensures.patches ∙ length-counted 0 c.patch_count-patch-end.result) in
    let slots : c.in_ok-slots.slots.items ≡ flat_map (slots_from made s.old.now.variables.items patch) c.in_ok-sources.sources =
    c.in_ok-slots.ensures
    ∙ ap (λ (places : List ℕ). flat_map (slots_from made places patch) c.as_slice.result.now) c.as_slice-places.ensures.value
    ∙ ap (λ (sources : List Source). flat_map (slots_from made s.old.now.variables.items patch) sources) c.as_slice.ensures in
    let reads : c.ascending.result.items ≡ places_read p tasks (OnPatch c.args.task c.args.level c.args.material patch) =
    given_are p tasks c.args.task c.args.t.now c.requires.task c.args.level c.args.material made s.old.now.variables.items c.in_ok-sources.sources c.in_ok-sources.ensures.sources patch below
    c.ascending.result.items c.ascending.ensures.ascending (λ n. c.ascending.ensures.same n ∙ ap (λ (xs : List ℕ). has xs n) slots) in
    put_place (places_read p tasks) (OnPatch c.args.task c.args.level c.args.material) c.args.all.now c.loop-patch.all c.push.new.self patch c.loop-patch.invariant
    (c.in_ok-push.ensures.ok ∙ ap (λ (xs : List ℕ). c.loop-patch.all ++ xs ∷ []) (c.from_vec.ensures ∙ reads))
