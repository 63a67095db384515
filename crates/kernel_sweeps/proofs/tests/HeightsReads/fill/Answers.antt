use Rattle.std.proofs.Common.{◌≡◌, ◌∙◌, length, replicate, sym, rules, FitsSigned, w64}
use Rattle.std.proofs.lemmas.Simd.{map-map, splat_is_map}
use Rattle.uts_geom.specs.Spans.{index, from_to}
use Rattle.uts_geom.specs.declared.index.Index.{Index}
use Rattle.uts_geom.specs.Places.{length-from_to}
use Rattle.kernel_sweeps.proofs.tests.HeightsReads.fill.Goals as goal

pub returns : goal.returns
returns c =
    let row = c.args.row in
    let along = from_to row.low row.high in
    let fits : FitsSigned w64 row.y = search rules in
    let written : c.fill.new.self ≡ replicate (length c.args.out.now) row.y = search rules in
    written
    ∙ splat_is_map along (length c.args.out.now) row.y (length-from_to row.low row.high ∙ sym c.requires)
    ∙ sym (map-map (λ (i : Index). i.y) (λ x. index x row.y row.z) along)
