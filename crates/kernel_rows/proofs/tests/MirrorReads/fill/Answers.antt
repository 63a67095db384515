use Rattle.std.proofs.Common.{◌∙◌, pos, map, ap, sym}
use Rattle.std.proofs.lemmas.Simd.{map-map}
use Rattle.kernel_ast.specs.Arithmetic.{difference_of}
use Rattle.uts_geom.specs.Spans.{index, from_to}
use Rattle.uts_geom.specs.declared.index.Index.{Index}
use Rattle.kernel_rows.proofs.tests.MirrorReads.fill.Goals as goal

pub returns : goal.returns
returns c =
    let row = c.args.row in
    c.negate_all.ensures
    ∙ ap (map (difference_of (pos 0))) c.fill_ascending.ensures
    ∙ sym (map-map (λ (i : Index). difference_of (pos 0) i.x) (λ x. index x row.y row.z) (from_to row.low row.high))
