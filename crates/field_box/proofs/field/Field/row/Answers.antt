use Rattle.std.proofs.Common.{◌≡◌, ◌∙◌, ℕ, map, ap, rules, w64, FitsSigned}
use Rattle.std.proofs.lemmas.Int.{to_z-of_z}
use Rattle.uts_geom.specs.declared.index.Index.{Index}
use Rattle.uts_geom.specs.declared.span.Span.{Span}
use Rattle.uts_geom.specs.Spans.{index, width_of}
use Rattle.field_box.specs.Fields.{along, number_at}
use Rattle.field_box.proofs.PartRows.{row_held, along_is_row}
use Rattle.field_box.proofs.field.Field.row.Goals as goal
use Rattle.field_box.proofs.field.Field.row.Goals.{After-width}

start : (c : After-width) → c.row_start.result ≡ index c.args.self.now.span.lo.x c.args.y c.args.z
start c =
    let fits_x : FitsSigned w64 c.span-span.result.lo.x = search rules in
    let fits_y : FitsSigned w64 c.args.y = c.ranges.y in
    let fits_z : FitsSigned w64 c.args.z = c.ranges.z in
    (simp to_z-of_z at c.row_start.ensures) ∙ ap (λ (s : Span). index s.lo.x c.args.y c.args.z) c.span-span.ensures.span

wide : (c : After-width) → c.width.result ≡ width_of c.args.self.now.span
wide c = c.width.ensures ∙ ap width_of c.span-span.ensures.span

pub stretch-requires : goal.stretch-requires
stretch-requires c = rw (start c, wide c) (row_held c.args.self.now.span c.args.y c.args.z c.requires)

pub returns : goal.returns
returns c =
    let s = c.args.self.now.span in
    let before = (goal.at.returns c).After-width in
    c.stretch.ensures
    ∙ ap (λ (first : Index). map (number_at c.args.self.now) (along first c.width.result)) (start before)
    ∙ ap (λ (n : ℕ). map (number_at c.args.self.now) (along (index s.lo.x c.args.y c.args.z) n)) (wide before)
    ∙ ap (map (number_at c.args.self.now)) (along_is_row s c.args.y c.args.z)
