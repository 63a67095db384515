use Rattle.std.proofs.Common.{◌≡◌, ◌∙◌, pos, length, ap, subst, rules, w64, FitsSigned}
use Rattle.std.specs.Prelude.{slice_index_or, if◌then◌else◌}
use Rattle.std.specs.Int.{int_gap}
use Rattle.std.proofs.lemmas.Int.{to_z-of_z}
use Rattle.uts_geom.specs.declared.index.Index.{Index}
use Rattle.uts_geom.specs.declared.span.Span.{Span}
use Rattle.uts_geom.specs.Spans.{index}
use Rattle.field_box.specs.Fields.{IsField, is_along, number_at}
use Rattle.field_box.proofs.PartRows.{row_held, row_set}
use Rattle.field_box.proofs.field.Field.set_row.Goals as goal
use Rattle.field_box.proofs.field.Field.set_row.Goals.{After-row_start}

start : (c : After-row_start) → c.row_start.result ≡ index c.args.self.now.span.lo.x c.args.y c.args.z
start c =
    let fits_x : FitsSigned w64 c.span-span.result.lo.x = search rules in
    let fits_y : FitsSigned w64 c.args.y = c.ranges.y in
    let fits_z : FitsSigned w64 c.args.z = c.ranges.z in
    (simp to_z-of_z at c.row_start.ensures) ∙ ap (λ (s : Span). index s.lo.x c.args.y c.args.z) c.span-span.ensures.span

pub set_stretch-requires : goal.set_stretch-requires
set_stretch-requires c = rw (start c, c.requires.whole) (row_held c.args.self.now.span c.args.y c.args.z c.requires.row)

pub returns : goal.returns
returns c =
    let old = c.args.self.now in
    let numbers = c.args.numbers.now in
    let fits_y : FitsSigned w64 c.args.y = c.ranges.y in
    let fits_z : FitsSigned w64 c.args.z = c.ranges.z in
    row_set old.span c.args.y c.args.z old c.set_stretch.new.self numbers c.requires.row c.requires.whole
    (subst (λ (first : Index). IsField old.span (λ (i : Index). if is_along first (length numbers) i then slice_index_or numbers (int_gap first.x i.x) (pos 0) else number_at old i)
    c.set_stretch.new.self) (start (goal.at.returns c).After-row_start) c.set_stretch.ensures)
