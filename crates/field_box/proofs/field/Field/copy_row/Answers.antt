use Rattle.std.proofs.Common.{◌≡◌, ◌∙◌, ℕ, pos, length, map, ap, sym, subst, rules, w64, FitsSigned}
use Rattle.std.specs.Prelude.{slice_index_or, if◌then◌else◌}
use Rattle.std.specs.Int.{int_gap}
use Rattle.std.proofs.lemmas.Bool.{and_parts}
use Rattle.std.proofs.lemmas.Int.{to_z-of_z}
use Rattle.uts_geom.specs.declared.index.Index.{Index}
use Rattle.uts_geom.specs.Spans.{index, is_inside, width_of}
use Rattle.field_box.specs.Fields.{HoldsAlong, IsField, along, is_along, number_at}
use Rattle.field_box.proofs.PartRows.{row_held, held_in, length-along, row_copied}
use Rattle.field_box.proofs.field.Field.copy_row.Goals as goal
use Rattle.field_box.proofs.field.Field.copy_row.Goals.{After-width}

start : (c : After-width) → c.row_start-first.result ≡ index c.args.part.lo.x c.args.row.0 c.args.row.1
start c =
    let fits_x : FitsSigned w64 c.args.part.lo.x = search rules in
    let fits_y : FitsSigned w64 c.args.row.0 = search rules in
    let fits_z : FitsSigned w64 c.args.row.1 = search rules in
    simp to_z-of_z at c.row_start-first.ensures

held_by_part : (c : After-width) → HoldsAlong c.args.part c.row_start-first.result c.width.result
held_by_part c = rw (start c, c.width.ensures) (row_held c.args.part c.args.row.0 c.args.row.1 c.requires.row)

pub stretch-requires : goal.stretch-requires
stretch-requires c =
    held_in c.args.part c.args.from.now.span c.row_start-first.result c.width.result (held_by_part c)
    (λ i inside. (and_parts (is_inside c.args.self.now.span i) (is_inside c.args.from.now.span i) (c.requires.held i inside)).1)

pub set_stretch-requires : goal.set_stretch-requires
set_stretch-requires c =
    let before = (goal.at.set_stretch-requires c).After-width in
    let long : length c.stretch.result.now ≡ c.width.result = ap length c.stretch.ensures ∙ length-along (number_at c.args.from.now) c.row_start-first.result c.width.result in
    subst (λ (n : ℕ). HoldsAlong c.args.self.now.span c.row_start-first.result n) (sym long)
    (held_in c.args.part c.args.self.now.span c.row_start-first.result c.width.result (held_by_part before)
    (λ i inside. (and_parts (is_inside c.args.self.now.span i) (is_inside c.args.from.now.span i) (c.requires.held i inside)).0))

pub returns : goal.returns
returns c =
    let before = (goal.at.returns c).After-width in
    let old = c.args.self.now in
    let from = c.args.from.now in
    let part = c.args.part in
    let at = c.args.row in
    let numbers = c.stretch.result.now in
    let read : numbers ≡ map (number_at from) (along (index part.lo.x at.0 at.1) (width_of part)) =
    c.stretch.ensures
    ∙ ap (λ (first : Index). map (number_at from) (along first c.width.result)) (start before)
    ∙ ap (λ (n : ℕ). map (number_at from) (along (index part.lo.x at.0 at.1) n)) c.width.ensures in
    row_copied part old.span at.0 at.1 from old c.set_stretch.new.self numbers c.requires.row read
    (subst (λ (first : Index). IsField old.span (λ (i : Index). if is_along first (length numbers) i then slice_index_or numbers (int_gap first.x i.x) (pos 0) else number_at old i)
    c.set_stretch.new.self) (start before) c.set_stretch.ensures)
