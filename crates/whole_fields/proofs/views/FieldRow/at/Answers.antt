use Rattle.std.proofs.Common.{◌≡◌, ◌∙◌, ℕ, ap, sym, rules, arith, true, false, w64, FitsSigned}
use Rattle.std.specs.Prelude.{int_lt, slice_index_or}
use Rattle.std.specs.Int.{int_gap}
use Rattle.std.proofs.lemmas.Bool.{ltb-true, ltb-false}
use Rattle.std.proofs.lemmas.Int.{to_z-of_z}
use Rattle.std.proofs.lemmas.List.{get_or_read}
use Rattle.whole_fields.proofs.Seen.{along_before, along_behind, along_from, far_above}
use Rattle.whole_fields.proofs.views.FieldRow.at.Goals as goal

pub returns-then-x-self : goal.returns-then-x-self
returns-then-x-self c =
    let row = c.args.self.now in
    let fits_low : FitsSigned w64 row.low = search rules in
    let fits_outside : FitsSigned w64 row.outside = search rules in
    let fits_x : FitsSigned w64 c.args.x = c.ranges.x in
    to_z-of_z w64 row.outside fits_outside ∙ sym (along_before row.low row.numbers.now row.outside c.args.x (simp to_z-of_z at c.if-x-self.true))

pub returns-in-Some : goal.returns-in-Some
returns-in-Some c =
    let row = c.args.self.now in
    let fits_low : FitsSigned w64 row.low = search rules in
    let fits_x : FitsSigned w64 c.args.x = c.ranges.x in
    let fits_number : FitsSigned w64 c.in-Some.number.now = search rules in
    let after : int_lt c.args.x row.low ≡ false = simp to_z-of_z at c.if-x-self.false in
    let far : c.abs_diff.result ≡ int_gap row.low c.args.x = (simp to_z-of_z at c.abs_diff.ensures) ∙ far_above row.low c.args.x after in
    let there = c.in-Some.ensures.lookup in
    to_z-of_z w64 c.in-Some.number.now fits_number
    ∙ get_or_read row.numbers.now c.abs_diff.result c.in-Some.number.now (ltb-true _ _ (sym there.0)) there.1 row.outside
    ∙ ap (λ (k : ℕ). slice_index_or row.numbers.now k row.outside) far
    ∙ sym (along_from row.low row.numbers.now row.outside c.args.x after)

pub returns-in-None : goal.returns-in-None
returns-in-None c =
    let row = c.args.self.now in
    let fits_low : FitsSigned w64 row.low = search rules in
    let fits_outside : FitsSigned w64 row.outside = search rules in
    let fits_x : FitsSigned w64 c.args.x = c.ranges.x in
    let after : int_lt c.args.x row.low ≡ false = simp to_z-of_z at c.if-x-self.false in
    let far : c.abs_diff.result ≡ int_gap row.low c.args.x = (simp to_z-of_z at c.abs_diff.ensures) ∙ far_above row.low c.args.x after in
    to_z-of_z w64 row.outside fits_outside
    ∙ sym (along_behind row.low row.numbers.now row.outside c.args.x after (omega (arith, far, ltb-false _ _ (sym c.in-None.ensures.lookup.0))))
