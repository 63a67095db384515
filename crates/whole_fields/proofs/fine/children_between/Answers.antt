use Rattle.std.proofs.Common.{◌≡◌, ◌∙◌, ◌≤◌, ◌+ℤ◌, ℤ, pos, min, ap, sym, rules, arith, w64, FitsSigned}
use Rattle.std.specs.Int.{int_min, int_max, int_gap, saturate_signed}
use Rattle.std.proofs.lemmas.Int.{to_z-of_z}
use Rattle.uts_geom.specs.Spans.{IsNearNumber}
use Rattle.whole_fields.specs.Children.{width_along}
use Rattle.whole_fields.proofs.Bounded.{begin_near, begin_of, children_within}
use Rattle.whole_fields.proofs.fine.children_between.Goals as goal
use Rattle.whole_fields.proofs.fine.children_between.Goals.{After-gap}

first_is : (c : After-gap) → c.min-first.result ≡ begin_of c.args.low c.args.high c.finer-begin.result
first_is c =
    let fits_low : FitsSigned w64 c.args.low = c.ranges.low in
    let fits_high : FitsSigned w64 c.args.high = c.ranges.high in
    let fits_begin : FitsSigned w64 c.finer-begin.result = search rules in
    let fits_max : FitsSigned w64 c.max.result = search rules in
    (simp to_z-of_z at c.min-first.ensures.value) ∙ ap (λ (m : ℤ). int_min m c.args.high) (simp to_z-of_z at c.max.ensures.value)

pub invariant_of-result : goal.invariant_of-result
invariant_of-result c =
    let fits_first : FitsSigned w64 c.min-first.result = search rules in
    let few : c.gap.result ≤ 4 = omega (arith, c.gap.ensures) in
    record {
      near = rw (to_z-of_z w64 c.min-first.result fits_first, first_is c) (begin_near c.args.low c.args.high c.finer-begin.result c.requires.low_near c.requires.high_near);
      few = few;
    }

pub returns : goal.returns
returns c =
    let fits_n : FitsSigned w64 c.args.n = c.ranges.n in
    let fits_high : FitsSigned w64 c.args.high = c.ranges.high in
    let fits_begin : FitsSigned w64 c.finer-begin.result = search rules in
    let fits_width : FitsSigned w64 c.width_along.result = search rules in
    let fits_end : FitsSigned w64 c.saturating_add-end.result = search rules in
    let fits_first : FitsSigned w64 c.min-first.result = search rules in
    let fits_last : FitsSigned w64 c.min.result = search rules in
    let at_end = (simp to_z-of_z at c.saturating_add-end.ensures)
    ∙ ap (λ (m : ℤ). saturate_signed w64 (c.finer-begin.result +ℤ m)) c.width_along.ensures in
    let counted = (simp to_z-of_z at c.gap.ensures) ∙ ap (λ (m : ℤ). min (int_gap c.min-first.result m) 4) (simp to_z-of_z at c.min.ensures.value) in
    rw (to_z-of_z w64 c.min-first.result fits_first)
    (children_within c.args.low c.args.high c.args.point c.args.ratio c.args.n c.finer-begin.result c.saturating_add-end.result c.min-first.result c.gap.result
    c.requires.ratio c.requires.low_near c.requires.high_near (simp to_z-of_z at c.finer-begin.ensures) at_end (first_is ((goal.at.returns c).After-gap)) counted)
