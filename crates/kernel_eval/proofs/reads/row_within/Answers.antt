use Rattle.std.proofs.Common.{◌≡◌, ◌<◌, ◌≤◌, rules, ℕ, ℤ, pos, ◌+ℤ◌, ◌-ℤ◌, true, arith, w64, FitsSigned, nat_abs}
use Rattle.std.specs.Prelude.{◌&&◌}
use Rattle.std.proofs.lemmas.Bool.{and_from, and_parts}
use Rattle.std.proofs.lemmas.Int.{ints, to_z-of_z}
use Rattle.uts_geom.specs.Spans.{is_between, is_inside}
use Rattle.uts_geom.specs.declared.index.Index.{Index}
use Rattle.uts_geom.specs.declared.span.Span.{Span}
use Rattle.field_box.specs.Fields.{HoldsAlong}
use Rattle.kernel_eval.proofs.reads.row_within.Goals as goal

between_further : (low high n : ℤ) (count k : ℕ) → is_between low high n ≡ true → count ≤ nat_abs (n -ℤ high) → k < count → is_between low high (n +ℤ pos k) ≡ true
between_further low high n count k here room below = grind (arith, ints)

holds_row : (s : Span) (first : Index) (count : ℕ) → is_inside s first ≡ true → count ≤ nat_abs (first.x -ℤ s.hi.x) → HoldsAlong s first count
holds_row s first count inside room = record {
  each = λ k below.
      let on_x = and_parts (is_between s.lo.x s.hi.x first.x) (is_between s.lo.y s.hi.y first.y && is_between s.lo.z s.hi.z first.z) inside in
      and_from (is_between s.lo.x s.hi.x (first.x +ℤ pos k)) (is_between s.lo.y s.hi.y first.y && is_between s.lo.z s.hi.z first.z)
      (between_further s.lo.x s.hi.x first.x count k on_x.0 room below) on_x.1;
}

pub returns-then-count-abs_diff-clause-held : goal.returns-then-count-abs_diff-clause-held
returns-then-count-abs_diff-clause-held c =
    let fits_first : FitsSigned w64 c.in_ok-first.first.x = search rules in
    let fits_high : FitsSigned w64 c.args.s.hi.x = search rules in
    let distance = simp to_z-of_z at c.abs_diff.ensures in
    holds_row c.args.s c.in_ok-first.first c.args.count c.in_ok-first.ensures.held (omega (arith, c.if-count-abs_diff.true, distance))
