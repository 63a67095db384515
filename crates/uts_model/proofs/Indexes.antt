-- The indexes of a span by place: x goes fastest, then y, then z.
use Rattle.std.proofs.Common.{◌≡◌, ◌∙◌, ap, arith, ℕ, ℤ, pos, ◌+◌, ◌*◌, ◌/◌, ◌%◌, ◌<◌, ◌≤◌, ◌+ℤ◌, ◌<ℤ◌, length, Some, true}
use Rattle.std.specs.Prelude.{slice_get}
use Rattle.std.specs.Int.{int_gap}
use Rattle.std.proofs.Math.Nat.{mul-le-mul_left}
use Rattle.std.proofs.lemmas.Bool.{and_from}
use Rattle.std.proofs.lemmas.Int.{ints}
use Rattle.uts_geom.specs.Spans.{index, is_inside, indexes_of, width_of, height_of, depth_of, IsNearNumber, IsNearSpan}
use Rattle.uts_geom.specs.Pieces.{row_below, split_below}
use Rattle.uts_geom.specs.Places.{between_above, get-indexes, length-indexes}
use Rattle.uts_geom.specs.declared.span.Span.{Span}

-- where the index at a place of a span stands
pub record IsPlaced (s : Span) (k : ℕ) : Type 0 where
  pub some_width : 0 < width_of s
  pub some_height : 0 < height_of s
  pub below_depth : k / width_of s / height_of s < depth_of s
  pub at : slice_get (indexes_of s) k
      ≡ Some (index (s.lo.x +ℤ pos (k % width_of s)) (s.lo.y +ℤ pos (k / width_of s % height_of s)) (s.lo.z +ℤ pos (k / width_of s / height_of s)))
  pub inside : is_inside s (index (s.lo.x +ℤ pos (k % width_of s)) (s.lo.y +ℤ pos (k / width_of s % height_of s)) (s.lo.z +ℤ pos (k / width_of s / height_of s))) ≡ true

pub placed : (s : Span) (k : ℕ) → k < length (indexes_of s) → IsPlaced s k
placed s k below =
    let w = width_of s in
    let h = height_of s in
    let inside : k < w * (h * depth_of s) = omega (arith, below, length-indexes s) in
    let in_row = split_below k w (h * depth_of s) inside in
    let in_plane = split_below (k / w) h (depth_of s) in_row.1 in
    let place : k ≡ k % w + w * (k / w % h + h * (k / w / h)) = in_row.2 ∙ ap (λ n. k % w + w * n) in_plane.2 in
    record {
      some_width = row_below k w (h * depth_of s) inside;
      some_height = row_below (k / w) h (depth_of s) in_row.1;
      below_depth = in_plane.1;
      at = ap (slice_get (indexes_of s)) place ∙ get-indexes s (k % w) (k / w % h) (k / w / h) in_row.0 in_plane.0 in_plane.1;
      inside = and_from _ _ (between_above s.lo.x s.hi.x (k % w) in_row.0)
          (and_from _ _ (between_above s.lo.y s.hi.y (k / w % h) in_plane.0) (between_above s.lo.z s.hi.z (k / w / h) in_plane.1));
    }

pub gap_some : (low high : ℤ) → 0 < int_gap low high → low <ℤ high
gap_some low high some = first_of (grind (arith, ints), omega (arith, ints))

pub gap_near : (low high : ℤ) → IsNearNumber low → IsNearNumber high → int_gap low high ≤ 131072
gap_near low high a b = first_of (grind (arith, ints), omega (arith, ints))

pub few_indexes : (s : Span) → IsNearSpan s → length (indexes_of s) ≤ 131072 * 131072 * 131072
few_indexes s near =
    let w = width_of s in
    let h = height_of s in
    let narrow : w ≤ 131072 = gap_near s.lo.x s.hi.x near.lo.x near.hi.x in
    let flat : w * h ≤ w * 131072 = mul-le-mul_left w (gap_near s.lo.y s.hi.y near.lo.y near.hi.y) in
    let deep : w * h * depth_of s ≤ w * h * 131072 = mul-le-mul_left (w * h) (gap_near s.lo.z s.hi.z near.lo.z near.hi.z) in
    omega (arith, length-indexes s, narrow, flat, deep)
