-- What the walk over rows needs, and what lies near.
use Rattle.std.proofs.Common.{◌≡◌, ◌∙◌, ◌<◌, ◌≤◌, ◌+◌, ◌*◌, ◌/◌, ◌%◌, ℕ, ℤ, pos, ◌+ℤ◌, List, ◌∷◌, length, drop, ap, refl, arith, Some, Bool, true, false, ◌⊎◌, inl, inr}
use Rattle.std.specs.Prelude.{◌&&◌, slice_get, int_lt}
use Rattle.std.specs.Int.{int_gap}
use Rattle.std.proofs.lemmas.Int.{ints}
use Rattle.std.proofs.lemmas.Bool.{and_parts}
use Rattle.std.proofs.lemmas.List.{drop_more}
use Rattle.std.proofs.lemmas.Option.{get_or_from_slice_get, slice_get_within}
use Rattle.uts_geom.specs.declared.index.Index.{Index}
use Rattle.uts_geom.specs.declared.span.Span.{Span}
use Rattle.uts_geom.specs.Spans.{is_between, is_inside, rows_of, height_of, depth_of, IsNearNumber, IsNear, IsNearSpan}
use Rattle.uts_geom.specs.Pieces.{split_below}
use Rattle.uts_geom.specs.Places.{length-rows, length-no_rows, get-all_rows}

pub gap_near : (low high : ℤ) → IsNearNumber low → IsNearNumber high → int_gap low high ≤ 131072
gap_near low high a b = first_of (grind (arith, ints), omega (arith, ints))

between_near : (low high n : ℤ) → is_between low high n ≡ true → IsNearNumber low → IsNearNumber high → IsNearNumber n
between_near low high n between a b = (grind (arith, ints), grind (arith, ints))

-- what lies in a near span is near
pub inside_near : (s : Span) (i : Index) → is_inside s i ≡ true → IsNearSpan s → IsNear i
inside_near s i inside near =
    let on_x = and_parts (is_between s.lo.x s.hi.x i.x) (is_between s.lo.y s.hi.y i.y && is_between s.lo.z s.hi.z i.z) inside in
    let on_y = and_parts (is_between s.lo.y s.hi.y i.y) (is_between s.lo.z s.hi.z i.z) on_x.1 in
    record {
      x = between_near s.lo.x s.hi.x i.x on_x.0 near.lo.x near.hi.x;
      y = between_near s.lo.y s.hi.y i.y on_y.0 near.lo.y near.hi.y;
      z = between_near s.lo.z s.hi.z i.z on_y.1 near.lo.z near.hi.z;
    }

either : (b : Bool) → (b ≡ true) ⊎ (b ≡ false)
either true = inl refl
either false = inr refl

some_width : (s : Span) (k : ℕ) → k < length (rows_of s) → int_lt s.lo.x s.hi.x ≡ true
some_width s k below = elim (either (int_lt s.lo.x s.hi.x)) [ inl some ↦ some | inr none ↦ absurd (omega (arith, length-no_rows s none)) ]

-- the row with a number
pub record IsRow (s : Span) (k : ℕ) : Type 0 where
  pub below_height : k % height_of s < height_of s
  pub below_depth : k / height_of s < depth_of s
  pub at : slice_get (rows_of s) k ≡ Some (s.lo.y +ℤ pos (k % height_of s), s.lo.z +ℤ pos (k / height_of s))

pub row_with : (s : Span) (k : ℕ) → k < length (rows_of s) → IsRow s k
row_with s k below =
    let some = some_width s k below in
    let all : k < height_of s * depth_of s = omega (arith, length-rows s some) in
    let split = split_below k (height_of s) (depth_of s) all in
    record {
      below_height = split.0;
      below_depth = split.1;
      at = rw some (ap (slice_get _) split.2 ∙ get-all_rows s (k % height_of s) (k / height_of s) split.0 split.1);
    }

-- the rest of a list, one on
pub rest_more : {A : Type 0} (xs : List A) (k : ℕ) (x : A) → slice_get xs k ≡ Some x → drop k xs ≡ x ∷ drop (k + 1) xs
rest_more xs k x at =
    drop_more xs k x (slice_get_within xs k x at) ∙ ap (λ y. y ∷ drop (k + 1) xs) (get_or_from_slice_get xs k x x at)
