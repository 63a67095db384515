-- Fields whose rows are given a function's numbers, row by row.
use Rattle.std.proofs.Common.{◌≡◌, ◌∙◌, ℕ, ℤ, pos, ◌+ℤ◌, List, [], ◌∷◌, ◌++◌, map, true, refl, ap, sym, inl, inr, arith}
use Rattle.std.specs.Prelude.{◌&&◌, IsTrue, Contains, slice_index_or, if◌then◌else◌}
use Rattle.std.specs.Int.{int_gap}
use Rattle.std.specs.Ordering.{int_eq}
use Rattle.std.proofs.lemmas.Bool.{cases_Bool, and_parts}
use Rattle.std.proofs.lemmas.Bool.Decides.{Decides-int_eq}
use Rattle.std.proofs.lemmas.Simd.{map-map}
use Rattle.uts_geom.specs.declared.index.Index.{Index}
use Rattle.uts_geom.specs.declared.span.Span.{Span}
use Rattle.uts_geom.specs.Spans.{index, counted, from_to, is_between, is_inside, row_indexes, rows_of, width_of}
use Rattle.uts_geom.specs.ByPlace.{get-by_place}
use Rattle.field_box.specs.Fields.{NumberedSpan, IsField, number_at}
use Rattle.field_box.specs.WalkedRows.{is_in_row, gap_below, gap_reaches, rows_hold, walked_before}

-- the numbers of a row, at one of its indexes
read_in_row : (number : Index → ℤ) (s : Span) (y z : ℤ) (i : Index) → is_inside s i ≡ true → is_in_row y z i ≡ true →
    slice_index_or (map number (row_indexes s y z)) (int_gap s.lo.x i.x) (pos 0) ≡ number i
read_in_row number s y z i inside same =
    let on_x = (and_parts (is_between s.lo.x s.hi.x i.x) (is_between s.lo.y s.hi.y i.y && is_between s.lo.z s.hi.z i.z) inside).0 in
    let at = and_parts (int_eq i.y y) (int_eq i.z z) same in
    let gap = int_gap s.lo.x i.x in
    let w = width_of s in
    ap (λ (l : List ℤ). slice_index_or l gap (pos 0))
    (map-map number (λ (x : ℤ). index x y z) (from_to s.lo.x s.hi.x)
    ∙ map-map (λ (x : ℤ). number (index x y z)) (λ (k : ℕ). s.lo.x +ℤ pos k) (counted 0 w))
    ∙ get-by_place (λ (k : ℕ). number (index (s.lo.x +ℤ pos k) y z)) w gap (pos 0) (gap_below s.lo.x s.hi.x i.x on_x)
    ∙ ap (λ (x : ℤ). number (index x y z)) (gap_reaches s.lo.x s.hi.x i.x on_x)
    ∙ ap (λ (n : ℤ). number (index i.x n z)) (sym ((Decides-int_eq i.y y).0 at.0))
    ∙ ap (λ (n : ℤ). number (index i.x i.y n)) (sym ((Decides-int_eq i.z z).0 at.1))

-- a row that was written has the function's numbers
pub row_given : (number : Index → ℤ) (s : Span) (y z : ℤ) (old new : NumberedSpan) (numbers : List ℤ) → numbers ≡ map number (row_indexes s y z) →
    IsField s (λ i. if is_in_row y z i then slice_index_or numbers (int_gap s.lo.x i.x) (pos 0) else number_at old i) new →
    IsField s (λ i. if is_in_row y z i then number i else number_at old i) new
row_given number s y z old new numbers are is = record {
  span = is.span;
  numbers = λ i inside.
      is.numbers i inside
      ∙ elim (cases_Bool (is_in_row y z i)) [
        | inl same ↦ rw (same, are) (read_in_row number s y z i inside same)
        | inr other ↦ rw other refl
      ];
}

-- the field on a span has the function's numbers on some of its rows
pub record IsFilled (number : Index → ℤ) (s : Span) (rows : List (ℤ × ℤ)) (f : NumberedSpan) : Type 0 where
  pub span : f.span ≡ s
  pub filled : (i : Index) → IsTrue (is_inside s i) → Contains rows (i.y, i.z) → number_at f i ≡ number i

module _ (number : Index → ℤ) (s : Span) where
  pub none_filled : (f : NumberedSpan) → f.span ≡ s → IsFilled number s [] f
  none_filled f is = record { span = is; filled = λ i inside there. absurd (omega (arith, there.1)) }

  pub next_filled : (rows : List (ℤ × ℤ)) (at : ℤ × ℤ) (mid new : NumberedSpan) → IsFilled number s rows mid →
      IsField s (λ i. if is_in_row at.0 at.1 i then number i else number_at mid i) new → IsFilled number s (rows ++ at ∷ []) new
  next_filled rows at mid new before is = record {
    span = is.span;
    filled = λ i inside there.
        is.numbers i inside
        ∙ elim (cases_Bool (is_in_row at.0 at.1 i)) [
          | inl same ↦ rw same refl
          | inr other ↦ rw other (before.filled i inside (walked_before rows at i there other))
        ];
  }

  pub all_filled : (f : NumberedSpan) → IsFilled number s (rows_of s) f → IsField s number f
  all_filled f is = record { span = is.span; numbers = λ i inside. is.filled i inside (rows_hold s i inside) }
