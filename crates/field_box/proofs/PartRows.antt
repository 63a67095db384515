-- Rows of spans, and parts of spans.
use Rattle.std.proofs.Common.{◌≡◌, ◌∙◌, ℕ, ℤ, pos, ◌+ℤ◌, List, [], ◌∷◌, ◌++◌, length, map, Bool, true, false, refl, ap, sym, subst, inl, inr, arith}
use Rattle.std.specs.Prelude.{◌&&◌, IsTrue, Contains, slice_index_or, if◌then◌else◌}
use Rattle.std.specs.Int.{int_gap}
use Rattle.std.specs.Ordering.{int_eq}
use Rattle.std.proofs.lemmas.Bool.{cases_Bool, and_parts, and_from}
use Rattle.std.proofs.lemmas.Int.{ints}
use Rattle.std.proofs.lemmas.Bool.Decides.{Decides-int_eq}
use Rattle.std.proofs.lemmas.List.{length-map}
use Rattle.std.proofs.lemmas.Simd.{map-map}
use Rattle.uts_geom.specs.Counting.{length-counted}
use Rattle.field_box.specs.WalkedRows.{above_low, is_in_row, rows_hold, walked_before}
use Rattle.uts_geom.specs.declared.index.Index.{Index}
use Rattle.uts_geom.specs.declared.span.Span.{Span}
use Rattle.uts_geom.specs.Spans.{index, counted, row_indexes, is_between, is_inside, rows_of, width_of}
use Rattle.uts_geom.specs.ByPlace.{get-by_place}
use Rattle.field_box.specs.Fields.{NumberedSpan, HoldsAlong, IsField, IsRow, along, is_along, number_at}
use Rattle.field_box.proofs.Stretches.{lies_along}

module _ (s : Span) where
  -- a row holds its indexes, one for each of its width
  pub row_held : (y z : ℤ) → IsRow s (y, z) → HoldsAlong s (index s.lo.x y z) (width_of s)
  row_held y z row = record {
    each = λ k below.
        and_from _ _ (above_low s.lo.x s.hi.x k below)
        (and_parts (is_between s.lo.x s.hi.x s.lo.x) (is_between s.lo.y s.hi.y y && is_between s.lo.z s.hi.z z) row).1;
  }

  -- the indexes of a row are those from its first one on
  pub along_is_row : (y z : ℤ) → along (index s.lo.x y z) (width_of s) ≡ row_indexes s y z
  along_is_row y z = sym (map-map (λ (x : ℤ). index x y z) (λ (k : ℕ). s.lo.x +ℤ pos k) (counted 0 (width_of s)))

as_wide : (low high n : ℤ) → is_between low (low +ℤ pos (int_gap low high)) n ≡ is_between low high n
as_wide low high n =
    elim (cases_Bool (is_between low high n)) [
      | inl within ↦ inside_wide low high n within ∙ sym within
      | inr beyond ↦ outside_wide low high n beyond ∙ sym beyond
    ]
  where
    inside_wide : (low high n : ℤ) → is_between low high n ≡ true → is_between low (low +ℤ pos (int_gap low high)) n ≡ true
    inside_wide low high n within = grind (arith, ints)

    outside_wide : (low high n : ℤ) → is_between low high n ≡ false → is_between low (low +ℤ pos (int_gap low high)) n ≡ false
    outside_wide low high n beyond = grind (arith, ints)

and_false : (b : Bool) → (b && false) ≡ false
and_false true = refl
and_false false = refl

and_true : (b : Bool) → (b && true) ≡ b
and_true true = refl
and_true false = refl

-- an index is along the first one of a row where it lies in the span, and in the row
pub in_row_of : (s : Span) (y z : ℤ) → IsRow s (y, z) → (i : Index) → is_along (index s.lo.x y z) (width_of s) i ≡ (is_inside s i && is_in_row y z i)
in_row_of s y z row i =
    let here = and_parts (is_between s.lo.x s.hi.x s.lo.x) (is_between s.lo.y s.hi.y y && is_between s.lo.z s.hi.z z) row in
    elim (cases_Bool (is_in_row y z i)) [
      | inl same ↦
          let at = and_parts (int_eq i.y y) (int_eq i.z z) same in
          let across : (is_between s.lo.y s.hi.y i.y && is_between s.lo.z s.hi.z i.z) ≡ true =
          ap (λ (n : ℤ). is_between s.lo.y s.hi.y n && is_between s.lo.z s.hi.z i.z) ((Decides-int_eq i.y y).0 at.0)
          ∙ ap (λ (n : ℤ). is_between s.lo.y s.hi.y y && is_between s.lo.z s.hi.z n) ((Decides-int_eq i.z z).0 at.1) ∙ here.1 in
          ap (λ (t : Bool). is_between s.lo.x (s.lo.x +ℤ pos (width_of s)) i.x && t) same ∙ and_true (is_between s.lo.x (s.lo.x +ℤ pos (width_of s)) i.x)
          ∙ as_wide s.lo.x s.hi.x i.x
          ∙ sym (and_true (is_between s.lo.x s.hi.x i.x))
          ∙ ap (λ (t : Bool). is_between s.lo.x s.hi.x i.x && t) (sym across)
          ∙ sym (and_true (is_inside s i))
          ∙ ap (λ (t : Bool). is_inside s i && t) (sym same)
      | inr other ↦
          ap (λ (t : Bool). is_between s.lo.x (s.lo.x +ℤ pos (width_of s)) i.x && t) other ∙ and_false (is_between s.lo.x (s.lo.x +ℤ pos (width_of s)) i.x)
          ∙ sym (and_false (is_inside s i)) ∙ ap (λ (t : Bool). is_inside s i && t) (sym other)
    ]

-- numbers of indexes along another, at one of these
pub read_along : (number : Index → ℤ) (first : Index) (count : ℕ) (i : Index) → is_along first count i ≡ true →
    slice_index_or (map number (along first count)) (int_gap first.x i.x) (pos 0) ≡ number i
read_along number first count i on =
    let lies = lies_along first count i on in
    let f : ℕ → ℤ = λ k. number (index (first.x +ℤ pos k) first.y first.z) in
    ap (λ (l : List ℤ). slice_index_or l (int_gap first.x i.x) (pos 0)) (map-map number (λ (k : ℕ). index (first.x +ℤ pos k) first.y first.z) (counted 0 count))
    ∙ get-by_place f count (int_gap first.x i.x) (pos 0) lies.below
    ∙ ap number lies.is

pub length-along : (number : Index → ℤ) (first : Index) (count : ℕ) → length (map number (along first count)) ≡ count
length-along number first count =
    length-map (along first count) number ∙ length-map (counted 0 count) (λ k. index (first.x +ℤ pos k) first.y first.z) ∙ length-counted 0 count

-- a field whose numbers are said otherwise
pub said_alike : (s : Span) (f g : Index → ℤ) (new : NumberedSpan) → IsField s f new → ((i : Index) → IsTrue (is_inside s i) → f i ≡ g i) → IsField s g new
said_alike s f g new is same = record { span = is.span; numbers = λ i inside. is.numbers i inside ∙ same i inside }

-- a whole row that was written
pub row_set : (s : Span) (y z : ℤ) (old new : NumberedSpan) (numbers : List ℤ) → IsRow s (y, z) → length numbers ≡ width_of s →
    IsField s (λ i. if is_along (index s.lo.x y z) (length numbers) i then slice_index_or numbers (int_gap s.lo.x i.x) (pos 0) else number_at old i) new →
    IsField s (λ i. if is_in_row y z i then slice_index_or numbers (int_gap s.lo.x i.x) (pos 0) else number_at old i) new
row_set s y z old new numbers row whole is =
    said_alike s _ _ new is (λ i inside.
    ap (λ (n : ℕ). if is_along (index s.lo.x y z) n i then slice_index_or numbers (int_gap s.lo.x i.x) (pos 0) else number_at old i) whole
    ∙ ap (λ (t : Bool). if t then slice_index_or numbers (int_gap s.lo.x i.x) (pos 0) else number_at old i)
    (in_row_of s y z row i ∙ ap (λ (t : Bool). t && is_in_row y z i) inside))

-- a row of a part that was copied
pub row_copied : (part s : Span) (y z : ℤ) (from old new : NumberedSpan) (numbers : List ℤ) → IsRow part (y, z) →
    numbers ≡ map (number_at from) (along (index part.lo.x y z) (width_of part)) →
    IsField s (λ i. if is_along (index part.lo.x y z) (length numbers) i then slice_index_or numbers (int_gap part.lo.x i.x) (pos 0) else number_at old i) new →
    IsField s (λ i. if is_inside part i && is_in_row y z i then number_at from i else number_at old i) new
row_copied part s y z from old new numbers row read is =
    let first : Index = index part.lo.x y z in
    let w = width_of part in
    said_alike s _ _ new is (λ i inside.
    ap (λ (l : List ℤ). if is_along first (length l) i then slice_index_or l (int_gap part.lo.x i.x) (pos 0) else number_at old i) read
    ∙ ap (λ (n : ℕ). if is_along first n i then slice_index_or (map (number_at from) (along first w)) (int_gap part.lo.x i.x) (pos 0) else number_at old i)
    (length-along (number_at from) first w)
    ∙ elim (cases_Bool (is_along first w i)) [
      | inl on ↦ rw (on, sym (in_row_of part y z row i) ∙ on) (read_along (number_at from) first w i on)
      | inr off ↦ rw (off, sym (in_row_of part y z row i) ∙ off) refl
    ])

pub held_in : (part s : Span) (first : Index) (count : ℕ) → HoldsAlong part first count → ((i : Index) → IsTrue (is_inside part i) → IsTrue (is_inside s i)) →
    HoldsAlong s first count
held_in part s first count held within = record { each = λ k below. within (index (first.x +ℤ pos k) first.y first.z) (held.each k below) }

-- the numbers of a part on some of its rows were copied from one field over those of another
pub record IsCopied (old from : NumberedSpan) (part : Span) (rows : List (ℤ × ℤ)) (new : NumberedSpan) : Type 0 where
  pub span : new.span ≡ old.span
  pub copied : (i : Index) → IsTrue (is_inside old.span i) → IsTrue (is_inside part i) → Contains rows (i.y, i.z) → number_at new i ≡ number_at from i
  pub kept : (i : Index) → IsTrue (is_inside old.span i) → is_inside part i ≡ false → number_at new i ≡ number_at old i

pub none_copied : (old from : NumberedSpan) (part : Span) → IsCopied old from part [] old
none_copied old from part = record {
  span = refl;
  copied = λ i inside within there. absurd (omega (arith, there.1));
  kept = λ i inside beyond. refl;
}

module _ (old from : NumberedSpan) (part : Span) where
  pub next_copied : (rows : List (ℤ × ℤ)) (at : ℤ × ℤ) (mid new : NumberedSpan) → IsCopied old from part rows mid →
      IsField mid.span (λ i. if is_inside part i && is_in_row at.0 at.1 i then number_at from i else number_at mid i) new → IsCopied old from part (rows ++ at ∷ []) new
  next_copied rows at mid new before is = record {
    span = is.span ∙ before.span;
    copied = λ i inside within there.
        let here : IsTrue (is_inside mid.span i) = subst (λ (s : Span). IsTrue (is_inside s i)) (sym before.span) inside in
        elim (cases_Bool (is_in_row at.0 at.1 i)) [
          | inl same ↦ is.numbers i here ∙ rw (within, same) refl
          | inr other ↦ is.numbers i here ∙ rw (within, other) (before.copied i inside within (walked_before rows at i there other))
        ];
    kept = λ i inside beyond.
        let here : IsTrue (is_inside mid.span i) = subst (λ (s : Span). IsTrue (is_inside s i)) (sym before.span) inside in
        is.numbers i here ∙ rw beyond (before.kept i inside beyond);
  }

  pub all_copied : (new : NumberedSpan) → IsCopied old from part (rows_of part) new → ((i : Index) → is_inside part i ≡ (is_inside old.span i && is_inside from.span i)) →
      IsField old.span (λ i. if is_inside from.span i then number_at from i else number_at old i) new
  all_copied new is common = record {
    span = is.span;
    numbers = λ i inside.
        let as_from : is_inside part i ≡ is_inside from.span i = common i ∙ ap (λ (t : Bool). t && is_inside from.span i) inside in
        elim (cases_Bool (is_inside from.span i)) [
          | inl within ↦ rw within (is.copied i inside (as_from ∙ within) (rows_hold part i (as_from ∙ within)))
          | inr beyond ↦ rw beyond (is.kept i inside (as_from ∙ beyond))
        ];
  }
