-- The rows of a span, joined, are its indexes.
use Rattle.std.proofs.Common.{◌≡◌, ◌∙◌, ℤ, pos, List, [], ◌∷◌, ◌++◌, ◌+ℤ◌, map, false, Option, None, inl, inr, ap, sym, refl, arith, int_lt}
use Rattle.std.specs.Int.{int_gap}
use Rattle.std.specs.List.{flat_map}
use Rattle.std.proofs.lemmas.Int.{ints}
use Rattle.std.specs.Iterator.{Yields, YieldsFirst}
use Rattle.std.proofs.lemmas.List.{map-id}
use Rattle.std.proofs.lemmas.Iterator.Consumers.{YieldsList-from_first, YieldsList-end}
use Rattle.std.proofs.lemmas.Bool.{cases_Bool}
use Rattle.uts_geom.specs.Rows.{rows_left}
use Rattle.uts_geom.specs.declared.row_walk.Rows.{Rows as Walk}
use Rattle.uts_geom.specs.declared.index.Index.{Index}
use Rattle.uts_geom.specs.declared.span.Span.{Span}
use Rattle.uts_geom.specs.Spans.{index, from_to, counted, row_indexes, indexes_of, rows_of, all_rows}
use Rattle.kernel_sweeps.specs.Lists.{flat_map-flat_map, map-flat_map, flat_map-none, flat_map-same}

-- a list for each pair
flat_map-pairs : {X Y A : Type 0} (f : Y × X → List A) (x : X) (ys : List Y) →
    flat_map f (flat_map (λ y. (y, x) ∷ []) ys) ≡ flat_map (λ y. f (y, x)) ys
flat_map-pairs f x [] = refl
flat_map-pairs f x (y ∷ ys) = ap (λ rest. f (y, x) ++ rest) (flat_map-pairs f x ys)

no_gap : (low high : ℤ) → int_lt low high ≡ false → int_gap low high ≡ 0
no_gap low high none = first_of (grind (arith, ints), omega (arith, ints))

no_numbers : (low high : ℤ) → int_lt low high ≡ false → from_to low high ≡ []
no_numbers low high none = ap (λ n. map (λ k. low +ℤ pos k) (counted 0 n)) (no_gap low high none)

-- what stands for each row of a span, joined, is what stands for each index
module _ {A : Type 0} (f : Index → A) (s : Span) where
  abbrev along : ℤ × ℤ → List A
  along at = map f (row_indexes s at.0 at.1)

  all_joined : flat_map along (all_rows s) ≡ map f (indexes_of s)
  all_joined =
      let ys = from_to s.lo.y s.hi.y in
      let zs = from_to s.lo.z s.hi.z in
      flat_map-flat_map along (λ z. flat_map (λ y. (y, z) ∷ []) ys) zs
      ∙ flat_map-same _ _ (λ z. flat_map-pairs along z ys) zs
      ∙ sym (map-flat_map f (λ z. flat_map (λ y. row_indexes s y z) ys) zs
      ∙ flat_map-same _ _ (λ z. map-flat_map f (λ y. row_indexes s y z) ys) zs)

  none_joined : int_lt s.lo.x s.hi.x ≡ false → indexes_of s ≡ []
  none_joined none =
      flat_map-none _ (λ z. flat_map-none _ (λ y. ap (map (λ x. index x y z)) (no_numbers s.lo.x s.hi.x none)) (from_to s.lo.y s.hi.y)) (from_to s.lo.z s.hi.z)

  rows_joined : flat_map (λ (at : ℤ × ℤ). map f (row_indexes s at.0 at.1)) (rows_of s) ≡ map f (indexes_of s)
  rows_joined =
      elim (cases_Bool (int_lt s.lo.x s.hi.x)) [
        | inl some ↦ rw some all_joined
        | inr none ↦ rw none (sym (ap (map f) (none_joined none)))
      ]

  -- the rows that a walk over the span yielded until its end, joined
  pub walked : (start t u : Walk) (xs : List (ℤ × ℤ)) (r : Option (ℤ × ℤ)) → rows_left start ≡ rows_of s →
      Yields (YieldsFirst rows_left) start xs t → r ≡ None → YieldsFirst rows_left t r u →
      flat_map (λ (at : ℤ × ℤ). map f (row_indexes s at.0 at.1)) xs ≡ map f (indexes_of s)
  walked start t u xs r left yielded none ended =
      let all = YieldsList-end (YieldsList-from_first (λ (at : ℤ × ℤ). at) rows_left (rows_of s) left) xs t yielded r u none ended in
      ap (flat_map along) (sym (map-id xs) ∙ all.0) ∙ rows_joined
