-- Folds by an operation whose operands may change places and be grouped otherwise.
use Rattle.std.proofs.Common.{◌≡◌, ◌∙◌, ap, sym, refl, arith, ℕ, zero, suc, ℤ, pos, negsuc, ◌-◌, ◌^◌, ◌<◌, ◌+ℤ◌, List, [], ◌∷◌, ◌++◌, length, get_or, set, fold, w64}
use Rattle.std.specs.Prelude.{IsPermutation}
use Rattle.std.specs.Int.{int_wrap, int_min, int_max}
use Rattle.std.specs.List.{swap}
use Rattle.std.proofs.lemmas.Int.{ints, clamps, int_wrap-add_left, int_wrap-add_right}
use Rattle.std.proofs.lemmas.List.Sorted.{IsPermutation-keeps}
use Rattle.std.proofs.lemmas.List.Sums.{fold-append}
use Rattle.problem_types.specs.declared.problem.Fold.{Fold}
use Rattle.problem_types.specs.declared.problem.Fold.TheVariants.{Sum, Min, Max}
use Rattle.reductions.specs.Folding.{identity_of, combined, all_combined}
use Rattle.reductions.specs.Laws.{PartsFoldApart, OrderDoesNotMatter}

module _ (h : ℤ → ℤ → ℤ) (turned : (a x y : ℤ) → h (h a x) y ≡ h (h a y) x) where
  -- the number before a list, exchanged with one of the list
  exchanged : (a x d : ℤ) (xs : List ℤ) (i : ℕ) → i < length xs → fold h (h a (get_or xs i d)) (set xs i x) ≡ fold h (h a x) xs
  exchanged a x d [] i below = absurd (omega arith)
  exchanged a x d (y ∷ ys) zero below = ap (λ (n : ℤ). fold h n ys) (turned a y x)
  exchanged a x d (y ∷ ys) (suc i) below =
      ap (λ (n : ℤ). fold h n (set ys i x)) (turned a (get_or ys i d) y)
      ∙ exchanged (h a y) x d ys i (omega arith)
      ∙ ap (λ (n : ℤ). fold h n ys) (turned a y x)

  -- two numbers of a list, exchanged
  swapped : (a d : ℤ) (xs : List ℤ) (i j : ℕ) → i < length xs → j < length xs →
      fold h a (set (set xs i (get_or xs j d)) j (get_or xs i d)) ≡ fold h a xs
  swapped a d [] i j in_i in_j = absurd (omega arith)
  swapped a d (x ∷ xs) zero zero in_i in_j = refl
  swapped a d (x ∷ xs) zero (suc j) in_i in_j = exchanged a x d xs j (omega arith)
  swapped a d (x ∷ xs) (suc i) zero in_i in_j = exchanged a x d xs i (omega arith)
  swapped a d (x ∷ xs) (suc i) (suc j) in_i in_j = swapped (h a x) d xs i j (omega arith) (omega arith)

  swap_keeps : (a : ℤ) (xs : List ℤ) (i j : ℕ) → i < length xs → j < length xs → fold h a (swap xs i j) ≡ fold h a xs
  swap_keeps a [] i j in_i in_j = refl
  swap_keeps a (x ∷ xs) i j in_i in_j = swapped a x (x ∷ xs) i j in_i in_j

  pub fold-permutation : (a : ℤ) (xs ys : List ℤ) → IsPermutation xs ys → fold h a xs ≡ fold h a ys
  fold-permutation a xs ys moved =
      sym (IsPermutation-keeps xs (λ zs. fold h a zs ≡ fold h a xs) refl (λ zs i j in_i in_j before. swap_keeps a zs i j in_i in_j ∙ before) ys moved)

  -- where a number changes nothing before a list, it changes nothing behind it
  unit_stays : (e a : ℤ) (xs : List ℤ) → h a e ≡ a → h (fold h a xs) e ≡ fold h a xs
  unit_stays e a [] unit = unit
  unit_stays e a (x ∷ xs) unit = unit_stays e (h a x) xs (turned a x e ∙ ap (λ (n : ℤ). h n x) unit)

  module _ (grouped : (a x y : ℤ) → h (h a x) y ≡ h a (h x y)) where
    taken_out : (a b : ℤ) (xs : List ℤ) → fold h (h a b) xs ≡ h a (fold h b xs)
    taken_out a b [] = refl
    taken_out a b (x ∷ xs) = ap (λ (n : ℤ). fold h n xs) (grouped a b x) ∙ taken_out a (h b x) xs

    pub fold-parts : (e : ℤ) (xs ys : List ℤ) → h e e ≡ e → fold h e (xs ++ ys) ≡ h (fold h e xs) (fold h e ys)
    fold-parts e xs ys unit =
        fold-append h e xs ys
        ∙ ap (λ (n : ℤ). fold h n ys) (sym (unit_stays e e xs unit))
        ∙ taken_out (fold h e xs) e ys

sum_turned : (a x y : ℤ) → int_wrap w64 (int_wrap w64 (a +ℤ x) +ℤ y) ≡ int_wrap w64 (int_wrap w64 (a +ℤ y) +ℤ x)
sum_turned a x y =
    int_wrap-add_left w64 (a +ℤ x) y ∙ ap (int_wrap w64) (let e : (a +ℤ x) +ℤ y ≡ (a +ℤ y) +ℤ x = omega (arith, ints) in e)
    ∙ sym (int_wrap-add_left w64 (a +ℤ y) x)

sum_grouped : (a x y : ℤ) → int_wrap w64 (int_wrap w64 (a +ℤ x) +ℤ y) ≡ int_wrap w64 (a +ℤ int_wrap w64 (x +ℤ y))
sum_grouped a x y =
    int_wrap-add_left w64 (a +ℤ x) y ∙ ap (int_wrap w64) (let e : (a +ℤ x) +ℤ y ≡ a +ℤ (x +ℤ y) = omega (arith, ints) in e)
    ∙ sym (int_wrap-add_right w64 a (x +ℤ y))

turned_of : (f : Fold) (a x y : ℤ) → combined f (combined f a x) y ≡ combined f (combined f a y) x
turned_of Sum a x y = sum_turned a x y
turned_of Min a x y = omega (arith, ints, clamps)
turned_of Max a x y = omega (arith, ints, clamps)

grouped_of : (f : Fold) (a x y : ℤ) → combined f (combined f a x) y ≡ combined f a (combined f x y)
grouped_of Sum a x y = sum_grouped a x y
grouped_of Min a x y = omega (arith, ints, clamps)
grouped_of Max a x y = omega (arith, ints, clamps)

unit_of : (f : Fold) → combined f (identity_of f) (identity_of f) ≡ identity_of f
unfolding int_wrap
unit_of Sum = refl
unit_of Min = refl
unit_of Max = refl

pub order_does_not_matter : OrderDoesNotMatter
order_does_not_matter f a b moved = fold-permutation (combined f) (turned_of f) (identity_of f) a b moved

pub parts_fold_apart : PartsFoldApart
parts_fold_apart f a b = fold-parts (combined f) (turned_of f) (grouped_of f) (identity_of f) a b (unit_of f)
