-- Numbers combined list by list.
use Rattle.std.proofs.Common.{◌≡◌, ◌∙◌, ℤ, List, [], ◌∷◌, map, ap, sym, refl}
use Rattle.std.specs.List.{flat_map}
use Rattle.problem_types.specs.declared.problem.Fold.{Fold}
use Rattle.reductions.specs.Folding.{all_combined, combined}
use Rattle.reductions.specs.Laws.{PartsFoldApart}

module _ (apart : PartsFoldApart) (f : Fold) where
  -- lists that are combined alike one by one, joined
  pub combined_alike : {X : Type 0} (g h : X → List ℤ) → ((x : X) → all_combined f (g x) ≡ all_combined f (h x)) → (xs : List X) →
      all_combined f (flat_map g xs) ≡ all_combined f (flat_map h xs)
  combined_alike g h alike [] = refl
  combined_alike g h alike (x ∷ xs) =
      apart f (g x) (flat_map g xs)
      ∙ (ap (λ (n : ℤ). combined f n (all_combined f (flat_map g xs))) (alike x)
      ∙ (ap (combined f (all_combined f (h x))) (combined_alike g h alike xs) ∙ sym (apart f (h x) (flat_map h xs))))

  -- a list combined is the one number of it
  combined_again : (numbers : List ℤ) → all_combined f (all_combined f numbers ∷ []) ≡ all_combined f numbers
  combined_again numbers = sym (apart f [] numbers)

  -- lists combined one by one, and then together
  pub combined_parts : {X : Type 0} (g : X → List ℤ) (xs : List X) → all_combined f (map (λ x. all_combined f (g x)) xs) ≡ all_combined f (flat_map g xs)
  combined_parts g [] = refl
  combined_parts g (x ∷ xs) =
      apart f (all_combined f (g x) ∷ []) (map (λ y. all_combined f (g y)) xs)
      ∙ (ap (λ (n : ℤ). combined f n (all_combined f (map (λ y. all_combined f (g y)) xs))) (combined_again (g x))
      ∙ (ap (combined f (all_combined f (g x))) (combined_parts g xs) ∙ sym (apart f (g x) (flat_map g xs))))
