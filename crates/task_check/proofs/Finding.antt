-- Loops that look for a value that passes.
use Rattle.std.proofs.Common.{◌≡◌, ◌∙◌, ◌≤◌, ◌<◌, ◌+◌, ℕ, List, Bool, true, false, length, get_or, take, ap, sym, subst}
use Rattle.std.specs.Prelude.{◌||◌}
use Rattle.std.specs.List.{list_any}
use Rattle.std.proofs.lemmas.List.{take_all}
use Rattle.std.proofs.lemmas.List.Folds.{list_any_more}
use Rattle.std.proofs.lemmas.Option.{slice_get-get_or}
use Rattle.uts_geom.specs.Lists.{any_at}

-- Over a list, of which the loop has another name.
module _ {X : Type 0} (p : X → Bool) (xs ys : List X) (same : ys ≡ xs) (i : ℕ) where
  pub none_more : (d : X) → i < length ys → list_any p (take i xs) ≡ false → p (get_or ys i d) ≡ false → list_any p (take (i + 1) xs) ≡ false
  none_more d below none here =
      list_any_more p xs i d (subst (λ (zs : List X). i < length zs) same below)
      ∙ ap (λ (b : Bool). b || p (get_or xs i d)) none
      ∙ subst (λ (zs : List X). p (get_or zs i d) ≡ false) same here

  pub found_here : (d : X) → i < length ys → p (get_or ys i d) ≡ true → true ≡ list_any p xs
  found_here d below here =
      let below_xs : i < length xs = subst (λ (zs : List X). i < length zs) same below in
      let passes : p (get_or xs i d) ≡ true = subst (λ (zs : List X). p (get_or zs i d) ≡ true) same here in
      sym (any_at p xs i (get_or xs i d) (slice_get-get_or xs i d below_xs) passes)

  pub none_found : length ys ≤ i → list_any p (take i xs) ≡ false → false ≡ list_any p xs
  none_found end none =
      sym none ∙ ap (λ (zs : List X). list_any p zs) (take_all i xs (subst (λ (zs : List X). length zs ≤ i) same end))
