-- The numbers below a bound, in parts.
use Rattle.std.proofs.Common.{◌≡◌, ◌∙◌, ◌<◌, ◌+◌, ◌-◌, ℕ, zero, suc, List, [], ◌∷◌, ◌++◌, ap, sym, refl, arith, add-one, zero-add, append_assoc, append-nil}
use Rattle.uts_geom.specs.Spans.{counted}

-- the numbers up to one more, and up to a higher bound
pub counted-more : (k : ℕ) → counted 0 (k + 1) ≡ counted 0 k ++ k ∷ []
counted-more k = rw (add-one, zero-add) refl

counted_further : (k m : ℕ) → (rest : List ℕ) × (counted 0 (k + m) ≡ counted 0 k ++ rest)
counted_further k zero = ([], ap (counted 0) (let e : k + 0 ≡ k = omega arith in e) ∙ sym (append-nil (counted 0 k)))
counted_further k (suc m) =
    let before = counted_further k m in (
      before.0 ++ (0 + (k + m)) ∷ [],
      ap (counted 0) (let e : k + suc m ≡ suc (k + m) = omega arith in e)
          ∙ ap (λ t. t ++ (0 + (k + m)) ∷ []) before.1 ∙ append_assoc (counted 0 k) before.0 ((0 + (k + m)) ∷ []),
    )

pub counted_split : (k n : ℕ) → k < n → (rest : List ℕ) × (counted 0 n ≡ (counted 0 k ++ k ∷ []) ++ rest)
counted_split k n below =
    let further = counted_further (k + 1) (n - (k + 1)) in (
      further.0,
      ap (counted 0) (let e : n ≡ (k + 1) + (n - (k + 1)) = omega arith in e) ∙ further.1
          ∙ ap (λ t. t ++ further.0) (counted-more k),
    )
