-- The numbers that a test lets through, one more.
use Rattle.std.proofs.Common.{◌≡◌, ◌∙◌, ◌+◌, ℕ, Bool, cond, List, [], ◌∷◌, ◌++◌, ap, sym, add-one, zero-add}
use Rattle.std.specs.Prelude.{filter}
use Rattle.std.proofs.lemmas.List.Elements.{filter-append}
use Rattle.uts_geom.specs.Spans.{counted}

pub touched_more : (p : ℕ → Bool) (n : ℕ) (found more : List ℕ) (touches : Bool) → found ≡ filter p (counted 0 n) → touches ≡ p n →
    more ≡ found ++ cond touches (n ∷ []) [] → more ≡ filter p (counted 0 (n + 1))
touched_more p n found more touches before here put =
    let next : filter p (counted 0 (n + 1)) ≡ filter p (counted 0 n) ++ cond (p n) (n ∷ []) [] =
    ap (λ (m : ℕ). filter p (counted 0 m)) (add-one n)
    ∙ filter-append p (counted 0 n) ((0 + n) ∷ [])
    ∙ ap (λ (m : ℕ). filter p (counted 0 n) ++ cond (p m) (m ∷ []) []) (zero-add n) in
    put
    ∙ ap (λ (xs : List ℕ). xs ++ cond touches (n ∷ []) []) before
    ∙ ap (λ (t : Bool). filter p (counted 0 n) ++ cond t (n ∷ []) []) here
    ∙ sym next
