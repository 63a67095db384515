-- Which patch owns an index, from one that does.
use Rattle.std.proofs.Common.{◌≡◌, ℕ, ◌↔◌, Option, Some, None, ap, refl, subst}
use Rattle.std.specs.Prelude.{IfSome, IsNone}

pub the_owner : (Q : ℕ → Type 0) (found : Option ℕ) → IfSome found Q → (IsNone found → (k : ℕ) → Q k → ⊥) → ((j k : ℕ) → Q j → Q k → j ≡ k) →
    (k : ℕ) → (found ≡ Some k) ↔ Q k
the_owner Q None owns none once k = (λ e. absurd cc, λ q. absurd (none refl k q))
the_owner Q (Some j) owns none once k = (λ e. subst Q (let same : j ≡ k = cc in same) owns, λ q. ap Some (once j k owns q))
