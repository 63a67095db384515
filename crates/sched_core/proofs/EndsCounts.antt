-- Counts that hold all there is or nothing.
use Rattle.std.proofs.Common.{◌≡◌, ◌∙◌, ◌<◌, ℕ, zero, suc, Bool, true, false, cond, ◌⊎◌, inl, inr, List, [], ◌∷◌, refl, subst, arith}
use Rattle.std.specs.Prelude.{All}
use Rattle.std.specs.List.{count_by, range_with_len}
use Rattle.std.proofs.lemmas.Bool.{cases_Bool, cases_eq}
use Rattle.std.proofs.lemmas.List.Elements.{All-head, All-tail}
use Rattle.std.proofs.lemmas.List.Sums.{sum_by-cons}
use Rattle.graph_types.specs.Counting.{count_alike, count_suc, count_within}
use Rattle.sched_core.proofs.Lists.{number_true, number_false}
use Rattle.sched_core.proofs.SoundSums.{sum_zero}

-- a test that holds as often as there are numbers holds of each
pub counts_each : (test : ℕ → Bool) (n k : ℕ) → k < n → count_by test (range_with_len 0 n) ≡ n → test k ≡ true
counts_each test zero k lt full = absurd (omega arith)
counts_each test (suc n) k lt full = by_test (cases_Bool (test n)) (counts_each test n k) where
  by_test : (test n ≡ true) ⊎ (test n ≡ false) → (k < n → count_by test (range_with_len 0 n) ≡ n → test k ≡ true) → test k ≡ true
  by_test (inr unmet) before = absurd (omega (arith, count_suc test n, number_false (test n) unmet, count_within test n, full))
  by_test (inl met) before = by_number (cases_eq n k) where
    by_number : (n ≡ k) ⊎ (n ≡ k → ⊥) → test k ≡ true
    by_number (inl e) = subst (λ (m : ℕ). test m ≡ true) e met
    by_number (inr other) = before (omega (arith, lt, other)) (omega (arith, count_suc test n, number_true (test n) met, full))

-- a test that no number passes
pub counts_never : (test : ℕ → Bool) (n : ℕ) → ((k : ℕ) → k < n → test k ≡ false) → count_by test (range_with_len 0 n) ≡ 0
counts_never test n never = count_alike test (λ k. false) n never ∙ sum_zero (range_with_len 0 n)

-- a test that no element passes
pub counts_none : {A : Type 0} (test : A → Bool) (xs : List A) → All (λ x. test x ≡ false) xs → count_by test xs ≡ 0
counts_none test [] none = refl
counts_none test (x ∷ xs) none =
    omega (
      arith,
      sum_by-cons (λ y. cond (test y) 1 0) x xs,
      number_false (test x) (All-head (λ y. test y ≡ false) x xs none),
      counts_none test xs (All-tail (λ y. test y ≡ false) x xs none),
    )
