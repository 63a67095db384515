-- What can be judged: that it holds, or that it does not.
use Rattle.std.proofs.Common.{◌≡◌, ◌⊎◌, inl, inr, ◌≤◌, ◌<◌, ◌+◌, ℕ, zero, suc, List, [], ◌∷◌, Bool, true, false, refl, sym, arith, subst}
use Rattle.std.specs.Prelude.{All, AllPairs, Any, Contains, IsTrue, IsFalse, IfSome, Option, Some, None, slice_index_or}
use Rattle.std.proofs.lemmas.Bool.Decides.{leb_tells, eqb_tells}
use Rattle.std.proofs.lemmas.List.Elements.{All-nil, All-cons, All-head, All-tail}

-- it holds or does not
abbrev pub Judged : Type 0 → Type 0
Judged P = P ⊎ (P → ⊥)

pub both : {A B : Type 0} → Judged A → Judged B → Judged (A × B)
both (inl a) (inl b) = inl (a, b)
both (inl a) (inr not_b) = inr (λ h. not_b h.1)
both (inr not_a) b = inr (λ h. not_a h.0)

pub either : {A B : Type 0} → Judged A → Judged B → Judged (A ⊎ B)
either (inl a) b = inl (inl a)
either (inr not_a) (inl b) = inl (inr b)
either (inr not_a) (inr not_b) = inr (λ h. elim h [ inl a ↦ not_a a | inr b ↦ not_b b ])

pub denied : {A : Type 0} → Judged A → Judged (A → ⊥)
denied (inl a) = inr (λ none. none a)
denied (inr not_a) = inl not_a

pub implied : {A B : Type 0} → Judged A → Judged B → Judged (A → B)
implied a (inl b) = inl (λ h. b)
implied (inl a) (inr not_b) = inr (λ from. not_b (from a))
implied (inr not_a) (inr not_b) = inl (λ h. absurd (not_a h))

pub like : {A B : Type 0} → (A → B) → (B → A) → Judged A → Judged B
like to from (inl a) = inl (to a)
like to from (inr not_a) = inr (λ b. not_a (from b))

-- numbers and tests
pub equal : (a b : ℕ) → Judged (a ≡ b)
equal a b = elim (eqb_tells a b) [ inl h ↦ inl h.1 | inr h ↦ inr h.1 ]

pub at_most : (a b : ℕ) → Judged (a ≤ b)
at_most a b = elim (leb_tells a b) [ inl h ↦ inl h.1 | inr h ↦ inr (λ le. omega (arith, h.1)) ]

pub below : (a b : ℕ) → Judged (a < b)
below a b = like (λ h. omega arith) (λ h. omega arith) (at_most (a + 1) b)

pub passes : (b : Bool) → Judged (IsTrue b)
passes true = inl refl
passes false = inr (λ is. cc)

pub fails : (b : Bool) → Judged (IsFalse b)
fails true = inr (λ is. cc)
fails false = inl refl

-- each of the three axes
of_three : (P : ℕ → Type 0) → P 0 × (P 1 × P 2) → (axis : ℕ) → axis < 3 → P axis
of_three P h zero within = h.0
of_three P h (suc zero) within = h.1.0
of_three P h (suc (suc zero)) within = h.1.1
of_three P h (suc (suc (suc n))) within = absurd (omega arith)

pub on_axes : (P : ℕ → Type 0) → ((axis : ℕ) → Judged (P axis)) → Judged ((axis : ℕ) → axis < 3 → P axis)
on_axes P each =
    like (of_three P) (λ h. (h 0 (omega arith), (h 1 (omega arith), h 2 (omega arith)))) (both (each 0) (both (each 1) (each 2)))

-- lists
pub all : {A : Type 0} (P : A → Type 0) → ((x : A) → Judged (P x)) → (xs : List A) → Judged (All P xs)
all P each [] = inl (All-nil P)
all P each (x ∷ xs) =
    like (λ h. All-cons P x xs h.0 h.1) (λ h. (All-head P x xs h, All-tail P x xs h)) (both (each x) (all P each xs))

any_first : {A : Type 0} (P : A → Type 0) (x : A) (xs : List A) → Any P (x ∷ xs) → P x ⊎ Any P xs
any_first P x xs (zero, y, within, same, holds) = inl (subst P (sym same) holds)
any_first P x xs (suc k, y, within, same, holds) = inr (k, y, omega arith, same, holds)

any_rest : {A : Type 0} (P : A → Type 0) (x : A) (xs : List A) → P x ⊎ Any P xs → Any P (x ∷ xs)
any_rest P x xs (inl holds) = (0, x, omega arith, refl, holds)
any_rest P x xs (inr (k, y, within, same, holds)) = (suc k, y, omega arith, same, holds)

pub any : {A : Type 0} (P : A → Type 0) → ((x : A) → Judged (P x)) → (xs : List A) → Judged (Any P xs)
any P each [] = inr (λ h. let none : h.0 < 0 = h.2 in omega arith)
any P each (x ∷ xs) = like (any_rest P x xs) (any_first P x xs) (either (each x) (any P each xs))

pairs_rest : {A : Type 0} (R : A → A → Type 0) (x : A) (xs : List A) → All (R x) xs × AllPairs R xs → AllPairs R (x ∷ xs)
pairs_rest R x xs h zero zero d before within = absurd (omega arith)
pairs_rest R x xs h (suc i) zero d before within = absurd (omega arith)
pairs_rest R x xs h zero (suc j) d before within = h.0 j d (omega arith)
pairs_rest R x xs h (suc i) (suc j) d before within = h.1 i j d (omega arith) (omega arith)

pairs_first : {A : Type 0} (R : A → A → Type 0) (x : A) (xs : List A) → AllPairs R (x ∷ xs) → All (R x) xs × AllPairs R xs
pairs_first R x xs h =
    (λ k d within. h 0 (suc k) d (omega arith) (omega arith), λ i j d before within. h (suc i) (suc j) d (omega arith) (omega arith))

pub all_pairs : {A : Type 0} (R : A → A → Type 0) → ((x y : A) → Judged (R x y)) → (xs : List A) → Judged (AllPairs R xs)
all_pairs R each [] = inl (λ i j d before within. absurd (omega arith))
all_pairs R each (x ∷ xs) = like (pairs_rest R x xs) (pairs_first R x xs) (both (all (R x) (each x) xs) (all_pairs R each xs))

pub contained : (xs : List ℕ) (n : ℕ) → Judged (Contains xs n)
contained xs n =
    like (λ h. (h.0, h.2, subst (λ m. slice_index_or xs h.0 m ≡ m) h.4 h.3)) (λ h. (h.0, n, h.1, h.2, refl))
    (any (λ m. m ≡ n) (λ m. equal m n) xs)

pub if_some : {A : Type 0} (P : A → Type 0) → ((x : A) → Judged (P x)) → (o : Option A) → Judged (IfSome o P)
if_some P each None = inl tt
if_some P each (Some x) = each x
