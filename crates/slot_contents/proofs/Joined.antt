-- Joined lists: filtered, mapped, joined again, and where one item alone has a list.
use Rattle.std.proofs.Common.{◌≡◌, ◌∙◌, ◌≢◌, ◌<◌, ◌+◌, ℕ, zero, suc, List, [], ◌∷◌, ◌++◌, Bool, false, cond, map, filter, ap, refl, arith, inl, inr, ◌⊎◌, ◌≤◌}
use Rattle.std.specs.Prelude.{All}
use Rattle.std.specs.List.{flat_map}
use Rattle.std.proofs.Math.Nat.{eq-or-lt_of_le}
use Rattle.std.proofs.lemmas.List.{append-nil, map-append}
use Rattle.std.proofs.lemmas.List.Concat.{flat_map-append}
use Rattle.std.proofs.lemmas.List.Elements.{All-append, All-head, All-nil, All-tail, filter-append}
use Rattle.uts_geom.specs.Spans.{counted}

-- ---- item by item

pub flat_map_same : {X A : Type 0} (g h : X → List A) → ((x : X) → g x ≡ h x) → (xs : List X) → flat_map g xs ≡ flat_map h xs
flat_map_same g h same [] = refl
flat_map_same {X} {A} g h same (x ∷ xs) = ap (λ (a : List A). a ++ flat_map g xs) (same x) ∙ ap (λ (a : List A). h x ++ a) (flat_map_same g h same xs)

pub map_same : {X A : Type 0} (g h : X → A) → ((x : X) → g x ≡ h x) → (xs : List X) → map g xs ≡ map h xs
map_same g h same [] = refl
map_same {X} {A} g h same (x ∷ xs) = ap (λ (a : A). a ∷ map g xs) (same x) ∙ ap (λ (a : List A). h x ∷ a) (map_same g h same xs)

pub flat_map_nil : {X A : Type 0} (g : X → List A) → ((x : X) → g x ≡ []) → (xs : List X) → flat_map g xs ≡ []
flat_map_nil g none [] = refl
flat_map_nil {X} {A} g none (x ∷ xs) = ap (λ (a : List A). a ++ flat_map g xs) (none x) ∙ flat_map_nil g none xs

pub filter-flat_map : {X A : Type 0} (test : A → Bool) (g : X → List A) (xs : List X) → filter test (flat_map g xs) ≡ flat_map (λ x. filter test (g x)) xs
filter-flat_map test g [] = refl
filter-flat_map {X} {A} test g (x ∷ xs) =
    filter-append test (g x) (flat_map g xs) ∙ ap (λ (a : List A). filter test (g x) ++ a) (filter-flat_map test g xs)

pub map-flat_map : {X A B : Type 0} (f : A → B) (g : X → List A) (xs : List X) → map f (flat_map g xs) ≡ flat_map (λ x. map f (g x)) xs
map-flat_map f g [] = refl
map-flat_map {X} {A} {B} f g (x ∷ xs) = map-append f (g x) (flat_map g xs) ∙ ap (λ (a : List B). map f (g x) ++ a) (map-flat_map f g xs)

pub flat_map-flat_map : {X Y A : Type 0} (h : Y → List A) (g : X → List Y) (xs : List X) → flat_map h (flat_map g xs) ≡ flat_map (λ x. flat_map h (g x)) xs
flat_map-flat_map h g [] = refl
flat_map-flat_map {X} {Y} {A} h g (x ∷ xs) =
    flat_map-append h (g x) (flat_map g xs) ∙ ap (λ (a : List A). flat_map h (g x) ++ a) (flat_map-flat_map h g xs)

-- ---- filters that keep nothing

pub All-flat_map : {X A : Type 0} (P : A → Type 0) (g : X → List A) (xs : List X) → ((x : X) → All P (g x)) → All P (flat_map g xs)
All-flat_map P g [] each = All-nil P
All-flat_map P g (x ∷ xs) each = All-append P (g x) (flat_map g xs) (each x) (All-flat_map P g xs each)

pub filter_nil : {A : Type 0} (test : A → Bool) (xs : List A) → All (λ x. test x ≡ false) xs → filter test xs ≡ []
filter_nil test [] none = refl
filter_nil {A} test (x ∷ xs) none =
    ap (λ (b : Bool). cond b (x ∷ filter test xs) (filter test xs)) (All-head (λ x. test x ≡ false) x xs none)
    ∙ filter_nil test xs (All-tail (λ x. test x ≡ false) x xs none)

-- ---- where one number alone has a list

pub flat_map_one : {A : Type 0} (g : ℕ → List A) (k n : ℕ) → k < n → ((j : ℕ) → j ≢ k → g j ≡ []) → flat_map g (counted 0 n) ≡ g k
flat_map_one g k zero below none = absurd (omega (arith, below))
flat_map_one {A} g k (suc n) below none =
    flat_map-append g (counted 0 n) ((0 + n) ∷ []) ∙ by_last (eq-or-lt_of_le (let le : k ≤ n = omega (arith, below) in le)) (λ less. flat_map_one g k n less none)
  where
    before : (m : ℕ) → m ≤ k → flat_map g (counted 0 m) ≡ []
    before zero le = refl
    before (suc m) le =
        flat_map-append g (counted 0 m) ((0 + m) ∷ [])
        ∙ (ap (λ (a : List A). a ++ (g (0 + m) ++ [])) (before m (omega (arith, le)))
        ∙ ap (λ (a : List A). a ++ []) (none (0 + m) (λ same. let is : 0 + m ≡ k = same in omega (arith, le, is))))

    by_last : (k ≡ n) ⊎ (k < n) → (k < n → flat_map g (counted 0 n) ≡ g k) → flat_map g (counted 0 n) ++ (g (0 + n) ++ []) ≡ g k
    by_last (inl same) earlier =
        ap (λ (a : List A). a ++ (g (0 + n) ++ [])) (before n (omega (arith, same)))
        ∙ (append-nil (g (0 + n)) ∙ ap g (let is : 0 + n ≡ k = omega (arith, same) in is))
    by_last (inr less) earlier =
        ap (λ (a : List A). flat_map g (counted 0 n) ++ (a ++ [])) (none (0 + n) (λ same. let is : 0 + n ≡ k = same in omega (arith, less, is)))
        ∙ (append-nil (flat_map g (counted 0 n)) ∙ earlier less)
