-- Sums over lists that are made of other lists, and counts of what stands once.
use Rattle.std.proofs.Common.{◌≡◌, ◌∙◌, ◌<◌, ◌+◌, ◌*◌, ℕ, zero, suc, List, [], ◌∷◌, Bool, true, false, cond, Some, length, map, ap, sym, refl, arith, add-one}
use Rattle.std.specs.Prelude.{slice_get, ◌||◌}
use Rattle.std.specs.List.{count_by, sum_by, filter, flat_map, list_any}
use Rattle.std.proofs.lemmas.List.Sums.{sum_by-cons, sum_by-append}
use Rattle.uts_geom.specs.Spans.{counted}
use Rattle.uts_geom.specs.Lists.{at_place}

-- sums of equal terms, and of none
pub sum-same : {X : Type 0} (f g : X → ℕ) (xs : List X) → ((k : ℕ) (x : X) → slice_get xs k ≡ Some x → f x ≡ g x) → sum_by f xs ≡ sum_by g xs
sum-same f g [] same = refl
sum-same f g (x ∷ xs) same =
    omega (arith, sum_by-cons f x xs, sum_by-cons g x xs, same 0 x refl, sum-same f g xs (λ k y at. same (suc k) y at))

pub sum-nothing : {X : Type 0} (f : X → ℕ) (xs : List X) → ((k : ℕ) (x : X) → slice_get xs k ≡ Some x → f x ≡ 0) → sum_by f xs ≡ 0
sum-nothing f [] none = refl
sum-nothing f (x ∷ xs) none = omega (arith, sum_by-cons f x xs, none 0 x refl, sum-nothing f xs (λ k y at. none (suc k) y at))

-- sums over lists that are joined, mapped and filtered
pub sum-flat_map : {X A : Type 0} (f : A → ℕ) (g : X → List A) (xs : List X) → sum_by f (flat_map g xs) ≡ sum_by (λ x. sum_by f (g x)) xs
sum-flat_map f g [] = refl
sum-flat_map f g (x ∷ xs) = omega (arith, sum_by-append f (g x) (flat_map g xs), sum_by-cons (λ y. sum_by f (g y)) x xs, sum-flat_map f g xs)

pub sum-map : {X A : Type 0} (f : A → ℕ) (g : X → A) (xs : List X) → sum_by f (map g xs) ≡ sum_by (λ x. f (g x)) xs
sum-map f g [] = refl
sum-map f g (x ∷ xs) = omega (arith, sum_by-cons f (g x) (map g xs), sum_by-cons (λ y. f (g y)) x xs, sum-map f g xs)

cons_if : {X : Type 0} (f : X → ℕ) (b : Bool) (x : X) (xs : List X) → sum_by f (cond b (x ∷ xs) xs) ≡ cond b (f x) 0 + sum_by f xs
cons_if f true x xs = sum_by-cons f x xs
cons_if f false x xs = omega arith

pub sum-filter : {X : Type 0} (f : X → ℕ) (p : X → Bool) (xs : List X) → sum_by f (filter p xs) ≡ sum_by (λ x. cond (p x) (f x) 0) xs
sum-filter f p [] = refl
sum-filter f p (x ∷ xs) =
    omega (arith, cons_if f (p x) x (filter p xs), sum_by-cons (λ y. cond (p y) (f y) 0) x xs, sum-filter f p xs)

pub sum-plus : {X : Type 0} (f g : X → ℕ) (xs : List X) → sum_by (λ x. f x + g x) xs ≡ sum_by f xs + sum_by g xs
sum-plus f g [] = refl
sum-plus f g (x ∷ xs) =
    omega (arith, sum_by-cons (λ y. f y + g y) x xs, sum_by-cons f x xs, sum_by-cons g x xs, sum-plus f g xs)

pub sum-constant : {X : Type 0} (n : ℕ) (xs : List X) → sum_by (λ x. n) xs ≡ length xs * n
sum-constant n [] = omega arith
sum-constant n (x ∷ xs) = omega (arith, sum_by-cons (λ y. n) x xs, sum-constant n xs)

pub sum-times : {X : Type 0} (k : ℕ) (f : X → ℕ) (xs : List X) → sum_by (λ x. k * f x) xs ≡ k * sum_by f xs
sum-times k f [] = omega arith
sum-times k f (x ∷ xs) = omega (arith, sum_by-cons (λ y. k * f y) x xs, ap (λ (n : ℕ). k * n) (sum_by-cons f x xs), sum-times k f xs)

-- the order of two sums
pub sum-exchange : {X Y : Type 0} (f : X → Y → ℕ) (xs : List X) (ys : List Y) →
    sum_by (λ x. sum_by (f x) ys) xs ≡ sum_by (λ y. sum_by (λ x. f x y) xs) ys
sum-exchange f [] ys = sym (sum-nothing (λ y. 0) ys (λ k y at. refl))
sum-exchange f (x ∷ xs) ys =
    sum_by-cons (λ z. sum_by (f z) ys) x xs
    ∙ ap (λ n. sum_by (f x) ys + n) (sum-exchange f xs ys)
    ∙ sym (sum-plus (f x) (λ y. sum_by (λ z. f z y) xs) ys)
    ∙ sym (sum-same (λ y. sum_by (λ z. f z y) (x ∷ xs)) (λ y. f x y + sum_by (λ z. f z y) xs) ys (λ k y at. sum_by-cons (λ z. f z y) x xs))

-- a sum of one number for each value that passes a test
pub sum-each : {X : Type 0} (p : X → Bool) (f : X → ℕ) (n : ℕ) (xs : List X) →
    ((k : ℕ) (x : X) → slice_get xs k ≡ Some x → f x ≡ cond (p x) n 0) → sum_by f xs ≡ count_by p xs * n
sum-each p f n [] each = omega arith
sum-each {X} p f n (x ∷ xs) each =
    by_test (p x) (each 0 x refl) (sum_by-cons (λ y. cond (p y) 1 0) x xs) (sum-each p f n xs (λ k y at. each (suc k) y at))
  where
    by_test : (b : Bool) → f x ≡ cond b n 0 → count_by p (x ∷ xs) ≡ cond b 1 0 + count_by p xs → sum_by f xs ≡ count_by p xs * n →
        sum_by f (x ∷ xs) ≡ count_by p (x ∷ xs) * n
    by_test true here more rest = rw more (omega (arith, sum_by-cons f x xs, here, rest))
    by_test false here more rest = rw more (omega (arith, sum_by-cons f x xs, here, rest))

-- what no value passes, and what one does
pub count-none : {X : Type 0} (p : X → Bool) (xs : List X) → ((k : ℕ) (x : X) → slice_get xs k ≡ Some x → p x ≡ false) → count_by p xs ≡ 0
count-none p xs none = sum-nothing (λ x. cond (p x) 1 0) xs (λ k x at. ap (λ (b : Bool). cond b 1 0) (none k x at))

pub count-one : {X : Type 0} (p : X → Bool) (xs : List X) (k : ℕ) (x : X) → slice_get xs k ≡ Some x → p x ≡ true →
    ((j : ℕ) (y : X) → slice_get xs j ≡ Some y → p y ≡ true → j ≡ k) → count_by p xs ≡ 1
count-one p [] k x at passes only = absurd cc
count-one {X} p (y ∷ ys) zero x at passes only =
    let same : y ≡ x = cc in
    let here : p y ≡ true = ap p same ∙ passes in
    sum_by-cons (λ z. cond (p z) 1 0) y ys
    ∙ ap (λ (b : Bool). cond b 1 0 + count_by p ys) here
    ∙ ap (λ n. 1 + n) (count-none p ys (λ j z there. not_true (p z) (λ also. absurd (let e = only (suc j) z there also in omega (arith, e)))))
  where
    not_true : (b : Bool) → (b ≡ true → b ≡ false) → b ≡ false
    not_true true is_false = is_false refl
    not_true false is_false = refl
count-one {X} p (y ∷ ys) (suc k) x at passes only =
    sum_by-cons (λ z. cond (p z) 1 0) y ys
    ∙ ap (λ (b : Bool). cond b 1 0 + count_by p ys) (not_first (p y) refl)
    ∙ (let e : cond {A = ℕ} false 1 0 + count_by p ys ≡ count_by p ys = omega arith in e)
    ∙ count-one p ys k x at passes (λ j z there also. let e = only (suc j) z there also in omega (arith, e))
  where
    not_first : (b : Bool) → p y ≡ b → p y ≡ false
    not_first true is = absurd (let e = only 0 y refl is in omega (arith, e))
    not_first false is = is

-- a sum of one number for the one value that passes
pub sum-one : {X : Type 0} (p : X → Bool) (f : X → ℕ) (n : ℕ) (xs : List X) → count_by p xs ≡ 1 →
    ((k : ℕ) (x : X) → slice_get xs k ≡ Some x → f x ≡ cond (p x) n 0) → sum_by f xs ≡ n
sum-one p f n xs one each = sum-each p f n xs each ∙ ap (λ m. m * n) one ∙ omega arith

-- what passes one of two tests, where nothing passes both
one_of_two : (a b : Bool) → (a ≡ true → b ≡ true → ⊥) → cond (a || b) 1 0 ≡ cond a 1 0 + cond b 1 0
one_of_two true true apart = absurd (apart refl refl)
one_of_two true false apart = refl
one_of_two false true apart = refl
one_of_two false false apart = refl

-- what passes one of several tests, where nothing passes two
pub count-some : {S X : Type 0} (p : S → X → Bool) (ss : List S) (xs : List X) →
    ((i j : ℕ) (s t : S) (x : X) → i < j → slice_get ss i ≡ Some s → slice_get ss j ≡ Some t → p s x ≡ true → p t x ≡ true → ⊥) →
    count_by (λ x. list_any (λ s. p s x) ss) xs ≡ sum_by (λ s. count_by (p s) xs) ss
count-some p [] xs apart = count-none (λ x. false) xs (λ k x at. refl)
count-some p (s ∷ ss) xs apart =
    sum-same (λ x. cond (p s x || list_any (λ t. p t x) ss) 1 0) (λ x. cond (p s x) 1 0 + cond (list_any (λ t. p t x) ss) 1 0) xs
    (λ k x at. one_of_two (p s x) (list_any (λ t. p t x) ss) (λ here there.
    let other = at_place (λ t. p t x) ss there in
    apart 0 (suc other.0) s other.1 x (omega arith) refl other.2 here other.3))
    ∙ sum-plus (λ x. cond (p s x) 1 0) (λ x. cond (list_any (λ t. p t x) ss) 1 0) xs
    ∙ ap (λ n. count_by (p s) xs + n) (count-some p ss xs (λ i j t u x before at_i at_j here there. apart (suc i) (suc j) t u x (omega arith) at_i at_j here there))
    ∙ sym (sum_by-cons (λ t. count_by (p t) xs) s ss)

-- Numbers from 0 up.

-- one more number
pub sum-counted_more : (f : ℕ → ℕ) (n : ℕ) → sum_by f (counted 0 (n + 1)) ≡ sum_by f (counted 0 n) + f n
sum-counted_more f n =
    ap (λ m. sum_by f (counted 0 m)) (add-one n)
    ∙ sum_by-append f (counted 0 n) ((0 + n) ∷ [])
    ∙ ap (λ m. sum_by f (counted 0 n) + m) (let e : 0 + f (0 + n) ≡ f (0 + n) = omega arith in e ∙ ap f (let z : 0 + n ≡ n = omega arith in z))
