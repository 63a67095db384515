-- Lists of numbers, what stands in them, and counts over the first numbers.
use Rattle.std.proofs.Common.{◌≡◌, ◌∙◌, ◌≢◌, inl, inr, ℕ, zero, suc, ◌+◌, ◌<◌, ◌≤◌, Bool, true, false, cond, List, [], ◌∷◌, ◌++◌, length, get_or, take, ap, sym, refl, subst, arith, add-one, add-zero}
use Rattle.std.specs.Prelude.{◌||◌, ◌==◌, Some, slice_get}
use Rattle.std.specs.List.{All, Contains, count_by, filter, list_any, range_with_len}
use Rattle.std.specs.List.Sorted.{IsStrictlyIncreasing}
use Rattle.std.proofs.Math.Nat.{eq-or-lt_of_le}
use Rattle.std.proofs.lemmas.Bool.{cases_Bool, cases_eq, eq-eqb, eqb-true, ne_eqb, or_cases}
use Rattle.std.proofs.lemmas.List.{append-nil, take_all, take_more, length-take-le, get_or-take}
use Rattle.std.proofs.lemmas.List.FromFn.{get_or-range_with_len, length-range_with_len}
use Rattle.std.proofs.lemmas.List.Folds.{list_any_at, list_any_more, list_any_none}
use Rattle.std.proofs.lemmas.List.Sums.{sum_by_push, sum_by_more, length-filter}
use Rattle.std.proofs.lemmas.List.Elements.{All-contains, All-from_get_or, All-head, All-tail, filter-append}
use Rattle.std.proofs.lemmas.Option.{slice_get_within, get_or_from_slice_get}
use Rattle.graph_types.specs.Graph.{has}
use Rattle.graph_types.specs.Parts.{StandOnce}

-- ---- the first numbers

range_from : (a n : ℕ) → range_with_len a (suc n) ≡ range_with_len a n ++ (a + n) ∷ []
range_from a zero = ap (λ (k : ℕ). k ∷ []) (sym (add-zero a))
range_from a (suc n) =
    let next : a + 1 + n ≡ a + suc n = omega arith in
    ap (λ (xs : List ℕ). a ∷ xs) (range_from (a + 1) n ∙ ap (λ (k : ℕ). range_with_len (a + 1) n ++ k ∷ []) next)

pub range_suc : (n : ℕ) → range_with_len 0 (suc n) ≡ range_with_len 0 n ++ n ∷ []
range_suc n = let here : 0 + n ≡ n = omega arith in range_from 0 n ∙ ap (λ (k : ℕ). range_with_len 0 n ++ k ∷ []) here

pub all_below : (n : ℕ) → All (λ k. k < n) (range_with_len 0 n)
all_below n = All-from_get_or (λ k. k < n) (range_with_len 0 n) 0 (λ i within.
    let below : i < n = omega (arith, length-range_with_len 0 n) in
    omega (arith, get_or-range_with_len 0 n i 0 below))

pub count_suc : (p : ℕ → Bool) (n : ℕ) → count_by p (range_with_len 0 (suc n)) ≡ count_by p (range_with_len 0 n) + cond (p n) 1 0
count_suc p n = ap (count_by p) (range_suc n) ∙ sum_by_push (λ (k : ℕ). cond (p k) 1 0) (range_with_len 0 n) n

pub count_more : (p : ℕ → Bool) (n : ℕ) → count_by p (range_with_len 0 (n + 1)) ≡ count_by p (range_with_len 0 n) + cond (p n) 1 0
count_more p n = ap (λ (m : ℕ). count_by p (range_with_len 0 m)) (add-one n) ∙ count_suc p n

pub count_within : (p : ℕ → Bool) (n : ℕ) → count_by p (range_with_len 0 n) ≤ n
count_within p zero = omega arith
count_within p (suc n) = elim (cases_Bool (p n)) [
  | inl passes ↦ omega (arith, count_suc p n ∙ ap (λ (b : Bool). count_by p (range_with_len 0 n) + cond b 1 0) passes, count_within p n)
  | inr fails ↦ omega (arith, count_suc p n ∙ ap (λ (b : Bool). count_by p (range_with_len 0 n) + cond b 1 0) fails, count_within p n)
]

-- tests that agree on the first numbers
pub count_alike : (p q : ℕ → Bool) (n : ℕ) → ((k : ℕ) → k < n → p k ≡ q k) → count_by p (range_with_len 0 n) ≡ count_by q (range_with_len 0 n)
count_alike p q zero same = refl
count_alike p q (suc n) same =
    count_suc p n
    ∙ ap (λ (c : ℕ). c + cond (p n) 1 0) (count_alike p q n (λ k below. same k (omega arith)))
    ∙ ap (λ (b : Bool). count_by q (range_with_len 0 n) + cond b 1 0) (same n (omega arith))
    ∙ sym (count_suc q n)

count_at : (p : ℕ → Bool) (n : ℕ) → p n ≡ true → count_by p (range_with_len 0 (suc n)) ≡ count_by p (range_with_len 0 n) + 1
count_at p n passes = count_suc p n ∙ ap (λ (b : Bool). count_by p (range_with_len 0 n) + cond b 1 0) passes

count_not : (p : ℕ → Bool) (n : ℕ) → p n ≡ false → count_by p (range_with_len 0 (suc n)) ≡ count_by p (range_with_len 0 n)
count_not p n fails = count_suc p n ∙ ap (λ (b : Bool). count_by p (range_with_len 0 n) + cond b 1 0) fails ∙ add-zero _

count_rises : (p : ℕ → Bool) (n : ℕ) → count_by p (range_with_len 0 n) ≤ count_by p (range_with_len 0 (suc n))
count_rises p n = omega (arith, count_suc p n)

pub count_one : (p : ℕ → Bool) (n a : ℕ) → a < n → p a ≡ true → 1 ≤ count_by p (range_with_len 0 n)
count_one p zero a below passes = absurd (omega arith)
count_one p (suc n) a below passes = elim (eq-or-lt_of_le (let le : a ≤ n = omega arith in le)) [
  | inl here ↦ omega (arith, count_at p n (ap p (sym here) ∙ passes))
  | inr less ↦ omega (arith, count_one p n a less passes, count_rises p n)
]

pub count_two : (p : ℕ → Bool) (n a b : ℕ) → a < b → b < n → p a ≡ true → p b ≡ true → 2 ≤ count_by p (range_with_len 0 n)
count_two p zero a b before below passes too = absurd (omega arith)
count_two p (suc n) a b before below passes too = elim (eq-or-lt_of_le (let le : b ≤ n = omega arith in le)) [
  | inl here ↦ omega (arith, count_at p n (ap p (sym here) ∙ too), count_one p n a (omega arith) passes)
  | inr less ↦ omega (arith, count_two p n a b before less passes too, count_rises p n)
]

-- a number that passes, where some do
pub count_found : (p : ℕ → Bool) (n : ℕ) → 1 ≤ count_by p (range_with_len 0 n) → (a : ℕ) × (a < n) × (p a ≡ true)
count_found p zero some = absurd (omega arith)
count_found p (suc n) some = elim (cases_Bool (p n)) [
  | inl passes ↦ (n, omega arith, passes)
  | inr fails ↦ let found = count_found p n (omega (arith, count_not p n fails)) in (found.0, omega (arith, found.1), found.2)
]

-- ---- one number more

or_other : (b : Bool) (x m : ℕ) → x ≢ m → (b || (x == m)) ≡ b
or_other true x m other = refl
or_other false x m other = ne_eqb x m other

or_same : (b : Bool) (x m : ℕ) → x ≡ m → (b || (x == m)) ≡ true
or_same true x m here = refl
or_same false x m here = eq-eqb x m here

pub count_with : (p : ℕ → Bool) (x n : ℕ) → x < n → p x ≡ false → count_by (λ m. p m || (x == m)) (range_with_len 0 n) ≡ count_by p (range_with_len 0 n) + 1
count_with p x zero below fails = absurd (omega arith)
count_with p x (suc n) below fails = elim (eq-or-lt_of_le (let le : x ≤ n = omega arith in le)) [
  | inl here ↦
      count_at (λ m. p m || (x == m)) n (or_same (p n) x n here)
      ∙ ap (λ (c : ℕ). c + 1) (count_alike (λ m. p m || (x == m)) p n (λ k less. or_other (p k) x k (let other : x ≢ k = omega arith in other)) ∙ sym (count_not p n (ap p (sym here) ∙ fails)))
  | inr less ↦
      let other : x ≢ n = omega arith in
      let at_n : ◌≡◌ {A = ℕ} (cond (p n || (x == n)) 1 0) (cond (p n) 1 0) = ap (λ (b : Bool). cond {A = ℕ} b 1 0) (or_other (p n) x n other) in
      omega (arith, count_suc (λ m. p m || (x == m)) n, count_suc p n, count_with p x n less fails, at_n)
]

-- ---- a list read by the first numbers

count_front : {X : Type 0} (f : X → Bool) (xs : List X) (d : X) (i : ℕ) → i ≤ length xs → count_by (λ k. f (get_or xs k d)) (range_with_len 0 i) ≡ count_by f (take i xs)
count_front f xs d zero within = refl
count_front f xs d (suc i) within =
    count_suc (λ k. f (get_or xs k d)) i
    ∙ ap (λ (c : ℕ). c + cond (f (get_or xs i d)) 1 0) (count_front f xs d i (omega arith))
    ∙ sym (sum_by_more (λ x. cond (f x) 1 0) xs i d (omega arith))
    ∙ ap (λ (m : ℕ). count_by f (take m xs)) (add-one i)

pub count_places : {X : Type 0} (f : X → Bool) (xs : List X) (d : X) (n : ℕ) → length xs ≡ n → count_by (λ k. f (get_or xs k d)) (range_with_len 0 n) ≡ count_by f xs
count_places f xs d n size =
    count_front f xs d n (omega (arith, size)) ∙ ap (count_by f) (take_all n xs (omega (arith, size)))

-- ---- the numbers that pass

pub filter_suc : (p : ℕ → Bool) (n : ℕ) → filter p (range_with_len 0 (suc n)) ≡ filter p (range_with_len 0 n) ++ cond (p n) (n ∷ []) []
filter_suc p n = ap (filter p) (range_suc n) ∙ filter-append p (range_with_len 0 n) (n ∷ [])

get_left : (xs ys : List ℕ) (k x : ℕ) → slice_get xs k ≡ Some x → slice_get (xs ++ ys) k ≡ Some x
get_left [] ys k x there = absurd cc
get_left (y ∷ xs) ys zero x there = there
get_left (y ∷ xs) ys (suc k) x there = get_left xs ys k x there

get_behind : (xs : List ℕ) (y k : ℕ) → length xs ≡ k → slice_get (xs ++ y ∷ []) k ≡ Some y
get_behind [] y zero size = refl
get_behind [] y (suc k) size = absurd (omega arith)
get_behind (x ∷ xs) y zero size = absurd (omega arith)
get_behind (x ∷ xs) y (suc k) size = get_behind xs y k (omega arith)

-- A number that passes stands behind the earlier ones that do.
pub filter_at : (p : ℕ → Bool) (n d : ℕ) → d < n → p d ≡ true → slice_get (filter p (range_with_len 0 n)) (count_by p (range_with_len 0 d)) ≡ Some d
filter_at p zero d below passes = absurd (omega arith)
filter_at p (suc n) d below passes = elim (eq-or-lt_of_le (let le : d ≤ n = omega arith in le)) [
  | inl here ↦
      ap (λ (xs : List ℕ). slice_get xs (count_by p (range_with_len 0 d))) (filter_suc p n)
      ∙ ap (λ (b : Bool). slice_get (filter p (range_with_len 0 n) ++ cond b (n ∷ []) []) (count_by p (range_with_len 0 d))) (ap p (sym here) ∙ passes)
      ∙ get_behind (filter p (range_with_len 0 n)) n (count_by p (range_with_len 0 d)) (length-filter p (range_with_len 0 n) ∙ ap (λ (k : ℕ). count_by p (range_with_len 0 k)) (sym here))
      ∙ ap (λ (k : ℕ). Some k) (sym here)
  | inr less ↦
      ap (λ (xs : List ℕ). slice_get xs (count_by p (range_with_len 0 d))) (filter_suc p n)
      ∙ get_left (filter p (range_with_len 0 n)) (cond (p n) (n ∷ []) []) (count_by p (range_with_len 0 d)) d (filter_at p n d less passes)
]

module _ (p : ℕ → Bool) (n : ℕ) (xs : List ℕ) (at : (d : ℕ) → d < n → p d ≡ true → slice_get xs (count_by p (range_with_len 0 d)) ≡ Some d) where
  filter_front : (i : ℕ) → i ≤ n → take (count_by p (range_with_len 0 i)) xs ≡ filter p (range_with_len 0 i)
  filter_front zero within = refl
  filter_front (suc i) within = elim (cases_Bool (p i)) [
    | inl passes ↦
        let here = at i (omega arith) passes in
        ap (λ (k : ℕ). take k xs) (count_at p i passes)
        ∙ take_more xs (count_by p (range_with_len 0 i)) 0 (slice_get_within xs (count_by p (range_with_len 0 i)) i here)
        ∙ ap (λ (ys : List ℕ). ys ++ get_or xs (count_by p (range_with_len 0 i)) 0 ∷ []) (filter_front i (omega arith))
        ∙ ap (λ (d : ℕ). filter p (range_with_len 0 i) ++ d ∷ []) (get_or_from_slice_get xs (count_by p (range_with_len 0 i)) i 0 here)
        ∙ sym (filter_suc p i ∙ ap (λ (b : Bool). filter p (range_with_len 0 i) ++ cond b (i ∷ []) []) passes)
    | inr fails ↦
        ap (λ (k : ℕ). take k xs) (count_not p i fails)
        ∙ filter_front i (omega arith)
        ∙ sym (filter_suc p i ∙ ap (λ (b : Bool). filter p (range_with_len 0 i) ++ cond b (i ∷ []) []) fails ∙ append-nil (filter p (range_with_len 0 i)))
  ]

  -- and a list in which they stand so, and no more, is all that pass
  pub filter_from : length xs ≡ count_by p (range_with_len 0 n) → xs ≡ filter p (range_with_len 0 n)
  filter_from size = sym (take_all (count_by p (range_with_len 0 n)) xs (omega (arith, size))) ∙ filter_front n (omega arith)

-- ---- what stands in a list

pub has_more : (numbers : List ℕ) (i n : ℕ) → i < length numbers → has (take (i + 1) numbers) n ≡ (has (take i numbers) n || (get_or numbers i 0 == n))
has_more numbers i n below = list_any_more (λ m. m == n) numbers i 0 below

pub has_at : (numbers : List ℕ) (n : ℕ) → has numbers n ≡ true → Contains numbers n
has_at [] n there = absurd cc
has_at (m ∷ numbers) n there = elim (or_cases (m == n) (has numbers n) there) [
  | inl here ↦ (0, omega arith, eqb-true m n here)
  | inr later ↦ let at = has_at numbers n later in (suc at.0, omega (arith, at.1), at.2)
]

pub has_from : (numbers : List ℕ) (i n : ℕ) → i < length numbers → get_or numbers i 0 ≡ n → has numbers n ≡ true
has_from numbers i n below is = list_any_at (λ m. m == n) numbers i 0 below (eq-eqb (get_or numbers i 0) n is)

-- what holds of all that stand in it, and of each
pub has_all : (P : ℕ → Type 0) (numbers : List ℕ) → All P numbers → (n : ℕ) → has numbers n ≡ true → P n
has_all P numbers each n there = All-contains P numbers n each (has_at numbers n there)

pub all_has : (P : ℕ → Type 0) (numbers : List ℕ) → ((n : ℕ) → has numbers n ≡ true → P n) → All P numbers
all_has P numbers each = All-from_get_or P numbers 0 (λ i below. each (get_or numbers i 0) (has_from numbers i (get_or numbers i 0) below refl))

pub any_alike : (p q : ℕ → Bool) (numbers : List ℕ) → All (λ n. p n ≡ q n) numbers → list_any p numbers ≡ list_any q numbers
any_alike p q [] same = refl
any_alike p q (n ∷ numbers) same =
    ap (λ (b : Bool). b || list_any p numbers) (All-head (λ m. p m ≡ q m) n numbers same)
    ∙ ap (λ (b : Bool). q n || b) (any_alike p q numbers (All-tail (λ m. p m ≡ q m) n numbers same))

any_never : (numbers : List ℕ) → list_any (λ n. false) numbers ≡ false
any_never [] = refl
any_never (n ∷ numbers) = any_never numbers

or_four : (a b c d : Bool) → ((a || b) || (c || d)) ≡ ((a || c) || (b || d))
or_four true b c d = refl
or_four false true true d = refl
or_four false true false d = refl
or_four false false c d = refl

any_either : (p q : ℕ → Bool) (numbers : List ℕ) → list_any (λ n. p n || q n) numbers ≡ (list_any p numbers || list_any q numbers)
any_either p q [] = refl
any_either p q (n ∷ numbers) =
    ap (λ (b : Bool). (p n || q n) || b) (any_either p q numbers) ∙ or_four (p n) (q n) (list_any p numbers) (list_any q numbers)

same_sym : (m n : ℕ) → (m == n) ≡ (n == m)
same_sym m n = elim (cases_eq m n) [
  | inl here ↦ eq-eqb m n here ∙ sym (eq-eqb n m (sym here))
  | inr other ↦ ne_eqb m n other ∙ sym (ne_eqb n m (λ e. other (sym e)))
]

-- some number of the one list stands in the other
pub has_swap : (xs ys : List ℕ) → list_any (has xs) ys ≡ list_any (has ys) xs
has_swap xs [] = sym (any_never xs)
has_swap xs (y ∷ ys) =
    ap (λ (b : Bool). b || list_any (has xs) ys) (any_alike (λ m. m == y) (λ m. y == m) xs (λ k d below. same_sym (get_or xs k d) y))
    ∙ ap (λ (b : Bool). list_any (λ m. y == m) xs || b) (has_swap xs ys)
    ∙ sym (any_either (λ m. y == m) (has ys) xs)

-- ---- lists without repeats

pub rises : (xs : List ℕ) → IsStrictlyIncreasing xs → (j k : ℕ) → j < k → k < length xs → get_or xs j 0 < get_or xs k 0
rises xs up j zero before below = absurd (omega arith)
rises xs up j (suc k) before below =
    let step : get_or xs k 0 < get_or xs (suc k) 0 = subst (λ (m : ℕ). get_or xs k 0 < get_or xs m 0) (add-one k) (up k (omega arith)) in
    elim (eq-or-lt_of_le (let le : j ≤ k = omega arith in le)) [
      | inl here ↦ subst (λ (m : ℕ). get_or xs m 0 < get_or xs (suc k) 0) (sym here) step
      | inr less ↦ omega (arith, rises xs up j k less (omega arith), step)
    ]

pub ascending_once : (xs : List ℕ) → IsStrictlyIncreasing xs → StandOnce xs
ascending_once xs up k below =
    list_any_none (λ m. m == get_or xs k 0) (take k xs)
    (All-from_get_or (λ m. (m == get_or xs k 0) ≡ false) (take k xs) 0 (λ j in_front.
    let before : j < k = omega (arith, length-take-le k xs (omega arith)) in
    let other : get_or xs j 0 ≢ get_or xs k 0 = omega (arith, rises xs up j k before below) in
    rw (get_or-take k xs j 0 before) (ne_eqb (get_or xs j 0) (get_or xs k 0) other)))

count_never : (n : ℕ) → count_by (λ (k : ℕ). false) (range_with_len 0 n) ≡ 0
count_never zero = refl
count_never (suc n) = count_not (λ (k : ℕ). false) n refl ∙ count_never n

module _ (xs : List ℕ) (n : ℕ) (once : StandOnce xs) (within : All (λ x. x < n) xs) where
  once_front : (i : ℕ) → i ≤ length xs → count_by (has (take i xs)) (range_with_len 0 n) ≡ i
  once_front zero front = count_never n
  once_front (suc i) front =
      let below : i < length xs = omega arith in
      ap (λ (k : ℕ). count_by (has (take k xs)) (range_with_len 0 n)) (sym (add-one i))
      ∙ count_alike (has (take (i + 1) xs)) (λ m. has (take i xs) m || (get_or xs i 0 == m)) n (λ m less. has_more xs i m below)
      ∙ count_with (has (take i xs)) (get_or xs i 0) n (within i 0 below) (once i below)
      ∙ ap (λ (c : ℕ). c + 1) (once_front i (omega arith))
      ∙ add-one i

  -- a list without repeats of the first numbers is as long as so many of them stand in it
  pub once_count : count_by (has xs) (range_with_len 0 n) ≡ length xs
  once_count = ap (λ (ys : List ℕ). count_by (has ys) (range_with_len 0 n)) (sym (take_all (length xs) xs (omega arith))) ∙ once_front (length xs) (omega arith)
