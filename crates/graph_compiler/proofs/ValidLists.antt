-- Lists by place: numbers from 0 up, the places of what passes a test, and counts of what stands once.
use Rattle.std.proofs.Common.{◌≡◌, ◌∙◌, ◌<◌, ◌≤◌, ◌+◌, ℕ, zero, suc, List, [], ◌∷◌, ◌++◌, Bool, true, false, cond, Option, Some, length, get_or, ap, sym, refl, arith}
use Rattle.std.specs.Prelude.{slice_get, ◌==◌, ◌&&◌, ◌||◌, All}
use Rattle.std.specs.List.{count_by, list_any, range_with_len}
use Rattle.std.specs.List.Sorted.{IsStrictlyIncreasing}
use Rattle.std.specs.Option.{option_map_or}
use Rattle.std.proofs.lemmas.Bool.{eqb-true, eq-eqb, false_from_ne_true}
use Rattle.std.proofs.lemmas.List.Elements.{All-filter}
use Rattle.std.proofs.lemmas.List.Kept.{IsStrictlyIncreasing-filter}
use Rattle.std.proofs.lemmas.List.Sums.{sum_by-cons, length-filter}
use Rattle.std.proofs.lemmas.Map.Views.{any-filter_same}
use Rattle.std.proofs.lemmas.Option.{slice_get_within, get_or_from_slice_get}
use Rattle.uts_geom.specs.Spans.{counted}
use Rattle.uts_geom.specs.Counting.{counted-at, length-counted}
use Rattle.uts_geom.specs.Lists.{any_at}
use Rattle.graph_types.specs.Graph.{IsSlotList, has}
use Rattle.graph_compiler.specs.Plan.{places_of}

-- The numbers from a first one up, from the other end.
range-more : (low n : ℕ) → range_with_len low (suc n) ≡ range_with_len low n ++ (low + n) ∷ []
range-more low zero = ap (λ (k : ℕ). k ∷ []) (let e : low ≡ low + 0 = omega arith in e)
range-more low (suc n) =
    ap (λ (xs : List ℕ). low ∷ xs) (range-more (low + 1) n
    ∙ ap (λ (k : ℕ). range_with_len (low + 1) n ++ k ∷ []) (let e : low + 1 + n ≡ low + suc n = omega arith in e))

pub same_numbers : (low n : ℕ) → counted low n ≡ range_with_len low n
same_numbers low zero = refl
same_numbers low (suc n) = ap (λ (xs : List ℕ). xs ++ (low + n) ∷ []) (same_numbers low n) ∙ sym (range-more low n)

pub every : {X : Type 0} (P : X → Type 0) (xs : List X) → ((x : X) → P x) → All P xs
every P xs holds = λ k d below. holds (get_or xs k d)

-- Counts by place.
pub count-range : {D : Type 0} (h : ℕ → Bool) (q : D → Bool) (ds : List D) (low : ℕ) → ((k : ℕ) (d : D) → slice_get ds k ≡ Some d → h (low + k) ≡ q d) →
    count_by h (range_with_len low (length ds)) ≡ count_by q ds
count-range h q [] low same = refl
count-range h q (d ∷ ds) low same =
    let here : cond {A = ℕ} (h low) 1 0 ≡ cond (q d) 1 0 = ap (λ (b : Bool). cond b 1 0) (ap h (let e : low ≡ low + 0 = omega arith in e) ∙ same 0 d refl) in
    omega (
      arith,
      sum_by-cons (λ k. cond (h k) 1 0) low (range_with_len (low + 1) (length ds)),
      sum_by-cons (λ e. cond (q e) 1 0) d ds,
      here,
      count-range h q ds (low + 1) (λ k e at. ap h (let s : low + 1 + k ≡ low + suc k = omega arith in s) ∙ same (suc k) e at),
    )

pub count-none : {X : Type 0} (p : X → Bool) (xs : List X) → ((k : ℕ) (x : X) → slice_get xs k ≡ Some x → p x ≡ false) → count_by p xs ≡ 0
count-none p [] none = refl
count-none p (x ∷ xs) none =
    let here : cond {A = ℕ} (p x) 1 0 ≡ 0 = ap (λ (b : Bool). cond b 1 0) (none 0 x refl) in
    omega (arith, sum_by-cons (λ y. cond (p y) 1 0) x xs, here, count-none p xs (λ k y at. none (suc k) y at))

-- one value passes, and no other
pub count-one : {X : Type 0} (p : X → Bool) (xs : List X) (k : ℕ) (x : X) → slice_get xs k ≡ Some x → p x ≡ true →
    ((j : ℕ) (y : X) → slice_get xs j ≡ Some y → p y ≡ true → j ≡ k) → count_by p xs ≡ 1
count-one p [] k x at passes only = absurd cc
count-one p (y ∷ ys) zero x at passes only =
    let same : y ≡ x = cc in
    let here : cond {A = ℕ} (p y) 1 0 ≡ 1 = ap (λ (b : Bool). cond b 1 0) (ap p same ∙ passes) in
    let rest = count-none p ys (λ j z there. false_from_ne_true (p z) (λ also. absurd (let e = only (suc j) z there also in omega (arith, e)))) in
    omega (arith, sum_by-cons (λ z. cond (p z) 1 0) y ys, here, rest)
count-one p (y ∷ ys) (suc k) x at passes only =
    let here : cond {A = ℕ} (p y) 1 0 ≡ 0 =
    ap (λ (b : Bool). cond b 1 0) (false_from_ne_true (p y) (λ is. let e = only 0 y refl is in absurd (omega (arith, e)))) in
    let rest = count-one p ys k x at passes (λ j z there also. let e = only (suc j) z there also in omega (arith, e)) in
    omega (arith, sum_by-cons (λ z. cond (p z) 1 0) y ys, here, rest)

pub count-some : {X : Type 0} (p : X → Bool) (xs : List X) → list_any p xs ≡ true → 1 ≤ count_by p xs
count-some p [] some = absurd cc
count-some {X} p (x ∷ xs) some = by_test (p x) some (sum_by-cons (λ y. cond (p y) 1 0) x xs) (count-some p xs)
  where
    by_test : (b : Bool) → (b || list_any p xs) ≡ true → count_by p (x ∷ xs) ≡ cond b 1 0 + count_by p xs → (list_any p xs ≡ true → 1 ≤ count_by p xs) → 1 ≤ count_by p (x ∷ xs)
    by_test true some more rest = omega (arith, more)
    by_test false some more rest = omega (arith, more, rest some)

-- The numbers below one ascend.
counted_is : (n k d : ℕ) → k < n → get_or (counted 0 n) k d ≡ k
counted_is n k d below = get_or_from_slice_get (counted 0 n) k k d (counted-at n k below)

pub counted-rises : (n : ℕ) → IsStrictlyIncreasing (counted 0 n)
counted-rises n k within =
    let next : k + 1 < n = omega (arith, length-counted 0 n) in
    omega (arith, counted_is n k 0 (omega arith), counted_is n (k + 1) 0 next)

pub counted-below : (n : ℕ) → All (λ k. k < n) (counted 0 n)
counted-below n k d within = let below : k < n = omega (arith, length-counted 0 n) in omega (arith, counted_is n k d below)

-- The places of what passes a test.
module _ {A : Type 0} (test : A → Bool) (items : List A) where
  abbrev passes : ℕ → Bool
  passes place = option_map_or test (slice_get items place) false

  passes_at : (k : ℕ) (x : A) → slice_get items k ≡ Some x → passes k ≡ test x
  passes_at k x at = ap (λ (o : Option A). option_map_or test o false) at

  pub length-places : length (places_of test items) ≡ count_by test items
  length-places =
      length-filter passes (counted 0 (length items))
      ∙ ap (count_by passes) (same_numbers 0 (length items))
      ∙ count-range passes test items 0 (λ k x at. ap passes (let e : 0 + k ≡ k = omega arith in e) ∙ passes_at k x at)

  and_true : (b : Bool) → (b && true) ≡ b
  and_true true = refl
  and_true false = refl

  pub has-places : (slot : ℕ) (x : A) → slice_get items slot ≡ Some x → has (places_of test items) slot ≡ test x
  has-places slot x at =
      any-filter_same (λ m. m == slot) passes (passes slot) (λ k same. ap passes (eqb-true k slot same)) (counted 0 (length items))
      ∙ ap (λ (b : Bool). passes slot && b) (any_at (λ m. m == slot) (counted 0 (length items)) slot slot (counted-at (length items) slot (slice_get_within items slot x at)) (eq-eqb slot slot refl))
      ∙ and_true (passes slot)
      ∙ passes_at slot x at

  pub are_places : IsSlotList (length items) (places_of test items)
  are_places = record {
    ascending = IsStrictlyIncreasing-filter passes (counted 0 (length items)) (counted-rises (length items));
    below = All-filter passes (λ slot. slot < length items) (counted 0 (length items)) (counted-below (length items));
  }
