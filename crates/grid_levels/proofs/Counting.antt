-- Lists without repeats that are told apart by tests, counted.
use Rattle.std.proofs.Common.{◌≡◌, ◌≢◌, ◌∙◌, ◌+◌, ℕ, suc, List, [], ◌∷◌, Bool, true, false, cond, length, ap, sym, refl, arith, subst}
use Rattle.std.specs.Prelude.{◌&&◌, ◌||◌, All, AllPairs, Any, Contains}
use Rattle.std.specs.Bool.{Decides}
use Rattle.std.specs.Cmp.{IsEquivalence}
use Rattle.std.specs.Set.{is_member}
use Rattle.std.specs.List.{count_by, sum_by, filter, list_any}
use Rattle.std.proofs.lemmas.Bool.Decides.{same_from_decides, Decides-and, Decides-like}
use Rattle.std.proofs.lemmas.List.Elements.{All-nil, All-cons, All-head, All-tail}
use Rattle.std.proofs.lemmas.List.Folds.{Any-from_list_any}
use Rattle.std.proofs.lemmas.List.Kept.{AllPairs-filter}
use Rattle.std.proofs.lemmas.List.Sums.{length-filter, count_by-le-length, sum_by-cons}
use Rattle.std.proofs.lemmas.Map.Made.{length-from_same_keys, is_member-filter, is_member-Decides, IsDistinct-from_AllPairs}

-- a test that decides whether two values are the same is an equivalence
pub equivalence : {X : Type 0} {eq : X → X → Bool} → ((a b : X) → Decides (eq a b) (a ≡ b)) → IsEquivalence eq
equivalence {X} {eq} same = record {
  refl = λ x. (same x x).1 refl;
  symm = λ x y. same_from_decides (eq x y) (eq y x) (same x y) (Decides-like (eq y x) sym sym (same y x));
  congr = λ x y z h. ap (λ w. eq w z) ((same x y).0 h);
}

-- as many values of a list without repeats pass a test as there are in the list of all that pass it
pub count-from_list : {X : Type 0} {eq : X → X → Bool} (same : (a b : X) → Decides (eq a b) (a ≡ b)) (p : X → Bool) (xs ys : List X) →
    AllPairs (λ x y. x ≢ y) xs → AllPairs (λ x y. x ≢ y) ys → ((x : X) → Decides (p x) (Contains ys x)) → ((x : X) → Contains ys x → Contains xs x) →
    count_by p xs ≡ length ys
count-from_list {X} {eq} same p xs ys once_xs once_ys tells within =
    let laws : IsEquivalence eq = equivalence same in
    sym (length-filter p xs)
    ∙ length-from_same_keys laws (filter p xs) ys
    (IsDistinct-from_AllPairs same (filter p xs) (AllPairs-filter (λ x y. x ≢ y) p xs once_xs))
    (IsDistinct-from_AllPairs same ys once_ys)
    (λ q.
    is_member-filter laws p q (λ x h. ap p ((same q x).0 h)) xs
    ∙ same_from_decides (is_member eq xs q && p q) (is_member eq ys q)
    (Decides-like (is_member eq xs q && p q) (λ h. h.1) (λ h. (within q h, h))
    (Decides-and (is_member eq xs q) (p q) (is_member-Decides same xs q) (tells q)))
    (is_member-Decides same ys q))

one_of_two : (a b : Bool) → (a ≡ true → b ≡ true → ⊥) → cond (a || b) 1 0 ≡ cond a 1 0 + cond b 1 0
one_of_two true true apart = absurd (apart refl refl)
one_of_two true false apart = refl
one_of_two false true apart = refl
one_of_two false false apart = refl

-- what passes one of two tests, where nothing passes both
count_of_two : {X : Type 0} (a b : X → Bool) → ((x : X) → a x ≡ true → b x ≡ true → ⊥) → (xs : List X) →
    count_by (λ x. a x || b x) xs ≡ count_by a xs + count_by b xs
count_of_two a b apart [] = refl
count_of_two a b apart (x ∷ xs) =
    sum_by-cons (λ y. cond (a y || b y) 1 0) x xs
    ∙ omega (arith, sum_by-cons (λ y. cond (a y) 1 0) x xs, sum_by-cons (λ y. cond (b y) 1 0) x xs, one_of_two (a x) (b x) (apart x), count_of_two a b apart xs)

count_of_none : {X : Type 0} (xs : List X) → count_by (λ x. false) xs ≡ 0
count_of_none [] = refl
count_of_none (x ∷ xs) =
    let first = sum_by-cons (λ y. cond {A = ℕ} false 1 0) x xs in
    omega (arith, first, count_of_none xs)

-- what passes one of several tests, where nothing passes two
pub count_of_some : {S X : Type 0} (p : S → X → Bool) (ss : List S) (xs : List X) → AllPairs (λ s t. (x : X) → p s x ≡ true → p t x ≡ true → ⊥) ss →
    count_by (λ x. list_any (λ s. p s x) ss) xs ≡ sum_by (λ s. count_by (p s) xs) ss
count_of_some p [] xs apart = count_of_none xs
count_of_some p (s ∷ ss) xs apart =
    count_of_two (p s) (λ x. list_any (λ t. p t x) ss) (λ x here there. by_place x here (Any-from_list_any (λ t. p t x) ss there)) xs
    ∙ ap (λ n. count_by (p s) xs + n) (count_of_some p ss xs (λ i j d before below. apart (suc i) (suc j) d (omega arith) (omega arith)))
    ∙ sym (sum_by-cons (λ t. count_by (p t) xs) s ss)
  where
    by_place : (x : _) → p s x ≡ true → Any (λ t. p t x ≡ true) ss → ⊥
    by_place x here there = apart 0 (suc there.0) there.1 (omega arith) (omega (arith, there.2)) x here (subst (λ t. p t x ≡ true) (sym there.3) there.4)

-- one more value, by what the test says of it
more_by_test : {X : Type 0} (p : X → Bool) (x : X) (xs : List X) (b : Bool) → p x ≡ b → count_by p (x ∷ xs) ≡ cond b 1 0 + count_by p xs
more_by_test p x xs b is = sum_by-cons (λ y. cond (p y) 1 0) x xs ∙ ap (λ (t : Bool). cond t 1 0 + count_by p xs) is

-- a test passes as often as there are values exactly where each passes
pub all_from_count : {X : Type 0} (p : X → Bool) (xs : List X) → count_by p xs ≡ length xs → All (λ x. p x ≡ true) xs
all_from_count p [] full = All-nil (λ x. p x ≡ true)
all_from_count {X} p (x ∷ xs) full = by_test (p x) refl (all_from_count p xs)
  where
    by_test : (b : Bool) → p x ≡ b → (count_by p xs ≡ length xs → All (λ y. p y ≡ true) xs) → All (λ y. p y ≡ true) (x ∷ xs)
    by_test true passes rest = All-cons (λ y. p y ≡ true) x xs passes (rest (let more = more_by_test p x xs true passes in omega (arith, more, full)))
    by_test false fails rest = absurd (let more = more_by_test p x xs false fails in omega (arith, more, full, count_by-le-length p xs))

pub count_from_all : {X : Type 0} (p : X → Bool) (xs : List X) → All (λ x. p x ≡ true) xs → count_by p xs ≡ length xs
count_from_all p [] each = refl
count_from_all p (x ∷ xs) each =
    let more = more_by_test p x xs true (All-head (λ y. p y ≡ true) x xs each) in
    omega (arith, more, count_from_all p xs (All-tail (λ y. p y ≡ true) x xs each))
