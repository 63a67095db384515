-- What stands in lists: through filters and joins, in a part, and last of what passes a test.
use Rattle.std.proofs.Common.{◌≡◌, ◌∙◌, ◌<◌, ℕ, zero, suc, List, [], ◌∷◌, Bool, true, false, cond, Some, map, filter, ap, sym, refl, arith, subst}
use Rattle.std.specs.Prelude.{slice_get, Contains, ◌||◌, find}
use Rattle.std.specs.List.{flat_map, list_any}
use Rattle.std.specs.Option.{is_some, option_map}
use Rattle.std.proofs.lemmas.Bool.{false_from_ne_true}
use Rattle.std.proofs.lemmas.List.Elements.{Contains-append_left, Contains-append_right}
use Rattle.std.proofs.lemmas.Option.{slice_get-map}
use Rattle.uts_geom.specs.Spans.{counted}
use Rattle.uts_geom.specs.Counting.{counted-at}
use Rattle.uts_geom.specs.Lists.{any_at, at_place, contains_at, place_in}

pub in_counted : (n k : ℕ) → k < n → Contains (counted 0 n) k
in_counted n k below = contains_at (counted 0 n) k k (counted-at n k below)

pub in_joined : {X A : Type 0} (g : X → List A) (xs : List X) (k : ℕ) (x : X) (a : A) → slice_get xs k ≡ Some x → Contains (g x) a → Contains (flat_map g xs) a
in_joined g [] k x a at there = absurd cc
in_joined {X} {A} g (y ∷ ys) zero x a at there =
    let same : x ≡ y = cc in Contains-append_left (g y) (flat_map g ys) a (subst (λ (z : X). Contains (g z) a) same there)
in_joined g (y ∷ ys) (suc k) x a at there = Contains-append_right (g y) (flat_map g ys) a (in_joined g ys k x a at there)

-- what stands in the list of a value that stands in a list
pub in_flat_map : {X A : Type 0} (g : X → List A) (xs : List X) (x : X) (a : A) → Contains xs x → Contains (g x) a → Contains (flat_map g xs) a
in_flat_map g xs x a x_there there = let at = place_in xs x x_there in in_joined g xs at.0 x a at.1 there

pub in_map : {X A : Type 0} (f : X → A) (xs : List X) (x : X) → Contains xs x → Contains (map f xs) (f x)
in_map f xs x there = let at = place_in xs x there in contains_at (map f xs) at.0 (f x) (slice_get-map f xs at.0 ∙ ap (option_map f) at.1)

kept_at : {A : Type 0} (test : A → Bool) (xs : List A) (k : ℕ) (x : A) → slice_get xs k ≡ Some x → test x ≡ true → Contains (filter test xs) x
kept_at test [] k x at passes = absurd cc
kept_at {A} test (y ∷ ys) zero x at passes =
    let same : y ≡ x = cc in
    subst (λ (b : Bool). Contains (cond b (y ∷ filter test ys) (filter test ys)) x) (sym (ap test same ∙ passes)) (contains_at (y ∷ filter test ys) 0 x (ap Some same))
kept_at {A} test (y ∷ ys) (suc k) x at passes = by_test (test y) (kept_at test ys k x at passes)
  where
    by_test : (b : Bool) → Contains (filter test ys) x → Contains (cond b (y ∷ filter test ys) (filter test ys)) x
    by_test true rest = Contains-append_right (y ∷ []) (filter test ys) x rest
    by_test false rest = rest

-- what passes stays in a filtered list
pub in_filter : {A : Type 0} (test : A → Bool) (xs : List A) (x : A) → Contains xs x → test x ≡ true → Contains (filter test xs) x
in_filter test xs x there passes = let at = place_in xs x there in kept_at test xs at.0 x at.1 passes

-- ---- tests

-- one that stands in the list passes
pub any_in : {A : Type 0} (test : A → Bool) (xs : List A) (x : A) → Contains xs x → test x ≡ true → list_any test xs ≡ true
any_in test xs x there passes = let at = place_in xs x there in any_at test xs at.0 x at.1 passes

-- what passes a test at its place in a list
pub record Passes {A : Type 0} (test : A → Bool) (xs : List A) : Type 0 where
  pub place : ℕ
  pub item : A
  pub at : slice_get xs place ≡ Some item
  pub passes : test item ≡ true

pub passing : {A : Type 0} (test : A → Bool) (xs : List A) → list_any test xs ≡ true → Passes test xs
passing test xs some =
    let there = at_place test xs some in record { place = there.0; item = there.1; at = there.2; passes = there.3 }

-- something is found exactly where something passes
pub is_some-find : {A : Type 0} (test : A → Bool) (xs : List A) → is_some (find test xs) ≡ list_any test xs
is_some-find test [] = refl
is_some-find {A} test (x ∷ xs) = by_test (test x) (is_some-find test xs)
  where
    by_test : (b : Bool) → is_some (find test xs) ≡ list_any test xs → is_some (cond b (Some x) (find test xs)) ≡ (b || list_any test xs)
    by_test true rest = refl
    by_test false rest = rest
