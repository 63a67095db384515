-- What stands at the places of lists, of what a filter keeps, and what `find` finds.
use Rattle.std.proofs.Common.{◌≡◌, ◌∙◌, ℕ, zero, suc, ◌+◌, ◌<◌, Bool, true, false, cond, List, [], ◌∷◌, length, map, Some, refl, sym, ap, subst, arith}
use Rattle.std.specs.Prelude.{All, Contains, slice_get}
use Rattle.std.specs.List.{filter, find, flat_map}
use Rattle.std.proofs.lemmas.List.{length-append}
use Rattle.std.proofs.lemmas.List.Elements.{All-nil, All-append, All-contains_itself, All-filter, All-head, All-tail, filter_passes}
use Rattle.std.proofs.lemmas.Option.{get_or_from_slice_get, slice_get-get_or, slice_get_within}
use Rattle.uts_geom.specs.Spans.{counted}

pub length-counted : (low n : ℕ) → length (counted low n) ≡ n
length-counted low zero = refl
length-counted low (suc n) = let e : length (counted low n) ≡ n = length-counted low n in omega (arith, length-append (counted low n) ((low + n) ∷ []), e)

-- what stands at a place, inside the list
pub there_at : {A : Type 0} (xs : List A) (k : ℕ) → k < length xs → (x : A) × (slice_get xs k ≡ Some x)
there_at [] k below = absurd (omega arith)
there_at (x ∷ xs) zero below = (x, refl)
there_at (x ∷ xs) (suc k) below = there_at xs k (omega arith)

pub holds_at : {A : Type 0} (P : A → Type 0) (xs : List A) (k : ℕ) (x : A) → All P xs → slice_get xs k ≡ Some x → P x
holds_at P xs k x all is = subst P (get_or_from_slice_get xs k x x is) (all k x (slice_get_within xs k x is))

pub contains_at : {A : Type 0} (xs : List A) (k : ℕ) (x : A) → slice_get xs k ≡ Some x → Contains xs x
contains_at xs k x is = (k, slice_get_within xs k x is, get_or_from_slice_get xs k x x is)

pub place_of : {A : Type 0} (xs : List A) (x : A) → Contains xs x → (k : ℕ) × (slice_get xs k ≡ Some x)
place_of xs x has = (has.0, slice_get-get_or xs has.0 x has.1 ∙ ap (λ y. Some y) has.2)

-- what a filter keeps stood in the list, and passes
pub kept : {A : Type 0} (p : A → Bool) (xs : List A) (k : ℕ) (x : A) → slice_get (filter p xs) k ≡ Some x → Contains xs x × (p x ≡ true)
kept p xs k x is = (
  holds_at (Contains xs) (filter p xs) k x (All-filter p (Contains xs) xs (All-contains_itself xs)) is,
  holds_at (λ y. p y ≡ true) (filter p xs) k x (filter_passes p xs) is,
)

module _ {A : Type 0} (p : A → Bool) where
  -- what passes is kept
  pub keeps : (xs : List A) (k : ℕ) (x : A) → slice_get xs k ≡ Some x → p x ≡ true → (j : ℕ) × (slice_get (filter p xs) j ≡ Some x)
  keeps [] k x is passes = absurd (cc)
  keeps (y ∷ ys) zero x is passes =
      (0, subst (λ (b : Bool). slice_get (cond b (y ∷ filter p ys) (filter p ys)) 0 ≡ Some x) (sym (let same : y ≡ x = cc in ap p same ∙ passes)) is)
  keeps (y ∷ ys) (suc k) x is passes = beside (p y) (keeps ys k x is passes)
    where
      beside : (b : Bool) → (j : ℕ) × (slice_get (filter p ys) j ≡ Some x) → (j : ℕ) × (slice_get (cond b (y ∷ filter p ys) (filter p ys)) j ≡ Some x)
      beside true found = (suc found.0, found.1)
      beside false found = found

  -- what passes at a place makes that something is found
  pub finds : (xs : List A) (k : ℕ) (x : A) → slice_get xs k ≡ Some x → p x ≡ true → (y : A) × (find p xs ≡ Some y)
  finds [] k x is passes = absurd (cc)
  finds (y ∷ ys) zero x is passes =
      (y, subst (λ (b : Bool). cond b (Some y) (find p ys) ≡ Some y) (sym (let same : y ≡ x = cc in ap p same ∙ passes)) refl)
  finds (y ∷ ys) (suc k) x is passes = beside (p y) (finds ys k x is passes)
    where
      beside : (b : Bool) → (z : A) × (find p ys ≡ Some z) → (z : A) × (cond b (Some y) (find p ys) ≡ Some z)
      beside true found = (y, refl)
      beside false found = found

  -- what is found stands at some place, and passes
  pub found : (xs : List A) (x : A) → find p xs ≡ Some x → (k : ℕ) × (slice_get xs k ≡ Some x) × (p x ≡ true)
  found [] x is = absurd (cc)
  found (y ∷ ys) x is = by_test (p y) refl is (found ys x)
    where
      by_test : (b : Bool) → p y ≡ b → cond b (Some y) (find p ys) ≡ Some x → (find p ys ≡ Some x → (k : ℕ) × (slice_get ys k ≡ Some x) × (p x ≡ true))
          → (k : ℕ) × (slice_get (y ∷ ys) k ≡ Some x) × (p x ≡ true)
      by_test true passes is later = (0, is, (let same : x ≡ y = cc in ap p same ∙ passes))
      by_test false fails is later = let rest = later is in (suc rest.0, rest.1, rest.2)

-- what holds of each piece holds of what they make together
pub all_pieces : {X A : Type 0} (P : A → Type 0) (f : X → List A) (xs : List X) → All (λ x. All P (f x)) xs → All P (flat_map f xs)
all_pieces P f [] each = All-nil P
all_pieces P f (x ∷ xs) each =
    All-append P (f x) (flat_map f xs) (All-head (λ x. All P (f x)) x xs each) (all_pieces P f xs (All-tail (λ x. All P (f x)) x xs each))

pub same_maps : {X A : Type 0} (f g : X → A) (xs : List X) → All (λ x. f x ≡ g x) xs → map f xs ≡ map g xs
same_maps f g [] each = refl
same_maps f g (x ∷ xs) each =
    ap (λ (a : _). a ∷ map f xs) (All-head (λ x. f x ≡ g x) x xs each) ∙ ap (λ (rest : List _). g x ∷ rest) (same_maps f g xs (All-tail (λ x. f x ≡ g x) x xs each))
