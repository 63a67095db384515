-- The first fault of a part from those of its items, and of two parts from those of each.
use Rattle.std.proofs.Common.{◌≡◌, ℕ, zero, suc, ◌+◌, ◌<◌, ◌∙◌, refl, sym, ap, arith, subst, List, [], ◌∷◌, ◌++◌, length, inl, inr, Option, Some, None, slice_get, nat_lt, ltb-true, ltb-false, true, false, Bool}
use Rattle.std.specs.List.{flat_map}
use Rattle.std.specs.Option.{option_or}
use Rattle.std.proofs.lemmas.Option.{none-some, same_Some}
use Rattle.task_check.specs.declared.fault.Fault.{Fault}
use Rattle.task_check.specs.declared.fault.FaultKind.{FaultKind}
use Rattle.task_check.specs.First.{IsFirst, IsFirstOf, IsFirstKind, ComesFirst}
use Rattle.task_check.specs.Parts.{Either, OnLine, Within}
use Rattle.task_check.proofs.Rising.{Among, Rises, among_left, among_right, rises_right, below}

-- each fault of the part stands on one of these lines
abbrev pub StandsOn : (ℕ → FaultKind → Type 0) → List ℕ → Type 0
StandsOn R lines = (line : ℕ) (k : FaultKind) → R line k → Among line lines

-- the first of the first part is the first of both
pub found_first : (R S : ℕ → FaultKind → Type 0) (xs ys : List ℕ) → StandsOn R xs → StandsOn S ys → Rises (xs ++ ys) → (f : Fault)
    → IsFirst R (Some f) → IsFirst (Either R S) (Some f)
found_first R S xs ys on_xs on_ys r f h = record { is_one = inl h.is_one; none_before = each } where
  each : (line : ℕ) (k : FaultKind) → Either R S line k → ComesFirst f.line f.kind line k
  each line k (inl s) = h.none_before line k s
  each line k (inr s) = inl (below xs ys r f.line line (on_xs f.line f.kind h.is_one) (on_ys line k s))

none_of_both : (R S : ℕ → FaultKind → Type 0) → IsFirst R None → IsFirst S None → IsFirst (Either R S) None
none_of_both R S none h line k (inl s) = none line k s
none_of_both R S none h line k (inr s) = h line k s

-- where the first part has none, the first of the second is that of both
pub found_second : (R S : ℕ → FaultKind → Type 0) → IsFirst R None → (r : Option Fault) → IsFirst S r → IsFirst (Either R S) r
found_second R S none None h = none_of_both R S none h
found_second R S none (Some f) h = record { is_one = inr h.is_one; none_before = each } where
  each : (line : ℕ) (k : FaultKind) → Either R S line k → ComesFirst f.line f.kind line k
  each line k (inl s) = absurd (none line k s)
  each line k (inr s) = h.none_before line k s

pub both_on : (R S : ℕ → FaultKind → Type 0) (xs ys : List ℕ) → StandsOn R xs → StandsOn S ys → StandsOn (Either R S) (xs ++ ys)
both_on R S xs ys on_xs on_ys line k (inl s) = among_left xs ys line (on_xs line k s)
both_on R S xs ys on_xs on_ys line k (inr s) = among_right xs ys line (on_ys line k s)

pub one_line : (at : ℕ) (stands : FaultKind → Type 0) → StandsOn (OnLine at stands) (at ∷ [])
one_line at stands line k s = inl s.0

module _ {A : Type 0} (lines : A → List ℕ) where
  -- a line of an item is one of all of them
  among_all : (xs : List A) (place : ℕ) (x : A) → slice_get xs place ≡ Some x → (a : ℕ) → Among a (lines x) → Among a (flat_map lines xs)
  among_all [] place x e a m = absurd (none-some x e)
  among_all (y ∷ xs) zero x e a m = among_left (lines y) (flat_map lines xs) a (subst (λ z. Among a (lines z)) (let same : x ≡ y = cc in same) m)
  among_all (y ∷ xs) (suc place) x e a m = among_right (lines y) (flat_map lines xs) a (among_all xs place x e a m)

  pub items_on : (xs : List A) (faults : ℕ → A → ℕ → FaultKind → Type 0) → ((place : ℕ) (x : A) → StandsOn (faults place x) (lines x))
      → StandsOn (Within xs faults) (flat_map lines xs)
  items_on xs faults on line k s = among_all xs s.place s.item s.at line (on s.place s.item line k s.fault)

  -- the lines of an item are below those of a later one
  pub item_below : (xs : List A) → Rises (flat_map lines xs) → (i j : ℕ) (x y : A) → slice_get xs i ≡ Some x → slice_get xs j ≡ Some y → i < j
      → (a b : ℕ) → Among a (lines x) → Among b (lines y) → a < b
  item_below [] r i j x y ex ey less a b m n = absurd (none-some x ex)
  item_below (z ∷ xs) r i zero x y ex ey less a b m n = absurd (omega (arith, less))
  item_below (z ∷ xs) r zero (suc j) x y ex ey less a b m n =
      below (lines z) (flat_map lines xs) r a b (subst (λ w. Among a (lines w)) (let same : x ≡ z = cc in same) m) (among_all xs j y ey b n)
  item_below (z ∷ xs) r (suc i) (suc j) x y ex ey less a b m n =
      item_below xs (rises_right (lines z) (flat_map lines xs) r) i j x y ex ey (omega (arith, less)) a b m n

-- no item before this place has a fault
abbrev pub NoneBefore : {A : Type 0} → List A → (ℕ → A → ℕ → FaultKind → Type 0) → ℕ → Type 0
NoneBefore {A} xs faults place = (j : ℕ) (y : A) → j < place → slice_get xs j ≡ Some y → IsFirst (faults j y) None

pub none_more : {A : Type 0} (xs : List A) (faults : ℕ → A → ℕ → FaultKind → Type 0) (place : ℕ) (x : A) → slice_get xs place ≡ Some x
    → NoneBefore xs faults place → IsFirst (faults place x) None → NoneBefore xs faults (place + 1)
none_more xs faults place x e before here j y less ey = by_place (nat_lt j place) refl where
  by_place : (t : Bool) → nat_lt j place ≡ t → IsFirst (faults j y) None
  by_place true is = before j y (ltb-true j place is) ey
  by_place false is =
      let same : place ≡ j = omega (arith, less, ltb-false j place is) in
      let item : x ≡ y = same_Some x y (sym e ∙ (ap (slice_get xs) same ∙ ey)) in
      subst (λ i. IsFirst (faults i y) None) same (subst (λ z. IsFirst (faults place z) None) item here)

pub none_within : {A : Type 0} (xs : List A) (faults : ℕ → A → ℕ → FaultKind → Type 0) → NoneBefore xs faults (length xs) → IsFirst (Within xs faults) None
none_within xs faults before line k s = before s.place s.item (get_within xs s.place s.item s.at) s.at line k s.fault where
  get_within : {A : Type 0} (xs : List A) (i : ℕ) (x : A) → slice_get xs i ≡ Some x → i < length xs
  get_within [] i x e = absurd (none-some x e)
  get_within (y ∷ xs) zero x e = omega arith
  get_within (y ∷ xs) (suc i) x e = omega (arith, get_within xs i x e)

pub first_within : {A : Type 0} (lines : A → List ℕ) (xs : List A) (faults : ℕ → A → ℕ → FaultKind → Type 0)
    → ((place : ℕ) (x : A) → StandsOn (faults place x) (lines x)) → Rises (flat_map lines xs)
    → (place : ℕ) (x : A) → slice_get xs place ≡ Some x → NoneBefore xs faults place → (f : Fault) → IsFirst (faults place x) (Some f)
    → IsFirst (Within xs faults) (Some f)
first_within lines xs faults on r place x e before f h = record { is_one = record { place = place; item = x; at = e; fault = h.is_one }; none_before = each } where
  each : (line : ℕ) (k : FaultKind) → Within xs faults line k → ComesFirst f.line f.kind line k
  each line k s = by_order (nat_lt s.place place) refl (nat_lt place s.place) refl where
    by_order : (earlier : Bool) → nat_lt s.place place ≡ earlier → (later : Bool) → nat_lt place s.place ≡ later → ComesFirst f.line f.kind line k
    by_order true is later is_later = absurd (before s.place s.item (ltb-true s.place place is) s.at line k s.fault)
    by_order false is true is_later = inl (item_below lines xs r place s.place x s.item e s.at (ltb-true place s.place is_later) f.line line
        (on place x f.line f.kind h.is_one) (on s.place s.item line k s.fault))
    by_order false is false is_later =
        let same : s.place ≡ place = omega (arith, ltb-false s.place place is, ltb-false place s.place is_later) in
        let item : s.item ≡ x = same_Some s.item x (sym s.at ∙ (ap (slice_get xs) same ∙ e)) in
        h.none_before line k (subst (λ z. faults place z line k) item (subst (λ i. faults i s.item line k) same s.fault))

-- on one line
pub first_on_line : (at : ℕ) (stands : FaultKind → Type 0) (k : FaultKind) → IsFirstKind stands (Some k)
    → IsFirstOf (OnLine at stands) at k
first_on_line at stands k h = record { is_one = (refl, h.0); none_before = λ line other s. inr (sym s.0, h.1 other s.1) }

-- The first of two parts, or the second where the first has none.
pub in_turn : (R S : ℕ → FaultKind → Type 0) (xs ys : List ℕ) → StandsOn R xs → StandsOn S ys → Rises (xs ++ ys) → (a b : Option Fault)
    → IsFirst R a → IsFirst S b → IsFirst (Either R S) (option_or a b)
in_turn R S xs ys on_xs on_ys r None b first second = found_second R S first b second
in_turn R S xs ys on_xs on_ys r (Some f) b first second = found_first R S xs ys on_xs on_ys r f first
