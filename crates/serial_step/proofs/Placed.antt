-- Values put one after another.
use Rattle.std.proofs.Common.{◌≡◌, ◌∙◌, ◌≢◌, inl, inr, ℕ, zero, suc, ◌+◌, ◌<◌, ◌≤◌, false, List, [], ◌∷◌, length, get_or, take, set, Option, Some, ap, sym, refl, arith}
use Rattle.std.specs.Prelude.{◌==◌, slice_get}
use Rattle.std.specs.List.{Contains, zip}
use Rattle.std.specs.List.Sorted.{IsStrictlyIncreasing}
use Rattle.std.proofs.Math.Nat.{eq-or-lt_of_le}
use Rattle.std.proofs.lemmas.Bool.{eq-eqb, or_parts}
use Rattle.std.proofs.lemmas.List.{length-set, take_all}
use Rattle.std.proofs.lemmas.Option.{slice_get_within, get_or_from_slice_get, slice_get_read}
use Rattle.std.proofs.lemmas.Slice.Zip.{get_or-zip, length-zip}
use Rattle.graph_types.specs.Counting.{has_more, rises}
use Rattle.graph_types.specs.Graph.{has}
use Rattle.serial_step.specs.Put.{ArePut}

module _ {V : Type 0} where
  get_set_same : (xs : List V) (i : ℕ) (v : V) → i < length xs → slice_get (set xs i v) i ≡ Some v
  get_set_same [] i v below = absurd (omega arith)
  get_set_same (x ∷ xs) zero v below = refl
  get_set_same (x ∷ xs) (suc i) v below = get_set_same xs i v (omega arith)

  get_set_other : (xs : List V) (i j : ℕ) (v : V) → j ≢ i → slice_get (set xs i v) j ≡ slice_get xs j
  get_set_other [] i j v other = refl
  get_set_other (x ∷ xs) zero zero v other = absurd (other refl)
  get_set_other (x ∷ xs) zero (suc j) v other = refl
  get_set_other (x ∷ xs) (suc i) zero v other = refl
  get_set_other (x ∷ xs) (suc i) (suc j) v other = get_set_other xs i j v (λ e. other (ap suc e))

  get_take : (xs : List V) (n i : ℕ) → i < n → slice_get (take n xs) i ≡ slice_get xs i
  get_take xs zero i below = absurd (omega arith)
  get_take [] (suc n) i below = refl
  get_take (x ∷ xs) (suc n) zero below = refl
  get_take (x ∷ xs) (suc n) (suc i) below = get_take xs n i (omega arith)

  get_take_within : (xs : List V) (n i : ℕ) (x : V) → slice_get (take n xs) i ≡ Some x → i < n
  get_take_within xs zero i x at = absurd cc
  get_take_within [] (suc n) i x at = absurd cc
  get_take_within (y ∷ xs) (suc n) zero x at = omega arith
  get_take_within (y ∷ xs) (suc n) (suc i) x at = let rest : i < n = get_take_within xs n i x at in omega arith

-- the parts of a pair of two lists
pub pair_at : {A B : Type 0} (xs : List A) (ys : List B) (k : ℕ) (p : A × B) → length ys ≡ length xs → k < length (zip xs ys) → p ≡ get_or (zip xs ys) k p
    → (slice_get xs k ≡ Some p.0) × (slice_get ys k ≡ Some p.1)
pair_at {A} {B} xs ys k p long below at =
    let left : k < length xs = omega (arith, length-zip xs ys, long) in
    let right : k < length ys = omega (arith, left, long) in
    let both = at ∙ get_or-zip xs ys k p left right in
    (slice_get_read xs (length xs) k p.0 refl left (ap (λ (q : A × B). q.0) both), slice_get_read ys (length ys) k p.1 refl right (ap (λ (q : A × B). q.1) both))

pub contains_at : (xs : List ℕ) (k x : ℕ) → slice_get xs k ≡ Some x → Contains xs x
contains_at xs k x at = (k, slice_get_within xs k x at, get_or_from_slice_get xs k x x at)

-- nothing is put yet
pub put_none : {V : Type 0} (slots : List ℕ) (values : List V) (places : List (Option V)) → ArePut (take 0 slots) (take 0 values) places places
put_none slots values places = record { many = refl; put = λ k slot value at also. absurd cc; others = λ slot absent. refl }

-- all are put
pub put_done : {V : Type 0} (slots : List ℕ) (values : List V) (before after : List (Option V)) (n : ℕ) → n ≡ length slots → length values ≡ length slots
    → ArePut (take n slots) (take n values) before after → ArePut slots values before after
put_done slots values before after n end long put =
    rw (take_all n slots (omega arith), take_all n values (omega arith)) at put

-- one more is put
module _ {V : Type 0} (slots : List ℕ) (values : List V) (before after : List (Option V)) (k slot : ℕ) (value : V) (up : IsStrictlyIncreasing slots)
    (at : slice_get slots k ≡ Some slot) (of : slice_get values k ≡ Some value) (room : slot < length after)
    (so_far : ArePut (take k slots) (take k values) before after) where
  here : get_or slots k 0 ≡ slot
  here = get_or_from_slice_get slots k slot 0 at

  below : k < length slots
  below = slice_get_within slots k slot at

  put_last : (s : ℕ) (v : V) → s ≡ slot → v ≡ value → slice_get (set after slot (Some value)) s ≡ Some (Some v)
  put_last s v s_is v_is =
      ap (slice_get (set after slot (Some value))) s_is ∙ get_set_same after slot (Some value) room ∙ ap (λ (w : V). Some (Some w)) (sym v_is)

  put_earlier : (j s : ℕ) (v : V) → j < k → slice_get slots j ≡ Some s → slice_get values j ≡ Some v → slice_get (set after slot (Some value)) s ≡ Some (Some v)
  put_earlier j s v earlier at_j of_j =
      let there : get_or slots j 0 ≡ s = get_or_from_slice_get slots j s 0 at_j in
      let other : s ≢ slot = omega (arith, rises slots up j k earlier below, there, here) in
      get_set_other after slot s (Some value) other ∙ so_far.put j s v (get_take slots k j earlier ∙ at_j) (get_take values k j earlier ∙ of_j)

  put_one : (j s : ℕ) (v : V) → slice_get (take (k + 1) slots) j ≡ Some s → slice_get (take (k + 1) values) j ≡ Some v → slice_get (set after slot (Some value)) s ≡ Some (Some v)
  put_one j s v at_j of_j =
      let within : j < k + 1 = get_take_within slots (k + 1) j s at_j in
      let at_slots : slice_get slots j ≡ Some s = sym (get_take slots (k + 1) j within) ∙ at_j in
      let of_values : slice_get values j ≡ Some v = sym (get_take values (k + 1) j within) ∙ of_j in
      elim (eq-or-lt_of_le (let le : j ≤ k = omega arith in le)) [
        | inl same ↦ put_last s v (let s_is : s ≡ slot = cc in s_is) (let v_is : v ≡ value = cc in v_is)
        | inr earlier ↦ put_earlier j s v earlier at_slots of_values
      ]

  other_one : (s : ℕ) → has (take (k + 1) slots) s ≡ false → slice_get (set after slot (Some value)) s ≡ slice_get before s
  other_one s absent =
      let parts = or_parts (has (take k slots) s) (get_or slots k 0 == s) (sym (has_more slots k s below) ∙ absent) in
      let other : s ≢ slot = λ e. absurd (let told = eq-eqb (get_or slots k 0) s (here ∙ sym e) in cc (told, parts.1)) in
      get_set_other after slot s (Some value) other ∙ so_far.others s parts.0

  put_next : ArePut (take (k + 1) slots) (take (k + 1) values) before (set after slot (Some value))
  put_next = record { many = length-set after slot (Some value) ∙ so_far.many; put = put_one; others = other_one }

  pub put_more : (n : ℕ) (next : List (Option V)) → n ≡ k + 1 → next ≡ set after slot (Some value) → ArePut (take n slots) (take n values) before next
  put_more n next more now = rw (more, now) put_next
