-- A declaration that is found has a place.
use Rattle.std.proofs.Common.{◌≡◌, ◌∙◌, ◌<◌, ◌≤◌, ◌⊎◌, true, false, refl, inl, inr, ℕ, Bool, cond, List, length, Some, None, get_or, ap, sym, arith, nat_lt}
use Rattle.std.specs.List.{find, position, position_or_len, slice_get}
use Rattle.std.specs.Option.{is_some}
use Rattle.std.proofs.lemmas.Bool.{lt-ltb}
use Rattle.std.proofs.lemmas.Bool.Decides.{nat_tests}
use Rattle.std.proofs.lemmas.List.Folds.{find_at}
use Rattle.std.proofs.lemmas.Option.{slice_get_cases}

within : {A : Type 0} (xs : List A) (k : ℕ) →
    ((x : A) × (k < length xs) × (slice_get xs k ≡ Some x) × (get_or xs k x ≡ x)) ⊎ ((length xs ≤ k) × (slice_get xs k ≡ None)) →
    nat_lt k (length xs) ≡ is_some (slice_get xs k)
within xs k (inl (x, below, got, at)) = lt-ltb k (length xs) below ∙ sym (ap is_some got)
within xs k (inr (beyond, got)) = grind (arith, nat_tests) ∙ sym (ap is_some got)

placed : (b : Bool) (k : ℕ) → is_some (cond b (Some k) None) ≡ b
placed true k = refl
placed false k = refl

-- what passes a test has a place where it is found
pub placed_where_found : {A : Type 0} (p : A → Bool) (xs : List A) → is_some (position p xs) ≡ is_some (find p xs)
placed_where_found p xs =
    let k = position_or_len p xs in
    placed (nat_lt k (length xs)) k ∙ within xs k (slice_get_cases xs k).1 ∙ sym (ap is_some (find_at p xs))
