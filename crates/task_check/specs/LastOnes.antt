-- The last value of a list that passes a test.
use Rattle.std.proofs.Common.{◌≡◌, ◌+◌, ℕ, zero, suc, List, [], ◌∷◌, Bool, true, false, Some, drop, refl, arith, subst}
use Rattle.std.specs.Prelude.{slice_get}
use Rattle.std.specs.List.{list_any}

pub record IsLast {A : Type 0} (p : A → Bool) (xs : List A) (k : ℕ) (x : A) : Type 0 where
  pub stands : slice_get xs k ≡ Some x
  pub passes : p x ≡ true
  pub none_after : list_any p (drop (k + 1) xs) ≡ false

abbrev pub Lasts : {A : Type 0} → (A → Bool) → List A → Type 0
Lasts {A} p xs = (k : ℕ) × (x : A) × IsLast p xs k x

pub last_of : {A : Type 0} (p : A → Bool) (xs : List A) → list_any p xs ≡ true → Lasts p xs
last_of p [] some = absurd cc
last_of {A} p (y ∷ ys) some = by_rest (list_any p ys) refl (p y) refl some (last_of p ys)
  where
    next : Lasts p ys → Lasts p (y ∷ ys)
    next rest = (
      suc rest.0,
      rest.1,
      record {
        stands = rest.2.stands;
        passes = rest.2.passes;
        none_after = subst (λ n. list_any p (drop n (y ∷ ys)) ≡ false) (let e : suc (rest.0 + 1) ≡ suc rest.0 + 1 = omega arith in e) rest.2.none_after;
      },
    )

    by_rest : (b : Bool) → list_any p ys ≡ b → (a : Bool) → p y ≡ a → list_any p (y ∷ ys) ≡ true → (list_any p ys ≡ true → Lasts p ys) → Lasts p (y ∷ ys)
    by_rest true is a here some rest = next (rest is)
    by_rest false is true here some rest = (0, y, record { stands = refl; passes = here; none_after = subst (λ n. list_any p (drop n (y ∷ ys)) ≡ false) (let e : suc zero ≡ 0 + 1 = omega arith in e) is })
    by_rest false is false here some rest = absurd (let none : list_any p (y ∷ ys) ≡ false = rw (here, is) refl in cc)
