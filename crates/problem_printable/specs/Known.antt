-- How many names are known behind some names and further ones.
use Rattle.std.proofs.Common.{◌≡◌, ℕ, ◌+◌, ◌≤◌, ◌==◌, Bool, true, false, refl, ap, sym, ◌∙◌, arith, List, [], ◌∷◌, ◌++◌, Option, Some, None, if◌then◌else◌, nat_lt}
use Rattle.std.proofs.lemmas.Option.{none-some}
use Rattle.problem_printable.specs.Numbering.{known_behind}

-- what follows where a name is known, where it is the next one, and where it is neither
goes_on : (low next : Bool) (p q p' q' r : Option ℕ) (k : ℕ) → (p ≡ Some k → p' ≡ r) → (q ≡ Some k → q' ≡ r)
    → (if low then p else (if next then q else None)) ≡ Some k → (if low then p' else (if next then q' else None)) ≡ r
goes_on true next p q p' q' r k f g e = f e
goes_on false true p q p' q' r k f g e = g e
goes_on false false p q p' q' r k f g e = absurd (none-some k e)

pub known_followed : (known : ℕ) (xs ys : List ℕ) (k : ℕ) → known_behind known xs ≡ Some k
    → known_behind known (xs ++ ys) ≡ known_behind k ys
known_followed known [] ys k e = let same : known ≡ k = cc in ap (λ n. known_behind n ys) same
known_followed known (x ∷ xs) ys k e =
    goes_on (nat_lt x known) (x == known) _ _ _ _ _ k (known_followed known xs ys k) (known_followed (known + 1) xs ys k) e

stops : (low next : Bool) (p q p' q' : Option ℕ) → (p ≡ None → p' ≡ None) → (q ≡ None → q' ≡ None)
    → (if low then p else (if next then q else None)) ≡ None → (if low then p' else (if next then q' else None)) ≡ None
stops true next p q p' q' f g e = f e
stops false true p q p' q' f g e = g e
stops false false p q p' q' f g e = refl

pub known_broken : (known : ℕ) (xs ys : List ℕ) → known_behind known xs ≡ None → known_behind known (xs ++ ys) ≡ None
known_broken known [] ys e = absurd (none-some known (sym e))
known_broken known (x ∷ xs) ys e =
    stops (nat_lt x known) (x == known) _ _ _ _ (known_broken known xs ys) (known_broken (known + 1) xs ys) e

-- no name is forgotten
grows : (low next : Bool) (p q : Option ℕ) (known k : ℕ) → (p ≡ Some k → known ≤ k) → (q ≡ Some k → known + 1 ≤ k)
    → (if low then p else (if next then q else None)) ≡ Some k → known ≤ k
grows true next p q known k f g e = f e
grows false true p q known k f g e = let more = g e in omega arith
grows false false p q known k f g e = absurd (none-some k e)

pub known_grows : (known : ℕ) (xs : List ℕ) (k : ℕ) → known_behind known xs ≡ Some k → known ≤ k
known_grows known [] k e = let same : known ≡ k = cc in omega arith
known_grows known (x ∷ xs) k e =
    grows (nat_lt x known) (x == known) _ _ known k (known_grows known xs k) (known_grows (known + 1) xs k) e

-- one name, and the names behind it
pub known_one : (known name : ℕ) (names : List ℕ) (k : ℕ) → known_behind known (name ∷ []) ≡ Some k
    → known_behind known (name ∷ names) ≡ known_behind k names
known_one known name names k e = known_followed known (name ∷ []) names k e

pub known_none : (known name : ℕ) (names : List ℕ) → known_behind known (name ∷ []) ≡ None → known_behind known (name ∷ names) ≡ None
known_none known name names e = known_broken known (name ∷ []) names e

-- three parts, of which the second is in order, and not
pub second_followed : (known : ℕ) (xs ys zs : List ℕ) (k l : ℕ) → known_behind known xs ≡ Some k → known_behind k ys ≡ Some l
    → known_behind known (xs ++ (ys ++ zs)) ≡ known_behind l zs
second_followed known xs ys zs k l e f = known_followed known xs (ys ++ zs) k e ∙ known_followed k ys zs l f

pub second_broken : (known : ℕ) (xs ys zs : List ℕ) (k : ℕ) → known_behind known xs ≡ Some k → known_behind k ys ≡ None
    → known_behind known (xs ++ (ys ++ zs)) ≡ None
second_broken known xs ys zs k e f = known_followed known xs (ys ++ zs) k e ∙ known_broken k ys zs f

pub ruleset known_head = (known_one, known_none)

pub ruleset known_parts = (known_followed, known_broken, second_followed, second_broken)
