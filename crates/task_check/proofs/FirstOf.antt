-- Of the faults of several parts there is none, or a first one.
use Rattle.std.proofs.Common.{◌≡◌, ◌⊎◌, inl, inr, ℕ, zero, suc, List, [], ◌∷◌, refl, sym, arith, subst, ap}
use Rattle.std.specs.Prelude.{slice_get, Some}
use Rattle.std.proofs.lemmas.Bool.{cases_lt, cases_order}
use Rattle.std.proofs.lemmas.Option.{same_Some, none-some}
use Rattle.task_check.specs.declared.fault.FaultKind.{FaultKind}
use Rattle.task_check.specs.First.{rank, ComesFirst, IsFirstOf}
use Rattle.task_check.specs.Parts.{Either, OnLine, Within}
use Rattle.task_check.proofs.Ranks.{kinds, at_rank}
use Rattle.task_check.proofs.Judging.{Judged}

-- none stands, or there is a first one
abbrev pub FirstOrNone : (ℕ → FaultKind → Type 0) → Type 0
FirstOrNone stands = ((line : ℕ) (k : FaultKind) → stands line k → ⊥) ⊎ ((line : ℕ) × (k : FaultKind) × IsFirstOf stands line k)

-- each two faults have an order
by_rank : (line : ℕ) (k : FaultKind) (other_line : ℕ) (other : FaultKind) → line ≡ other_line →
    ComesFirst line k other_line other ⊎ ComesFirst other_line other line k
by_rank line k other_line other same =
    elim (cases_lt (rank k) (rank other)) [ inl less ↦ inl (inr (same, omega arith)) | inr le ↦ inr (inr (sym same, le)) ]

in_order : (line : ℕ) (k : FaultKind) (other_line : ℕ) (other : FaultKind) → ComesFirst line k other_line other ⊎ ComesFirst other_line other line k
in_order line k other_line other = elim (cases_order line other_line) [
  | inl same ↦ by_rank line k other_line other same
  | inr rest ↦ elim rest [ inl before ↦ inl (inl before) | inr after ↦ inr (inl after) ]
]

through : (a : ℕ) (j : FaultKind) (b : ℕ) (k : FaultKind) (c : ℕ) (l : FaultKind) → ComesFirst a j b k → ComesFirst b k c l → ComesFirst a j c l
through a j b k c l (inl first) (inl second) = inl (omega arith)
through a j b k c l (inl first) (inr (same, le)) = inl (omega arith)
through a j b k c l (inr (same, le)) (inl second) = inl (omega arith)
through a j b k c l (inr (same, le)) (inr (again, more)) = inr (omega arith, omega arith)

-- of two parts
module _ (A B : ℕ → FaultKind → Type 0) (line : ℕ) (k : FaultKind) where
  first_left : IsFirstOf A line k → ((n : ℕ) (o : FaultKind) → B n o → ComesFirst line k n o) → IsFirstOf (Either A B) line k
  first_left f later = record {
    is_one = inl f.is_one;
    none_before = λ n o h. elim h [ inl a ↦ f.none_before n o a | inr b ↦ later n o b ];
  }

  first_right : ((n : ℕ) (o : FaultKind) → A n o → ComesFirst line k n o) → IsFirstOf B line k → IsFirstOf (Either A B) line k
  first_right later f = record {
    is_one = inr f.is_one;
    none_before = λ n o h. elim h [ inl a ↦ later n o a | inr b ↦ f.none_before n o b ];
  }

first_of_two : (A B : ℕ → FaultKind → Type 0) (line : ℕ) (k : FaultKind) (other_line : ℕ) (other : FaultKind) → IsFirstOf A line k →
    IsFirstOf B other_line other → FirstOrNone (Either A B)
first_of_two A B line k other_line other f g = elim (in_order line k other_line other) [
  | inl before ↦ inr (line, k, first_left A B line k f (λ n o b. through line k other_line other n o before (g.none_before n o b)))
  | inr after ↦ inr (other_line, other, first_right A B other_line other (λ n o a. through other_line other line k n o after (f.none_before n o a)) g)
]

pub of_either : {A B : ℕ → FaultKind → Type 0} → FirstOrNone A → FirstOrNone B → FirstOrNone (Either A B)
of_either (inl none) (inl no_other) = inl (λ n o h. elim h [ inl a ↦ none n o a | inr b ↦ no_other n o b ])
of_either {A} {B} (inl none) (inr (line, k, f)) = inr (line, k, first_right A B line k (λ n o a. absurd (none n o a)) f)
of_either {A} {B} (inr (line, k, f)) (inl none) = inr (line, k, first_left A B line k f (λ n o b. absurd (none n o b)))
of_either {A} {B} (inr (line, k, f)) (inr (other_line, other, g)) = first_of_two A B line k other_line other f g

-- the same faults, said otherwise
pub of_same : {A B : ℕ → FaultKind → Type 0} → ((line : ℕ) (k : FaultKind) → A line k → B line k) →
    ((line : ℕ) (k : FaultKind) → B line k → A line k) → FirstOrNone A → FirstOrNone B
of_same to from (inl none) = inl (λ n o b. none n o (from n o b))
of_same to from (inr (line, k, f)) =
    inr (line, k, record { is_one = to line k f.is_one; none_before = λ n o b. f.none_before n o (from n o b) })

-- of the items of a list
module _ {A : Type 0} (x : A) (xs : List A) (faults : ℕ → A → ℕ → FaultKind → Type 0) (line : ℕ) (k : FaultKind) where
  from_parts : faults 0 x line k ⊎ Within xs (λ n. faults (suc n)) line k → Within (x ∷ xs) faults line k
  from_parts (inl h) = record { place = 0; item = x; at = refl; fault = h }
  from_parts (inr w) = record { place = suc w.place; item = w.item; at = w.at; fault = w.fault }

  at_place : (place : ℕ) (y : A) → slice_get (x ∷ xs) place ≡ Some y → faults place y line k →
      faults 0 x line k ⊎ Within xs (λ n. faults (suc n)) line k
  at_place zero y at h = inl (subst (λ z. faults 0 z line k) (sym (same_Some x y at)) h)
  at_place (suc n) y at h = inr (record { place = n; item = y; at = at; fault = h })

  to_parts : Within (x ∷ xs) faults line k → faults 0 x line k ⊎ Within xs (λ n. faults (suc n)) line k
  to_parts w = at_place w.place w.item w.at w.fault

pub of_items : {A : Type 0} (faults : ℕ → A → ℕ → FaultKind → Type 0) → ((place : ℕ) (x : A) → FirstOrNone (faults place x)) → (xs : List A) →
    FirstOrNone (Within xs faults)
of_items faults each [] = inl (λ n o w. none-some w.item w.at)
of_items faults each (x ∷ xs) =
    of_same (from_parts x xs faults) (to_parts x xs faults) (of_either (each 0 x) (of_items (λ n. faults (suc n)) (λ n. each (suc n)) xs))

-- one fault, if it stands
abbrev pub Only : ℕ → (FaultKind → Type 0) → FaultKind → ℕ → FaultKind → Type 0
Only at stands which line k = (line ≡ at) × ((k ≡ which) × stands which)

pub of_one : (at : ℕ) (stands : FaultKind → Type 0) (which : FaultKind) → Judged (stands which) → FirstOrNone (Only at stands which)
of_one at stands which (inl h) =
    inr (at, which, record { is_one = (refl, (refl, h)); none_before = λ n o only. inr (sym only.0, omega (arith, ap rank only.1.0)) })
of_one at stands which (inr not_so) = inl (λ n o only. not_so only.1.1)

-- the faults of one line, of which each kind is judged
pub of_line : (at : ℕ) (stands : FaultKind → Type 0) → ((k : FaultKind) → Judged (stands k)) → FirstOrNone (OnLine at stands)
of_line at stands judged =
    of_same
    (λ n o w. (w.fault.0, subst stands (sym w.fault.1.0) w.fault.1.1))
    (λ n o h. record { place = rank o; item = o; at = at_rank o; fault = (h.0, (refl, h.1)) })
    (of_items (λ place which. Only at stands which) (λ place which. of_one at stands which (judged which)) kinds)

-- the faults of statements, each on its line
pub of_statements : {A : Type 0} (line_of : A → ℕ) (stands : ℕ → A → FaultKind → Type 0) →
    ((place : ℕ) (x : A) (k : FaultKind) → Judged (stands place x k)) → (xs : List A) → FirstOrNone (Within xs (λ place x. OnLine (line_of x) (stands place x)))
of_statements line_of stands judged =
    of_items (λ place x. OnLine (line_of x) (stands place x)) (λ place x. of_line (line_of x) (stands place x) (judged place x))
