-- Writes to a table at the numbers of a list, one after another.
use Rattle.std.proofs.Common.{◌≡◌, ◌∙◌, ◌≢◌, inl, inr, ℕ, ◌+◌, ◌<◌, Bool, true, false, cond, List, length, get_or, take, ap, sym, subst, refl, arith, get_or-set_same, get_or-set_other}
use Rattle.std.specs.Prelude.{◌||◌, slice_set}
use Rattle.std.proofs.lemmas.Bool.{cases_eq, eq-eqb, ne_eqb}
use Rattle.graph_types.specs.Graph.{has}
use Rattle.graph_types.specs.Counting.{has_more}

or_true : (b : Bool) → (b || true) ≡ true
or_true true = refl
or_true false = refl

or_false : (b : Bool) → (b || false) ≡ b
or_false true = refl
or_false false = refl

module _ (numbers : List ℕ) (i n : ℕ) (below : i < length numbers) where
  -- what stands in one more of the numbers
  pub has_here : get_or numbers i 0 ≡ n → has (take (i + 1) numbers) n ≡ true
  has_here here = has_more numbers i n below ∙ ap (λ (b : Bool). has (take i numbers) n || b) (eq-eqb (get_or numbers i 0) n here) ∙ or_true (has (take i numbers) n)

  pub has_else : get_or numbers i 0 ≢ n → has (take (i + 1) numbers) n ≡ has (take i numbers) n
  has_else other = has_more numbers i n below ∙ ap (λ (b : Bool). has (take i numbers) n || b) (ne_eqb (get_or numbers i 0) n other) ∙ or_false (has (take i numbers) n)

-- each number of the list has the value, and the rest is as it was
abbrev pub IsOwned : (old now numbers : List ℕ) (task : ℕ) → Type 0
IsOwned old now numbers task = (n : ℕ) → n < length old → get_or now n 0 ≡ cond (has numbers n) task (get_or old n 0)

pub owned_as : (before old now numbers others : List ℕ) (task : ℕ) → before ≡ old → numbers ≡ others → IsOwned before now numbers task → IsOwned old now others task
owned_as before old now numbers others task same alike put =
    subst (λ (xs : List ℕ). IsOwned xs now others task) same (subst (λ (ns : List ℕ). IsOwned before now ns task) alike put)

-- each number of the list counts 1 more, and the rest is as it was
abbrev pub IsRaised : (old now numbers : List ℕ) → Type 0
IsRaised old now numbers = (n : ℕ) → n < length old → get_or now n 0 ≡ get_or old n 0 + cond (has numbers n) 1 0

pub raised_as : (before old now numbers others : List ℕ) → before ≡ old → numbers ≡ others → IsRaised before now numbers → IsRaised old now others
raised_as before old now numbers others same alike raised =
    subst (λ (xs : List ℕ). IsRaised xs now others) same (subst (λ (ns : List ℕ). IsRaised before now ns) alike raised)

module _ (old now numbers : List ℕ) (size : length now ≡ length old) (i : ℕ) (below : i < length numbers) where
  pub owned_more : (task : ℕ) → IsOwned old now (take i numbers) task → IsOwned old (slice_set now (get_or numbers i 0) task) (take (i + 1) numbers) task
  owned_more task so_far n within = elim (cases_eq n (get_or numbers i 0)) [
    | inl here ↦
        let room : get_or numbers i 0 < length now = omega arith in
        ap (λ (m : ℕ). get_or (slice_set now (get_or numbers i 0) task) m 0) here
        ∙ get_or-set_same now (get_or numbers i 0) task 0 room
        ∙ sym (ap (λ (b : Bool). cond b task (get_or old n 0)) (has_here numbers i n below (sym here)))
    | inr other ↦
        get_or-set_other now (get_or numbers i 0) n task 0 other
        ∙ so_far n within
        ∙ sym (ap (λ (b : Bool). cond b task (get_or old n 0)) (has_else numbers i n below (λ e. other (sym e))))
  ]

  pub raised_more : has (take i numbers) (get_or numbers i 0) ≡ false →
      IsRaised old now (take i numbers) → IsRaised old (slice_set now (get_or numbers i 0) (get_or now (get_or numbers i 0) 0 + 1)) (take (i + 1) numbers)
  raised_more once so_far n within = elim (cases_eq n (get_or numbers i 0)) [
    | inl here ↦
        let room : get_or numbers i 0 < length now = omega arith in
        let not_yet : has (take i numbers) n ≡ false = ap (has (take i numbers)) here ∙ once in
        let before : get_or now n 0 ≡ get_or old n 0 + 0 = so_far n within ∙ ap (λ (b : Bool). get_or old n 0 + cond b 1 0) not_yet in
        let after : get_or old n 0 + cond (has (take (i + 1) numbers) n) 1 0 ≡ get_or old n 0 + 1 = ap (λ (b : Bool). get_or old n 0 + cond b 1 0) (has_here numbers i n below (sym here)) in
        ap (λ (m : ℕ). get_or (slice_set now (get_or numbers i 0) (get_or now (get_or numbers i 0) 0 + 1)) m 0) here
        ∙ get_or-set_same now (get_or numbers i 0) (get_or now (get_or numbers i 0) 0 + 1) 0 room
        ∙ ap (λ (m : ℕ). get_or now m 0 + 1) (sym here)
        ∙ (let sum : get_or now n 0 + 1 ≡ get_or old n 0 + 1 = omega (arith, before) in sum)
        ∙ sym after
    | inr other ↦
        get_or-set_other now (get_or numbers i 0) n (get_or now (get_or numbers i 0) 0 + 1) 0 other
        ∙ so_far n within
        ∙ sym (ap (λ (b : Bool). get_or old n 0 + cond b 1 0) (has_else numbers i n below (λ e. other (sym e))))
  ]
