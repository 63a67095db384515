-- Values that lines write, one after another.
use Rattle.std.proofs.Common.{◌≡◌, ◌≢◌, ◌∙◌, ◌<◌, ◌≤◌, ◌+◌, ◌⊎◌, inl, inr, ℕ, List, Some, length, get_or, ap, sym, arith, subst, slice_set}
use Rattle.std.specs.Prelude.{slice_get}
use Rattle.std.proofs.lemmas.Bool.{cases_order}
use Rattle.std.proofs.lemmas.List.{get_or-set_other, get_or-set_same, length-set}
use Rattle.std.proofs.lemmas.Option.{get_or_from_slice_get, slice_get-get_or, slice_get_within}
use Rattle.field_box.specs.declared.value.Value.{Value}
use Rattle.run_task.specs.Written.{AreWritten, IsWritten}
use Rattle.run_task.specs.declared.patch_kernels.PatchKernels.{PatchKernels}

-- of these values the first ones are what their lines write, and the others are as before
pub record AreDone (k : PatchKernels) (before now : List Value) (n : ℕ) : Type 0 where
  pub done : (line : ℕ) (value : Value) → line < n → slice_get now line ≡ Some value → IsWritten k line value
  pub rest : (line : ℕ) (value : Value) → n ≤ line → slice_get now line ≡ Some value → slice_get before line ≡ Some value

-- what stands at a place of a list of which one item was set
get_of_set : {A : Type 0} (xs : List A) (n j : ℕ) (v x : A) → n < length xs → slice_get (slice_set xs n v) j ≡ Some x → ((j ≡ n) × (x ≡ v)) ⊎ ((j ≢ n) × (slice_get xs j ≡ Some x))
get_of_set xs n j v x within at = elim (cases_order j n) [
  | inl same ↦ (let here : get_or (slice_set xs n v) j x ≡ x = get_or_from_slice_get (slice_set xs n v) j x x at in
      inl (same, sym here ∙ ap (λ (i : ℕ). get_or (slice_set xs n v) i x) same ∙ get_or-set_same xs n v x within))
  | inr (inl before) ↦ inr (other (λ same. omega (arith, same, before)))
  | inr (inr after) ↦ inr (other (λ same. omega (arith, same, after)))
]
  where
    other : j ≢ n → (j ≢ n) × (slice_get xs j ≡ Some x)
    other differ =
        let short : j < length xs = omega (arith, slice_get_within (slice_set xs n v) j x at, length-set xs n v) in
        (differ, slice_get-get_or xs j x short ∙ ap Some (sym (get_or-set_other xs n j v x differ) ∙ get_or_from_slice_get (slice_set xs n v) j x x at))

pub none_done : (k : PatchKernels) (before : List Value) → AreDone k before before 0
none_done k before = record { done = λ line value below at. absurd (omega (arith, below)); rest = λ line value from at. at }

pub next_done : (k : PatchKernels) (before now : List Value) (n : ℕ) (v : Value) → n < length now → AreDone k before now n → IsWritten k n v → AreDone k before (slice_set now n v) (n + 1)
next_done k before now n v within are written = record {
  done = λ line value below at. elim (get_of_set now n line v value within at) [
    | inl here ↦ subst (λ (x : Value). IsWritten k line x) (sym here.1) (subst (λ (i : ℕ). IsWritten k i v) (sym here.0) written)
    | inr other ↦ (let less : line < n = below_other line n below other.0 in are.done line value less other.1)
  ];
  rest = λ line value from at. elim (get_of_set now n line v value within at) [
    | inl here ↦ absurd (omega (arith, from, here.0))
    | inr other ↦ are.rest line value (omega (arith, from)) other.1
  ];
}
  where
    below_other : (i m : ℕ) → i < m + 1 → i ≢ m → i < m
    below_other i m below differ = elim (cases_order i m) [
      | inl same ↦ absurd (differ same)
      | inr (inl less) ↦ less
      | inr (inr more) ↦ absurd (omega (arith, below, more))
    ]

pub all_done : (k : PatchKernels) (before now : List Value) (n : ℕ) → length before ≡ length k.task.now.writes → length now ≡ length before → length before ≤ n → AreDone k before now n
    → AreWritten k now
all_done k before now n many long all are = record {
  many = long ∙ many;
  each = λ line value at. are.done line value (omega (arith, slice_get_within now line value at, long, all)) at;
}

-- what an index gave stands there
pub stands : {A : Type 0} {xs ys : List A} {k : ℕ} {x : A} → ys ≡ xs → k < length xs → x ≡ get_or ys k x → slice_get xs k ≡ Some x
stands {A} {xs} {ys} {k} {x} same below is =
    ap (λ (zs : List A). slice_get zs k) (sym same) ∙ slice_get-get_or ys k x (omega (arith, below, ap length same)) ∙ ap Some (sym is)
