use Rattle.std.proofs.Common.{◌≡◌, ℕ, ◌+◌, ◌<◌, ◌≤◌, arith, true, false, Bool, subst, sym, ◌∙◌, nat_lt, ltb-true, ltb-false, refl}
use Rattle.task_check.specs.First.{rank}
use Rattle.task_check.specs.declared.fault.FaultKind.{FaultKind}
use Rattle.task_check.proofs.Ranks.{same_rank, rank_below}
use Rattle.task_check.proofs.line.first_kind.Goals as goal

pub loop-place-init : goal.loop-place-init
loop-place-init g c k below = absurd (omega (arith, below))

-- no kind below the first one that stands does
least : (stands : FaultKind → Type 0) (i : ℕ) → ((k : FaultKind) → rank k < i → stands k → ⊥) → (k : FaultKind) → stands k → i ≤ rank k
least stands i none k s = by_order (nat_lt (rank k) i) refl where
  by_order : (t : Bool) → nat_lt (rank k) i ≡ t → i ≤ rank k
  by_order true is = absurd (none k (ltb-true (rank k) i is) s)
  by_order false is = omega (arith, ltb-false (rank k) i is)

pub returns-then-has : goal.returns-then-has
returns-then-has g c = (
  c.has.ensures.0 c.if-has.true,
  λ k s. omega (arith, c.kind_at-kind.ensures, least (g.L.Line.stands c.args.line.now) c.loop-place.place c.loop-place.invariant k s),
)

-- what holds of each kind before this one and of this one
one_more : (P : FaultKind → Type 0) (i : ℕ) (last : FaultKind) → rank last ≡ i → ((k : FaultKind) → rank k < i → P k → ⊥) → (P last → ⊥)
    → (k : FaultKind) → rank k < i + 1 → P k → ⊥
one_more P i last last_is before here k below = by_place (nat_lt (rank k) i) refl where
  by_place : (t : Bool) → nat_lt (rank k) i ≡ t → P k → ⊥
  by_place true is = before k (ltb-true (rank k) i is)
  by_place false is =
      let same : rank last ≡ rank k = omega (arith, below, last_is, ltb-false (rank k) i is) in
      subst (λ j. P j → ⊥) (same_rank last k same) here

pub loop-place-preserved : goal.loop-place-preserved
loop-place-preserved g c = one_more (g.L.Line.stands c.args.line.now) c.loop-place.place c.kind_at-kind.result c.kind_at-kind.ensures c.loop-place.invariant
    (λ s. let e : false ≡ true = sym c.if-has.false ∙ c.has.ensures.1 s in absurd cc)

pub returns : goal.returns
returns g c k = c.loop-place.invariant k (omega (arith, rank_below k, c.loop-place-test.false))
