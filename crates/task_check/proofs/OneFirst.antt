-- Two first faults are the same.
use Rattle.std.proofs.Common.{◌≡◌, inl, inr, ℕ, ◌≤◌, arith, refl}
use Rattle.task_check.specs.declared.fault.FaultKind.{FaultKind}
use Rattle.task_check.specs.declared.fault.FaultKind.TheVariants as kind
use Rattle.task_check.specs.First.{limit_rank, ComesFirst, IsFirstOf, of_lines, of_plans}
use Rattle.task_check.specs.Laws.{FirstFaultsAreOne}
use Rattle.task_check.proofs.Ranks.{same_rank}

-- two faults of which each comes first
same_place : (line : ℕ) (k : FaultKind) (other_line : ℕ) (other : FaultKind) → ComesFirst line k other_line other →
    ComesFirst other_line other line k → (line ≡ other_line) × (k ≡ other)
same_place line k other_line other (inl before) (inl after) = absurd (omega arith)
same_place line k other_line other (inl before) (inr (same, rank_after)) = absurd (omega arith)
same_place line k other_line other (inr (same, rank_before)) (inl after) = absurd (omega arith)
same_place line k other_line other (inr (same, rank_before)) (inr (again, rank_after)) = (same, same_rank k other (omega arith))

one_of_lines : (stands : ℕ → FaultKind → Type 0) (line : ℕ) (k : FaultKind) (other_line : ℕ) (other : FaultKind) →
    IsFirstOf stands line k → IsFirstOf stands other_line other → (line ≡ other_line) × (k ≡ other)
one_of_lines stands line k other_line other f g =
    same_place line k other_line other (f.none_before other_line other g.is_one) (g.none_before line k f.is_one)

pub one_first : FirstFaultsAreOne
one_first p line k other_line other (of_lines l m first) (of_lines n o second) = one_of_lines _ line k other_line other first second
one_first p line k other_line other (of_lines l m first) (of_plans which faultless above least) = absurd (faultless line k first.is_one)
one_first p line k other_line other (of_plans which faultless above least) (of_lines n o second) = absurd (faultless other_line other second.is_one)
one_first p line k other_line other (of_plans which faultless above least) (of_plans again none too_large first) = (
  refl,
  same_rank (kind.TooLarge which) (kind.TooLarge again) (let there : limit_rank which ≤ limit_rank again = least again too_large in
      let back : limit_rank again ≤ limit_rank which = first which above in omega arith),
)
