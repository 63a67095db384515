-- The kinds of faults in order, each at the place of its rank.
use Rattle.std.proofs.Common.{◌≡◌, ℕ, zero, suc, ◌+◌, ◌<◌, ◌∙◌, refl, sym, ap, arith, List, [], ◌∷◌, length, slice_get, slice_index_or, Some}
use Rattle.std.proofs.lemmas.Option.{same_Some}
use Rattle.task_check.specs.declared.fault.Which.TheVariants as limit
use Rattle.task_check.specs.declared.fault.FaultKind.{FaultKind}
use Rattle.task_check.specs.declared.fault.FaultKind.TheVariants as kind
use Rattle.task_check.specs.declared.fault.Which.{Which}
use Rattle.task_check.specs.First.{rank, limit_rank}

abbrev pub kinds : List FaultKind
kinds = (kind.TooLarge limit.Steps) ∷ (kind.TooLarge limit.Dump) ∷ (kind.TooLarge limit.Ghost) ∷ (kind.TooLarge limit.Materials) ∷ (kind.TooLarge limit.Levels) ∷ (kind.TooLarge limit.Bounds) ∷ (kind.TooLarge limit.Patches) ∷ (kind.TooLarge limit.Cells) ∷ (kind.TooLarge limit.Variables) ∷ (kind.TooLarge limit.Reductions) ∷ (kind.TooLarge limit.Tasks) ∷ (kind.TooLarge limit.Lines) ∷ (kind.TooLarge limit.Detailed) ∷ (kind.TooLarge limit.Slots) ∷ (kind.TooLarge limit.Reads) ∷ (kind.TooLarge limit.Stored) ∷ (kind.TooLarge limit.Gathered) ∷ kind.BadGrid ∷ kind.Unknown ∷ kind.Twice ∷ kind.GhostTooWide ∷ kind.ReadBeyondGhost ∷ kind.MissingLevel ∷ kind.MissingCompute ∷ kind.DoubleCompute ∷ kind.UnorderedModify ∷ []

-- the kinds have the ranks from this number on
abbrev Ranked : ℕ → List FaultKind → Type 0
Ranked n [] = Unit {0}
Ranked n (k ∷ ks) = (rank k ≡ n) × Ranked (n + 1) ks

rank_from : (n : ℕ) (ks : List FaultKind) → Ranked n ks → (i : ℕ) (d : FaultKind) → i < length ks → rank (slice_index_or ks i d) ≡ n + i
rank_from n [] h i d within = absurd (omega (arith, within))
rank_from n (k ∷ ks) h zero d within = h.0 ∙ omega arith
rank_from n (k ∷ ks) h (suc i) d within = rank_from (n + 1) ks h.1 i d (omega (arith, within)) ∙ omega arith

ranked : Ranked 0 kinds
ranked = (refl, (refl, (refl, (refl, (refl, (refl, (refl, (refl, (refl, (refl, (refl, (refl, (refl, (refl, (refl, (refl, (refl, (refl, (refl, (refl, (refl, (refl, (refl, (refl, (refl, (refl, tt))))))))))))))))))))))))))

pub rank_at : (i : ℕ) (d : FaultKind) → i < 26 → rank (slice_index_or kinds i d) ≡ i
rank_at i d within = rank_from 0 kinds ranked i d within ∙ omega arith

-- each kind stands at its rank
pub at_rank : (k : FaultKind) → slice_get kinds (rank k) ≡ Some k
at_rank (kind.TooLarge limit.Steps) = refl
at_rank (kind.TooLarge limit.Dump) = refl
at_rank (kind.TooLarge limit.Ghost) = refl
at_rank (kind.TooLarge limit.Materials) = refl
at_rank (kind.TooLarge limit.Levels) = refl
at_rank (kind.TooLarge limit.Bounds) = refl
at_rank (kind.TooLarge limit.Patches) = refl
at_rank (kind.TooLarge limit.Cells) = refl
at_rank (kind.TooLarge limit.Variables) = refl
at_rank (kind.TooLarge limit.Reductions) = refl
at_rank (kind.TooLarge limit.Tasks) = refl
at_rank (kind.TooLarge limit.Lines) = refl
at_rank (kind.TooLarge limit.Detailed) = refl
at_rank (kind.TooLarge limit.Slots) = refl
at_rank (kind.TooLarge limit.Reads) = refl
at_rank (kind.TooLarge limit.Stored) = refl
at_rank (kind.TooLarge limit.Gathered) = refl
at_rank kind.BadGrid = refl
at_rank kind.Unknown = refl
at_rank kind.Twice = refl
at_rank kind.GhostTooWide = refl
at_rank kind.ReadBeyondGhost = refl
at_rank kind.MissingLevel = refl
at_rank kind.MissingCompute = refl
at_rank kind.DoubleCompute = refl
at_rank kind.UnorderedModify = refl

-- kinds of one rank are one
pub same_rank : (j k : FaultKind) → rank j ≡ rank k → j ≡ k
same_rank j k e = same_Some j k (sym (at_rank j) ∙ (ap (slice_get kinds) e ∙ at_rank k))

pub same_limit : (v w : Which) → limit_rank v ≡ limit_rank w → v ≡ w
same_limit v w e = let same = same_rank (kind.TooLarge v) (kind.TooLarge w) e in cc

pub limit_below : (w : Which) → limit_rank w < 17
limit_below limit.Steps = omega arith
limit_below limit.Dump = omega arith
limit_below limit.Ghost = omega arith
limit_below limit.Materials = omega arith
limit_below limit.Levels = omega arith
limit_below limit.Bounds = omega arith
limit_below limit.Patches = omega arith
limit_below limit.Cells = omega arith
limit_below limit.Variables = omega arith
limit_below limit.Reductions = omega arith
limit_below limit.Tasks = omega arith
limit_below limit.Lines = omega arith
limit_below limit.Detailed = omega arith
limit_below limit.Slots = omega arith
limit_below limit.Reads = omega arith
limit_below limit.Stored = omega arith
limit_below limit.Gathered = omega arith

pub rank_below : (k : FaultKind) → rank k < 26
rank_below (kind.TooLarge w) = omega (arith, limit_below w)
rank_below kind.BadGrid = omega arith
rank_below kind.Unknown = omega arith
rank_below kind.Twice = omega arith
rank_below kind.GhostTooWide = omega arith
rank_below kind.ReadBeyondGhost = omega arith
rank_below kind.MissingLevel = omega arith
rank_below kind.MissingCompute = omega arith
rank_below kind.DoubleCompute = omega arith
rank_below kind.UnorderedModify = omega arith
