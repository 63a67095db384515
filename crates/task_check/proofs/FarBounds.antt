-- Faults of levels, and what is seen of them within the limits.
use Rattle.std.proofs.Common.{◌≡◌, ◌⊎◌, inl, inr, ℕ, ◌+◌, ◌-◌, ◌<◌, ◌≤◌, ◌∙◌, refl, sym, ap, arith, subst, List, ◌++◌, Any, length, IfSome, Option, Some, None, slice_get, get_or, length-append}
use Rattle.std.proofs.lemmas.Bool.{cases_lt}
use Rattle.std.proofs.lemmas.List.{get_or_append_left, get_or-append-add}
use Rattle.std.proofs.lemmas.Option.{slice_get_within}
use Rattle.problem_types.specs.Form.{IsProblemInForm, IsLevelInForm}
use Rattle.problem_types.specs.Levels.{KeepsGridLimits}
use Rattle.problem_types.specs.declared.problem.Problem.{Problem}
use Rattle.problem_types.specs.declared.problem.Level.{Level}
use Rattle.grid_levels.specs.Good.{IsWithinLimits}
use Rattle.task_check.specs.declared.fault.FaultKind.{FaultKind}
use Rattle.task_check.specs.declared.fault.FaultKind.TheVariants as kind
use Rattle.task_check.specs.declared.fault.Which.TheVariants as limit
use Rattle.task_check.specs.declared.fault.Fault.{Fault}
use Rattle.task_check.specs.First.{IsFirst, ComesFirst, rank}
use Rattle.task_check.specs.Lines.{LevelFault, SeenLevelFault}
use Rattle.task_check.specs.Parts.{OnLine}
use Rattle.task_check.proofs.Accepted.{level_in_form, keeps_where_none}
use Rattle.task_check.proofs.Walk.{NoneBefore}

-- one of two lists together is one of the first or of the second
pub any_of_both : {A : Type 0} (P : A → Type 0) (xs ys : List A) → Any P (xs ++ ys) → Any P xs ⊎ Any P ys
any_of_both P xs ys (k, x, within, is, holds) = by_place (cases_lt k (length xs)) where
  by_place : (k < length xs) ⊎ (length xs ≤ k) → Any P xs ⊎ Any P ys
  by_place (inl below) = inl (k, x, below, sym (get_or_append_left xs ys x k below) ∙ is, holds)
  by_place (inr from) = inr (k - length xs, x, omega (arith, from, within, length-append xs ys), later, holds) where
    later : get_or ys (k - length xs) x ≡ x
    later = sym (get_or-append-add xs ys (k - length xs) x) ∙ (ap (λ i. get_or (xs ++ ys) i x) (let place : length xs + (k - length xs) ≡ k = omega (arith, from) in place) ∙ is)

pub any_of_later : {A : Type 0} (P : A → Type 0) (xs ys : List A) → Any P ys → Any P (xs ++ ys)
any_of_later P xs ys (k, x, within, is, holds) =
    (length xs + k, x, omega (arith, within, length-append xs ys), get_or-append-add xs ys k x ∙ is, holds)

module _ (p : Problem) (level : ℕ) (l : Level) (at : slice_get p.levels level ≡ Some l) where
  -- what is seen stands
  seen_stands : (k : FaultKind) → SeenLevelFault p level l k → LevelFault p level l k
  seen_stands (kind.TooLarge limit.Levels) h = h
  seen_stands (kind.TooLarge limit.Bounds) h = h
  seen_stands (kind.TooLarge limit.Patches) h = h
  seen_stands (kind.TooLarge limit.Cells) h = h.1
  seen_stands kind.BadGrid h = h.1
  seen_stands (kind.TooLarge limit.Steps) h = absurd h
  seen_stands (kind.TooLarge limit.Dump) h = absurd h
  seen_stands (kind.TooLarge limit.Ghost) h = absurd h
  seen_stands (kind.TooLarge limit.Materials) h = absurd h
  seen_stands (kind.TooLarge limit.Variables) h = absurd h
  seen_stands (kind.TooLarge limit.Reductions) h = absurd h
  seen_stands (kind.TooLarge limit.Tasks) h = absurd h
  seen_stands (kind.TooLarge limit.Lines) h = absurd h
  seen_stands (kind.TooLarge limit.Detailed) h = absurd h
  seen_stands (kind.TooLarge limit.Slots) h = absurd h
  seen_stands (kind.TooLarge limit.Reads) h = absurd h
  seen_stands (kind.TooLarge limit.Stored) h = absurd h
  seen_stands (kind.TooLarge limit.Gathered) h = absurd h
  seen_stands kind.Unknown h = absurd h
  seen_stands kind.Twice h = absurd h
  seen_stands kind.GhostTooWide h = absurd h
  seen_stands kind.ReadBeyondGhost h = absurd h
  seen_stands kind.MissingLevel h = absurd h
  seen_stands kind.MissingCompute h = absurd h
  seen_stands kind.DoubleCompute h = absurd h
  seen_stands kind.UnorderedModify h = absurd h

  -- within the limits all that stands is seen
  all_seen : KeepsGridLimits l → IsWithinLimits p level → (k : FaultKind) → LevelFault p level l k → SeenLevelFault p level l k
  all_seen keeps within (kind.TooLarge limit.Levels) h = h
  all_seen keeps within (kind.TooLarge limit.Bounds) h = h
  all_seen keeps within (kind.TooLarge limit.Patches) h = h
  all_seen keeps within (kind.TooLarge limit.Cells) h = (keeps, h)
  all_seen keeps within kind.BadGrid h = (within, h)
  all_seen keeps within (kind.TooLarge limit.Steps) h = absurd h
  all_seen keeps within (kind.TooLarge limit.Dump) h = absurd h
  all_seen keeps within (kind.TooLarge limit.Ghost) h = absurd h
  all_seen keeps within (kind.TooLarge limit.Materials) h = absurd h
  all_seen keeps within (kind.TooLarge limit.Variables) h = absurd h
  all_seen keeps within (kind.TooLarge limit.Reductions) h = absurd h
  all_seen keeps within (kind.TooLarge limit.Tasks) h = absurd h
  all_seen keeps within (kind.TooLarge limit.Lines) h = absurd h
  all_seen keeps within (kind.TooLarge limit.Detailed) h = absurd h
  all_seen keeps within (kind.TooLarge limit.Slots) h = absurd h
  all_seen keeps within (kind.TooLarge limit.Reads) h = absurd h
  all_seen keeps within (kind.TooLarge limit.Stored) h = absurd h
  all_seen keeps within (kind.TooLarge limit.Gathered) h = absurd h
  all_seen keeps within kind.Unknown h = absurd h
  all_seen keeps within kind.Twice h = absurd h
  all_seen keeps within kind.GhostTooWide h = absurd h
  all_seen keeps within kind.ReadBeyondGhost h = absurd h
  all_seen keeps within kind.MissingLevel h = absurd h
  all_seen keeps within kind.MissingCompute h = absurd h
  all_seen keeps within kind.DoubleCompute h = absurd h
  all_seen keeps within kind.UnorderedModify h = absurd h

  -- what stands is seen, or comes after the limits on bounds and patches
  seen_or_later : (k : FaultKind) → LevelFault p level l k → SeenLevelFault p level l k ⊎ (6 ≤ rank k)
  seen_or_later (kind.TooLarge limit.Levels) h = inl h
  seen_or_later (kind.TooLarge limit.Bounds) h = inl h
  seen_or_later (kind.TooLarge limit.Patches) h = inl h
  seen_or_later (kind.TooLarge limit.Cells) h = inr (omega arith)
  seen_or_later kind.BadGrid h = inr (omega arith)
  seen_or_later (kind.TooLarge limit.Steps) h = absurd h
  seen_or_later (kind.TooLarge limit.Dump) h = absurd h
  seen_or_later (kind.TooLarge limit.Ghost) h = absurd h
  seen_or_later (kind.TooLarge limit.Materials) h = absurd h
  seen_or_later (kind.TooLarge limit.Variables) h = absurd h
  seen_or_later (kind.TooLarge limit.Reductions) h = absurd h
  seen_or_later (kind.TooLarge limit.Tasks) h = absurd h
  seen_or_later (kind.TooLarge limit.Lines) h = absurd h
  seen_or_later (kind.TooLarge limit.Detailed) h = absurd h
  seen_or_later (kind.TooLarge limit.Slots) h = absurd h
  seen_or_later (kind.TooLarge limit.Reads) h = absurd h
  seen_or_later (kind.TooLarge limit.Stored) h = absurd h
  seen_or_later (kind.TooLarge limit.Gathered) h = absurd h
  seen_or_later kind.Unknown h = absurd h
  seen_or_later kind.Twice h = absurd h
  seen_or_later kind.GhostTooWide h = absurd h
  seen_or_later kind.ReadBeyondGhost h = absurd h
  seen_or_later kind.MissingLevel h = absurd h
  seen_or_later kind.MissingCompute h = absurd h
  seen_or_later kind.DoubleCompute h = absurd h
  seen_or_later kind.UnorderedModify h = absurd h

  within_limits : KeepsGridLimits l → (0 < level → IfSome (slice_get p.levels (level - 1)) KeepsGridLimits) → IsWithinLimits p level
  within_limits keeps coarser = record {
    here = slice_get_within p.levels level l at;
    limits = subst (λ o. IfSome o KeepsGridLimits) (sym at) keeps;
    coarser = coarser;
  }

  module _ (form : IsLevelInForm l) (coarser : 0 < level → IfSome (slice_get p.levels (level - 1)) KeepsGridLimits) where
    -- where nothing is seen nothing stands
    none_stands : IsFirst (OnLine l.line (SeenLevelFault p level l)) None → IsFirst (OnLine l.line (LevelFault p level l)) None
    none_stands unseen line k (on, stands) =
        let keeps = keeps_where_none l form (λ far. unseen line (kind.TooLarge limit.Bounds) (on, far)) (λ many. unseen line (kind.TooLarge limit.Patches) (on, many)) in
        unseen line k (on, all_seen keeps (within_limits keeps coarser) k stands)

    -- the first that is seen is the first that stands: beyond the limits on bounds or patches one of these is seen
    first_stands : (f : Fault) → IsFirst (OnLine l.line (SeenLevelFault p level l)) (Some f) → IsFirst (OnLine l.line (LevelFault p level l)) (Some f)
    first_stands f first = record {
      is_one = (first.is_one.0, seen_stands f.kind first.is_one.1);
      none_before = each;
    } where
      each : (line : ℕ) (k : FaultKind) → OnLine l.line (LevelFault p level l) line k → ComesFirst f.line f.kind line k
      each line k (on, stands) = inr (first.is_one.0 ∙ sym on, by_order (cases_lt (rank k) (rank f.kind))) where
        unless_before : (seen : FaultKind) → rank seen ≤ rank k → rank k < rank f.kind → SeenLevelFault p level l seen → ⊥
        unless_before seen before less is = elim (first.none_before l.line seen (refl, is)) [
          | inl lower ↦ omega (arith, lower, first.is_one.0)
          | inr same ↦ omega (arith, same.1, before, less)
        ]

        unless_seen : rank k < rank f.kind → SeenLevelFault p level l k ⊎ (6 ≤ rank k) → ⊥
        unless_seen less (inl is) = unless_before k (omega arith) less is
        unless_seen less (inr later) =
            let keeps = keeps_where_none l form (unless_before (kind.TooLarge limit.Bounds) (omega (arith, later)) less)
            (unless_before (kind.TooLarge limit.Patches) (omega (arith, later)) less) in
            unless_before k (omega arith) less (all_seen keeps (within_limits keeps coarser) k stands)

        by_order : (rank k < rank f.kind) ⊎ (rank f.kind ≤ rank k) → rank f.kind ≤ rank k
        by_order (inr least) = least
        by_order (inl less) = absurd (unless_seen less (seen_or_later k stands))

  -- the first that is seen, or none, is the first that stands
  pub seen_first : (form : IsLevelInForm l) (coarser : 0 < level → IfSome (slice_get p.levels (level - 1)) KeepsGridLimits) (r : Option Fault)
      → IsFirst (OnLine l.line (SeenLevelFault p level l)) r → IsFirst (OnLine l.line (LevelFault p level l)) r
  seen_first form coarser None h = none_stands form coarser h
  seen_first form coarser (Some f) h = first_stands form coarser f h

-- the next coarser level keeps the limits where no level before this one has a fault
pub coarser_keeps : (p : Problem) → IsProblemInForm p → (level : ℕ) → NoneBefore p.levels (λ n l. OnLine l.line (LevelFault p n l)) level
    → 0 < level → IfSome (slice_get p.levels (level - 1)) KeepsGridLimits
coarser_keeps p form level before above = by_level (slice_get p.levels (level - 1)) refl where
  by_level : (o : Option Level) → slice_get p.levels (level - 1) ≡ o → IfSome o KeepsGridLimits
  by_level None e = tt
  by_level (Some l) e =
      let unfaulty = before (level - 1) l (omega (arith, above)) e in
      keeps_where_none l (level_in_form p form (level - 1) l e) (λ far. unfaulty l.line (kind.TooLarge limit.Bounds) (refl, far))
      (λ many. unfaulty l.line (kind.TooLarge limit.Patches) (refl, many))
