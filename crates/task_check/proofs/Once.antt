-- What a problem without faults has once only.
use Rattle.std.proofs.Common.{◌≡◌, ◌∙◌, ◌<◌, ◌+◌, ◌⊎◌, inl, inr, ℕ, Bool, true, false, Some, take, drop, ap, sym, refl, subst}
use Rattle.std.specs.Prelude.{slice_get, ◌==◌, ◌&&◌, IsTrue}
use Rattle.std.specs.Option.{is_some}
use Rattle.std.proofs.lemmas.Bool.{eq-eqb}
use Rattle.uts_geom.specs.Lists.{get-take, any_at, found_at}
use Rattle.problem_types.specs.Lists.{task_list, is_of_field, is_computes, is_reduces, reduction_write}
use Rattle.problem_types.specs.declared.problem.Problem.{Problem}
use Rattle.problem_types.specs.declared.problem.Var.{Var}
use Rattle.problem_types.specs.declared.problem.Reduction.{Reduction}
use Rattle.problem_types.specs.declared.problem.Task.{Task}
use Rattle.problem_types.specs.declared.problem.Require.{Require}
use Rattle.problem_types.specs.declared.problem.Write.{Write}
use Rattle.problem_types.specs.declared.problem.WriteKind.{WriteKind}
use Rattle.problem_types.specs.declared.problem.WriteKind.TheVariants as write
use Rattle.task_rules.specs.Lines.{has_computes, has_modifies, has_reduces, is_modifies, reduces}
use Rattle.task_rules.specs.Names.{Repeats}
use Rattle.task_check.specs.declared.fault.FaultKind.TheVariants as kind
use Rattle.task_check.specs.Lines.{IsWrittenBefore, IsUnordered}
use Rattle.task_check.specs.Faults.{of_variable, of_reduction, of_require, of_write}
use Rattle.task_check.specs.Places.{IsTaskAt, IsWriteAt}
use Rattle.task_check.specs.First.{IsFaultless}
use Rattle.task_check.proofs.AtPlaces.{any_before}

-- the two sides of a conjunction of tests
pub both : (a b : Bool) → (a && b) ≡ true → (a ≡ true) × (b ≡ true)
both true b holds = (refl, holds)
both false b holds = absurd cc

pub of_both : (a b : Bool) → a ≡ true → b ≡ true → (a && b) ≡ true
of_both a b first second = rw (first, second) refl

module _ (p : Problem) (faultless : IsFaultless p) where
  -- no variable is declared twice, and no reduction
  pub variable_twice : (i j : ℕ) (v w : Var) → i < j → slice_get p.vars i ≡ Some v → slice_get p.vars j ≡ Some w → v.name ≡ w.name → ⊥
  variable_twice i j v w before at_i at_j same =
      faultless w.line kind.Twice (of_variable j w kind.Twice at_j (any_before (λ u. u.name ≡ w.name) p.vars j i v before at_i same))

  pub reduction_twice : (i j : ℕ) (q r : Reduction) → i < j → slice_get p.reductions i ≡ Some q → slice_get p.reductions j ≡ Some r → q.name ≡ r.name → ⊥
  reduction_twice i j q r before at_i at_j same =
      faultless r.line kind.Twice (of_reduction j r kind.Twice at_j (inr (any_before (λ u. u.name ≡ r.name) p.reductions j i q before at_i same)))

module _ (p : Problem) (faultless : IsFaultless p) (list place : ℕ) (t : Task) (there : IsTaskAt p list place t) where
  -- no two requirements repeat one another
  pub never_repeats : (i j : ℕ) (q r : Require) → i < j → slice_get t.requirements i ≡ Some q → slice_get t.requirements j ≡ Some r → Repeats q r → ⊥
  never_repeats i j q r before at_i at_j repeats =
      faultless r.line kind.Twice (of_require list place t j r kind.Twice (record { task = there; stands = at_j })
      (any_before (λ u. Repeats u r) t.requirements j i q before at_i repeats))

  write_at : (j : ℕ) (w : Write) → slice_get t.writes j ≡ Some w → IsWriteAt p list place t j w
  write_at j w at = record { task = there; stands = at }

  double : (j : ℕ) (w : Write) (k : WriteKind) → slice_get t.writes j ≡ Some w → w.kind ≡ k →
      IsWrittenBefore (take place (task_list p list)) t (take j t.writes) w.name k → ⊥
  double j w k at is before = faultless w.line kind.DoubleCompute (of_write list place t j w kind.DoubleCompute (write_at j w at)
      (subst (λ (x : WriteKind). IsWrittenBefore (take place (task_list p list)) t (take j t.writes) w.name x) (sym is) before))

  computes_before : (i j : ℕ) (v : Write) (name : ℕ) → i < j → slice_get t.writes i ≡ Some v → v.name ≡ name → v.kind ≡ write.Computes →
      has_computes (take j t.writes) name ≡ true
  computes_before i j v name before at same is =
      any_at (λ (w : Write). (w.name == name) && is_computes w.kind) (take j t.writes) i v (get-take t.writes j i before ∙ at)
      (of_both (v.name == name) (is_computes v.kind) (eq-eqb v.name name same) (ap is_computes is))

  modifies_before : (i j : ℕ) (v : Write) (name : ℕ) → i < j → slice_get t.writes i ≡ Some v → v.name ≡ name → v.kind ≡ write.Modifies →
      has_modifies (take j t.writes) name ≡ true
  modifies_before i j v name before at same is =
      any_at (λ (w : Write). (w.name == name) && is_modifies w.kind) (take j t.writes) i v (get-take t.writes j i before ∙ at)
      (of_both (v.name == name) (is_modifies v.kind) (eq-eqb v.name name same) (ap is_modifies is))

  -- no two lines write one variable
  pub field_twice : (i j : ℕ) (v w : Write) → i < j → slice_get t.writes i ≡ Some v → slice_get t.writes j ≡ Some w → v.name ≡ w.name →
      is_of_field v.kind ≡ true → is_of_field w.kind ≡ true → ⊥
  field_twice i j v w before at_i at_j same field_v field_w =
      by_kinds v.kind w.kind refl refl field_v field_w
      (computes_before i j v w.name before at_i same) (modifies_before i j v w.name before at_i same)
      (λ (k : WriteKind). double j w k at_j)
      (λ is unordered. faultless w.line kind.UnorderedModify (of_write list place t j w kind.UnorderedModify (write_at j w at_j) (is, unordered)))
    where
      by_kinds : (a b : WriteKind) → v.kind ≡ a → w.kind ≡ b → is_of_field a ≡ true → is_of_field b ≡ true →
          (v.kind ≡ write.Computes → has_computes (take j t.writes) w.name ≡ true) →
          (v.kind ≡ write.Modifies → has_modifies (take j t.writes) w.name ≡ true) →
          ((k : WriteKind) → w.kind ≡ k → IsWrittenBefore (take place (task_list p list)) t (take j t.writes) w.name k → ⊥) →
          (w.kind ≡ write.Modifies → IsUnordered (take place (task_list p list)) (drop (place + 1) (task_list p list)) t (take j t.writes) w.name → ⊥) → ⊥
      by_kinds write.Computes write.Computes is_a is_b field_a field_b computed modified twice unordered = twice write.Computes is_b (inr (inl (computed is_a)))
      by_kinds write.Modifies write.Computes is_a is_b field_a field_b computed modified twice unordered = twice write.Computes is_b (inr (inr (modified is_a)))
      by_kinds write.Computes write.Modifies is_a is_b field_a field_b computed modified twice unordered = twice write.Modifies is_b (computed is_a)
      by_kinds write.Modifies write.Modifies is_a is_b field_a field_b computed modified twice unordered = unordered is_b (inr (inl (modified is_a)))
      by_kinds (write.Reduces c) b is_a is_b field_a field_b computed modified twice unordered = absurd cc
      by_kinds write.Computes (write.Reduces c) is_a is_b field_a field_b computed modified twice unordered = absurd cc
      by_kinds write.Modifies (write.Reduces c) is_a is_b field_a field_b computed modified twice unordered = absurd cc

  reduced : (j : ℕ) (w : Write) → slice_get t.writes j ≡ Some w → is_reduces w.kind ≡ true →
      IsTrue (reduces (take place (task_list p list)) w.name) ⊎ IsTrue (has_reduces (take j t.writes) w.name) → ⊥
  reduced j w at reducing before = by_kind w.kind refl reducing (λ (k : WriteKind). double j w k at)
    where
      by_kind : (k : WriteKind) → w.kind ≡ k → is_reduces k ≡ true →
          ((x : WriteKind) → w.kind ≡ x → IsWrittenBefore (take place (task_list p list)) t (take j t.writes) w.name x → ⊥) → ⊥
      by_kind (write.Reduces c) is reduces_k twice = twice (write.Reduces c) is before
      by_kind write.Computes is reduces_k twice = absurd cc
      by_kind write.Modifies is reduces_k twice = absurd cc

  -- no two lines reduce one reduction
  pub reduced_twice : (i j : ℕ) (v w : Write) → i < j → slice_get t.writes i ≡ Some v → slice_get t.writes j ≡ Some w → v.name ≡ w.name →
      is_reduces v.kind ≡ true → is_reduces w.kind ≡ true → ⊥
  reduced_twice i j v w before at_i at_j same first second =
      reduced j w at_j second (inr (any_at (λ (u : Write). (u.name == w.name) && is_reduces u.kind) (take j t.writes) i v (get-take t.writes j i before ∙ at_i)
      (of_both (v.name == w.name) (is_reduces v.kind) (eq-eqb v.name w.name same) first)))

  -- nor do two tasks
  pub reduced_by_two : (earlier : ℕ) (s : Task) → earlier < place → slice_get (task_list p list) earlier ≡ Some s →
      (i j : ℕ) (v w : Write) → slice_get s.writes i ≡ Some v → slice_get t.writes j ≡ Some w → v.name ≡ w.name →
      is_reduces v.kind ≡ true → is_reduces w.kind ≡ true → ⊥
  reduced_by_two earlier s before at i j v w at_i at_j same first second =
      reduced j w at_j second (inl (any_at (λ (u : Task). is_some (reduction_write u w.name)) (take place (task_list p list)) earlier s
      (get-take (task_list p list) place earlier before ∙ at)
      (found_at (λ (u : Write). (u.name == w.name) && is_reduces u.kind) s.writes i v at_i
      (of_both (v.name == w.name) (is_reduces v.kind) (eq-eqb v.name w.name same) first))))
