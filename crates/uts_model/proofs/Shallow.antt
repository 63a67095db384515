-- The kernels that are found in a task are among its lines.
use Rattle.std.proofs.Common.{◌≡◌, ◌≤◌, refl, arith, suc, List, [], ◌∷◌, Bool, true, false, cond, Option, Some, None, find}
use Rattle.std.specs.Prelude.{◌==◌, ◌&&◌, All, ℕ}
use Rattle.std.specs.Option.{option_map}
use Rattle.kernel_ast.specs.Size.{depth_of}
use Rattle.kernel_ast.specs.declared.expression.Expr.{Expr}
use Rattle.problem_types.specs.Lists.{is_of_field, is_reduces, runs_on, field_write, reduction_write}
use Rattle.problem_types.specs.declared.problem.Task.{Task}
use Rattle.problem_types.specs.declared.problem.Write.{Write}
use Rattle.uts_model.specs.Kernels.{field_kernel}

-- what holds of each item holds of the one that is found
found_holds : {A : Type 0} (P : A → Type 0) (q : A → Bool) (xs : List A) (x : A) → All P xs → find q xs ≡ Some x → P x
found_holds P q [] x each found = absurd cc
found_holds P q (y ∷ ys) x each found =
    by_test (q y) found (λ later. found_holds P q ys x (λ k d below. each (suc k) d (omega arith)) later)
  where
    by_test : (b : Bool) → cond b (Some y) (find q ys) ≡ Some x → (find q ys ≡ Some x → P x) → P x
    by_test true here later = let same : y ≡ x = cc in rw (← same) (each 0 y (omega arith))
    by_test false here later = later here

module _ (t : Task) (shallow : All (λ w. depth_of w.expr ≤ 64) t.writes) where
  pub shallow_reduction : (name : ℕ) (w : Write) → reduction_write t name ≡ Some w → depth_of w.expr ≤ 64
  shallow_reduction name w found = found_holds (λ v. depth_of v.expr ≤ 64) (λ v. (v.name == name) && is_reduces v.kind) t.writes w shallow found

  pub shallow_kernel : (name material level : ℕ) (e : Expr) → field_kernel t name material level ≡ Some e → depth_of e ≤ 64
  shallow_kernel name material level e found = by_run (runs_on t material level) (field_write t name) refl found
    where
      by_run : (runs : Bool) (w : Option Write) → field_write t name ≡ w → cond runs (option_map (λ v. v.expr) w) None ≡ Some e → depth_of e ≤ 64
      by_run true (Some w) is here =
          let same : w.expr ≡ e = cc in
          rw (← same) (found_holds (λ v. depth_of v.expr ≤ 64) (λ v. (v.name == name) && is_of_field v.kind) t.writes w shallow is)
      by_run true None is here = absurd cc
      by_run false w is here = absurd cc
