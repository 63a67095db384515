-- What supplies a read among requirements of few layers.
use Rattle.std.proofs.Common.{◌≡◌, ◌↔◌, ◌≤◌, All, Any, subst, sym}
use Rattle.kernel_ast.specs.declared.expression.Read.{Read}
use Rattle.uts_geom.specs.declared.centring.Centring.{Centring}
use Rattle.problem_types.specs.declared.problem.Problem.{Problem}
use Rattle.problem_types.specs.declared.problem.Task.{Task}
use Rattle.problem_types.specs.declared.problem.Write.{Write}
use Rattle.task_rules.specs.Reads.{reads_of, numbers_of}
use Rattle.task_check.specs.Supplies.{kernel_centring, layers_of, SuppliesFew, IsSupplied, IsNumberSupplied, IsAllSupplied}

-- the test of requirements of few layers is the test of all, where all are of few
with_few : (p : Problem) (t : Task) (c : Centring) → All (λ q. layers_of q.what ≤ 8) t.requirements → (r : Read)
    → Any (SuppliesFew p t c r) t.requirements ↔ IsSupplied p t c r
with_few p t c few r = (λ a. (a.0, a.1, a.2, a.3, a.4.supplies), λ a. (a.0, a.1, a.2, a.3, record { few = subst (λ q. layers_of q.what ≤ 8) a.3 (few a.0 a.1 a.2); supplies = a.4 }))

pub supplied_with_few : (p : Problem) (t : Task) (w : Write) → All (λ q. layers_of q.what ≤ 8) t.requirements → (c : Centring) → c ≡ kernel_centring p w
    → (All (λ r. Any (SuppliesFew p t c r) t.requirements) (reads_of w.expr) × All (λ n. IsNumberSupplied t (n.0, n.1)) (numbers_of w.expr)) ↔ IsAllSupplied p t w
supplied_with_few p t w few c e = subst (λ d. (All (λ r. Any (SuppliesFew p t d r) t.requirements) (reads_of w.expr) × All (λ n. IsNumberSupplied t (n.0, n.1)) (numbers_of w.expr)) ↔ IsAllSupplied p t w)
    (sym e) (
      λ h. (λ k d within. (with_few p t (kernel_centring p w) few _).0 (h.0 k d within), h.1),
      λ h. (λ k d within. (with_few p t (kernel_centring p w) few _).1 (h.0 k d within), h.1),
    )
