-- Whether a task requires what a kernel reads is judged.
use Rattle.std.proofs.Common.{◌≡◌, inl, inr, ℕ, refl}
use Rattle.kernel_ast.specs.Form.{is_fine}
use Rattle.kernel_ast.specs.declared.expression.Store.{Store}
use Rattle.kernel_ast.specs.declared.expression.How.{How}
use Rattle.kernel_ast.specs.declared.expression.How.TheVariants as how
use Rattle.kernel_ast.specs.declared.expression.Read.{Read}
use Rattle.uts_geom.specs.declared.centring.Centring.{Centring}
use Rattle.uts_geom.specs.declared.centring.Centring.TheVariants as centring
use Rattle.problem_types.specs.Lists.{centring_of}
use Rattle.problem_types.specs.declared.problem.Problem.{Problem}
use Rattle.problem_types.specs.declared.problem.Task.{Task}
use Rattle.problem_types.specs.declared.problem.Require.{Require}
use Rattle.problem_types.specs.declared.problem.What.{What}
use Rattle.problem_types.specs.declared.problem.What.TheVariants as what
use Rattle.problem_types.specs.declared.problem.Write.{Write}
use Rattle.ghost_rules.specs.declared.seen.Seen.TheVariants as seen
use Rattle.ghost_rules.specs.Windows.{is_offset_allowed}
use Rattle.task_rules.specs.Reads.{reads_of, numbers_of}
use Rattle.task_check.specs.Supplies.{seen_of, kernel_centring, Covers, Supplies, IsSupplied, IsNumberSupplied, IsAllSupplied}
use Rattle.task_check.proofs.Judging.{Judged, both, like, equal, passes, all, any}
use Rattle.task_check.proofs.JudgedNames.{same_store}

same_centring : (a b : Centring) → Judged (a ≡ b)
same_centring centring.Cell centring.Cell = inl refl
same_centring centring.Node centring.Node = inl refl
same_centring centring.FaceX centring.FaceX = inl refl
same_centring centring.FaceY centring.FaceY = inl refl
same_centring centring.FaceZ centring.FaceZ = inl refl
same_centring a b = inr (λ is. cc)

module _ (p : Problem) (t : Task) (kernel : Centring) (r : Read) where
  covers : (h : How) (w : What) → Judged (Covers p t kernel r h w)
  covers how.Same (what.Same var layers) =
      both (equal var r.name) (passes (is_offset_allowed (seen_of t r.name r.store layers) (centring_of p r.name) kernel r.offset))
  covers how.Coarse (what.Coarse var layers) =
      both (equal var r.name) (passes (is_offset_allowed (seen.Ghosted layers) (centring_of p r.name) kernel r.offset))
  covers h (what.Fine var) =
      like (λ c. (c.0, c.1.0, c.1.1)) (λ c. (c.0, (c.1, c.2)))
      (both (passes (is_fine h)) (both (equal var r.name) (same_centring (centring_of p r.name) kernel)))
  covers h w = inr (λ c. c)

  supplies : (q : Require) → Judged (Supplies p t kernel r q)
  supplies q =
      like (λ h. record { store = h.0; covers = h.1 }) (λ s. (s.store, s.covers)) (both (same_store q.store r.store) (covers r.how q.what))

  supplied : Judged (IsSupplied p t kernel r)
  supplied = any (Supplies p t kernel r) supplies t.requirements

is_number : (w : What) (name : ℕ) → Judged (w ≡ what.Number name)
is_number (what.Number n) name = like (λ is. cc) (λ is. cc) (equal n name)
is_number (what.Same var layers) name = inr (λ is. cc)
is_number (what.Coarse var layers) name = inr (λ is. cc)
is_number (what.Fine var) name = inr (λ is. cc)

number_supplied : (t : Task) (n : Store × ℕ) → Judged (IsNumberSupplied t n)
number_supplied t n =
    any (λ q. (q.store ≡ n.0) × (q.what ≡ what.Number n.1)) (λ q. both (same_store q.store n.0) (is_number q.what n.1)) t.requirements

pub all_supplied : (p : Problem) (t : Task) (w : Write) → Judged (IsAllSupplied p t w)
all_supplied p t w =
    both (all (IsSupplied p t (kernel_centring p w)) (supplied p t (kernel_centring p w)) (reads_of w.expr))
    (all (IsNumberSupplied t) (number_supplied t) (numbers_of w.expr))
