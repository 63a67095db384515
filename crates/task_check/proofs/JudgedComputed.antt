-- What is computed where a task runs is judged: a task runs on the materials and the levels of two lists.
use Rattle.std.proofs.Common.{◌≡◌, inl, inr, ◌+◌, ℕ, List, true, eq-eqb, subst, refl}
use Rattle.std.specs.Prelude.{Any, Contains, IsTrue, IsFalse, ◌==◌, slice_index_or}
use Rattle.std.specs.List.{list_any}
use Rattle.std.proofs.lemmas.Bool.{and_from, and_parts, eqb-true}
use Rattle.std.proofs.lemmas.List.Folds.{Any-from_list_any, list_any-from_Any}
use Rattle.kernel_ast.specs.declared.expression.Store.TheVariants as store
use Rattle.problem_types.specs.Lists.{computes}
use Rattle.problem_types.specs.declared.problem.Task.{Task}
use Rattle.problem_types.specs.declared.problem.Require.{Require}
use Rattle.problem_types.specs.declared.problem.GhostKind.{GhostKind}
use Rattle.problem_types.specs.declared.problem.GhostKind.TheVariants as ghosts
use Rattle.problem_types.specs.declared.problem.What.{What}
use Rattle.problem_types.specs.declared.problem.What.TheVariants as what
use Rattle.task_rules.specs.Lines.{wanted_name, wanted_level, has_computes, reduces}
use Rattle.task_rules.specs.Computed.{Somewhere, LackVariable, Lack, LeaveOut, NeverWrite, ComputeBeside, ComputeOnlyLater, HaveNeighbours, ReachesOut, ReadsWhileModified}
use Rattle.task_check.proofs.Judging.{Judged, both, denied, like, equal, passes, fails, any, contained}
use Rattle.task_check.proofs.JudgedNames.{same_store}

-- a number that is listed, by the test
listed : (xs : List ℕ) (n : ℕ) → Contains xs n → list_any (λ x. x == n) xs ≡ true
listed xs n (k, within, same) = list_any-from_Any (λ x. x == n) xs (k, n, within, same, eq-eqb n n refl)

listed_value : (xs : List ℕ) (n : ℕ) → Any (λ x. (x == n) ≡ true) xs → Contains xs n
listed_value xs n (k, x, within, same, is) =
    (k, within, subst (λ y. slice_index_or xs k y ≡ y) (eqb-true x n is) same)

from_listed : (xs : List ℕ) (n : ℕ) → list_any (λ x. x == n) xs ≡ true → Contains xs n
from_listed xs n is = listed_value xs n (Any-from_list_any (λ x. x == n) xs is)

-- on some listed material and level
abbrev OnSome : Task → (ℕ → ℕ → Type 0) → Type 0
OnSome t P = Any (λ material. Any (λ level. P material level) t.levels) t.materials

module _ (t : Task) (P : ℕ → ℕ → Type 0) where
  to_somewhere : OnSome t P → Somewhere t P
  to_somewhere (k, material, within, same, (n, level, inside, equals, holds)) =
      (material, level, and_from _ _ (listed t.materials material (k, within, same)) (listed t.levels level (n, inside, equals)), holds)

  by_lists : (material level : ℕ) → Contains t.materials material → Contains t.levels level → P material level → OnSome t P
  by_lists material level (k, within, same) (n, inside, equals) holds = (k, material, within, same, (n, level, inside, equals, holds))

  from_somewhere : Somewhere t P → OnSome t P
  from_somewhere (material, level, runs, holds) =
      let parts = and_parts _ _ runs in
      by_lists material level (from_listed t.materials material parts.0) (from_listed t.levels level parts.1) holds

  somewhere : ((material level : ℕ) → Judged (P material level)) → Judged (Somewhere t P)
  somewhere each =
      like to_somewhere from_somewhere
      (any (λ material. Any (λ level. P material level) t.levels) (λ material. any (λ level. P material level) (each material) t.levels) t.materials)

-- what tasks compute
lack_variable : (tasks : List Task) (t : Task) (w : What) → Judged (LackVariable tasks t w)
lack_variable tasks t w =
    somewhere t (λ material level. IsFalse (computes tasks (wanted_name w) material (wanted_level w level)))
    (λ material level. fails (computes tasks (wanted_name w) material (wanted_level w level)))

pub lack : (tasks : List Task) (t : Task) (w : What) → Judged (Lack tasks t w)
lack tasks t (what.Same var layers) = lack_variable tasks t (what.Same var layers)
lack tasks t (what.Coarse var layers) = lack_variable tasks t (what.Coarse var layers)
lack tasks t (what.Fine var) = lack_variable tasks t (what.Fine var)
lack tasks t (what.Number name) = fails (reduces tasks name)

pub leave_out : (tasks : List Task) (t : Task) (name : ℕ) → Judged (LeaveOut tasks t name)
leave_out tasks t name =
    somewhere t (λ material level. IsFalse (computes tasks name material level)) (λ material level. fails (computes tasks name material level))

pub never_write : (tasks : List Task) (name : ℕ) → Judged (NeverWrite tasks name)
never_write tasks name = both (fails (list_any (λ t. has_computes t.writes name) tasks)) (fails (reduces tasks name))

pub compute_beside : (tasks : List Task) (t : Task) (name : ℕ) → Judged (ComputeBeside tasks t name)
compute_beside tasks t name =
    somewhere t (λ material level. IsTrue (computes tasks name material level)) (λ material level. passes (computes tasks name material level))

pub compute_only_later : (earlier later : List Task) (t : Task) (name : ℕ) → Judged (ComputeOnlyLater earlier later t name)
compute_only_later earlier later t name =
    somewhere t (λ material level. IsFalse (computes earlier name material level) × IsTrue (computes later name material level))
    (λ material level. both (fails (computes earlier name material level)) (passes (computes later name material level)))

-- what reads while it is modified
have_neighbours : (levels : List ℕ) → Judged (HaveNeighbours levels)
have_neighbours levels =
    like (λ h. (h.1, (h.0, h.2, h.3), h.4)) (λ h. (h.1.0, h.0, h.1.1, h.1.2, h.2))
    (any (λ l. Contains levels (l + 1)) (λ l. contained levels (l + 1)) levels)

no_ghosts : (k : GhostKind) → Judged (k ≡ ghosts.None)
no_ghosts ghosts.None = inl refl
no_ghosts ghosts.Cells = inr (λ is. cc)
no_ghosts ghosts.Nodes = inr (λ is. cc)
no_ghosts ghosts.FaceX = inr (λ is. cc)
no_ghosts ghosts.FaceY = inr (λ is. cc)
no_ghosts ghosts.FaceZ = inr (λ is. cc)

reaches_out : (levels : List ℕ) (w : What) → Judged (ReachesOut levels w)
reaches_out levels (what.Same var layers) = denied (no_ghosts layers.kind)
reaches_out levels (what.Coarse var layers) = have_neighbours levels
reaches_out levels (what.Fine var) = have_neighbours levels
reaches_out levels (what.Number name) = inr (λ h. h)

pub reads_while_modified : (levels : List ℕ) (name : ℕ) (r : Require) → Judged (ReadsWhileModified levels name r)
reads_while_modified levels name r =
    like (λ h. record { store = h.0; name_is = h.1.0; reach = h.1.1 }) (λ s. (s.store, (s.name_is, s.reach)))
    (both (same_store r.store store.New) (both (equal (wanted_name r.what) name) (reaches_out levels r.what)))
