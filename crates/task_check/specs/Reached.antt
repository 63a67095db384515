-- What the requirements of a task reach: the level that they want, by the windows that they ask for.
use Rattle.std.proofs.Common.{◌≡◌, ◌≤◌, ℕ, Bool, true, false, Option, Some, None, refl, subst}
use Rattle.kernel_ast.specs.declared.expression.Store.{Store}
use Rattle.kernel_ast.specs.declared.expression.Store.TheVariants as store
use Rattle.problem_types.specs.Levels.{cells_of}
use Rattle.problem_types.specs.Lists.{centring_of}
use Rattle.problem_types.specs.declared.problem.Problem.{Problem}
use Rattle.problem_types.specs.declared.problem.Level.{Level}
use Rattle.problem_types.specs.declared.problem.Task.{Task}
use Rattle.problem_types.specs.declared.problem.Ghost.{Ghost}
use Rattle.problem_types.specs.declared.problem.GhostKind.{GhostKind}
use Rattle.problem_types.specs.declared.problem.GhostKind.TheVariants as ghosts
use Rattle.problem_types.specs.declared.problem.What.{What}
use Rattle.problem_types.specs.declared.problem.What.TheVariants as what
use Rattle.patch_regions.specs.Regions.{patch_at}
use Rattle.ghost_rules.specs.Windows.{AreFewSeen}
use Rattle.task_rules.specs.Lines.{has_modifies, wanted_level, wanted_name}
use Rattle.task_check.specs.Plan.{is_of_number, wanted_window}
use Rattle.task_check.specs.Reaches.{IsFewReached, reach_of, reach_window, reached_level}
use Rattle.task_check.specs.Supplies.{layers_of, seen_by_kind, seen_of}
use Rattle.task_check.specs.declared.plan.reach.Reach.{Reach}
use Rattle.task_check.specs.declared.plan.reach.Reach.TheVariants as reaches

-- a requirement of a variable reaches the level that it wants, by the windows that it asks for
pub record IsReachedBy (p : Problem) (t : Task) (at : Store) (w : What) (reach : Reach) : Type 0 where
  pub variable : is_of_number w ≡ false
  pub level_is : (level : ℕ) → reached_level reach level ≡ wanted_level w level
  pub window_is : (level : ℕ) (l : Level) (patch : ℕ) → reach_window p reach (centring_of p (wanted_name w)) level l patch ≡ wanted_window p t at w level l patch
  pub few : layers_of w ≤ 8 → IsFewReached reach

few_seen : (modifies : Bool) (layers : Ghost) (k : GhostKind) (at : Store) → layers.n ≤ 8 → AreFewSeen (seen_by_kind modifies layers k at)
few_seen true layers ghosts.None store.New few = tt
few_seen modifies layers k at few = few

pub reached_by : (p : Problem) (t : Task) (at : Store) (w : What) (reach : Reach) → reach_of t at w ≡ Some reach → IsReachedBy p t at w reach
reached_by p t at (what.Same var layers) reach is =
    let one : reaches.Same (seen_of t var at layers) ≡ reach = cc in
    subst (IsReachedBy p t at (what.Same var layers)) one (record {
      variable = refl;
      level_is = λ level. refl;
      window_is = λ level l patch. refl;
      few = few_seen (has_modifies t.writes var) layers layers.kind at;
    })
reached_by p t at (what.Coarse var layers) reach is =
    let one : reaches.Coarse layers ≡ reach = cc in
    subst (IsReachedBy p t at (what.Coarse var layers)) one (record {
      variable = refl;
      level_is = λ level. refl;
      window_is = λ level l patch. refl;
      few = λ few. few;
    })
reached_by p t at (what.Fine var) reach is =
    let one : reaches.Fine ≡ reach = cc in
    subst (IsReachedBy p t at (what.Fine var)) one (record {
      variable = refl;
      level_is = λ level. refl;
      window_is = λ level l patch. refl;
      few = λ few. tt;
    })
reached_by p t at (what.Number name) reach is = absurd cc

-- a requirement that reaches nothing is of a reduction
pub reaches_nothing : (t : Task) (at : Store) (w : What) → reach_of t at w ≡ None → is_of_number w ≡ true
reaches_nothing t at (what.Same var layers) is = absurd cc
reaches_nothing t at (what.Coarse var layers) is = absurd cc
reaches_nothing t at (what.Fine var) is = absurd cc
reaches_nothing t at (what.Number name) is = refl

-- and asks for the cells of the patch
pub asks_for_cells : (p : Problem) (t : Task) (at : Store) (w : What) (level : ℕ) (l : Level) (patch : ℕ) → reach_of t at w ≡ None →
    wanted_window p t at w level l patch ≡ cells_of (patch_at l patch)
asks_for_cells p t at (what.Same var layers) level l patch is = absurd cc
asks_for_cells p t at (what.Coarse var layers) level l patch is = absurd cc
asks_for_cells p t at (what.Fine var) level l patch is = absurd cc
asks_for_cells p t at (what.Number name) level l patch is = refl
