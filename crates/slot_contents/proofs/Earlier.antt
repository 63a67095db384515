-- What a requirement of a task of an accepted problem finds: what it wants is declared, an earlier task writes the new numbers, and for
-- old ones there was a step before.
use Rattle.std.proofs.Common.{◌≡◌, ◌∙◌, ◌<◌, ℕ, zero, suc, List, true, false, inl, take, ap, sym, refl, arith, subst}
use Rattle.std.specs.Prelude.{slice_get, Contains, ◌==◌}
use Rattle.std.specs.List.{list_any}
use Rattle.std.proofs.lemmas.Bool.{and_from, eq-eqb, true_from_ne_false}
use Rattle.std.proofs.lemmas.List.Elements.{All-contains}
use Rattle.uts_geom.specs.Lists.{contains_at, place_in}
use Rattle.kernel_ast.specs.declared.expression.Store.{Store}
use Rattle.kernel_ast.specs.declared.expression.Store.TheVariants as store
use Rattle.problem_types.specs.Lists.{computes, runs_on, task_list}
use Rattle.problem_types.specs.declared.problem.Problem.{Problem}
use Rattle.problem_types.specs.declared.problem.Require.{Require}
use Rattle.problem_types.specs.declared.problem.Task.{Task}
use Rattle.problem_types.specs.declared.problem.What.{What}
use Rattle.problem_types.specs.declared.problem.What.TheVariants as what
use Rattle.task_rules.specs.Computed.{Lack, LackVariable}
use Rattle.task_rules.specs.Lines.{reduces, wanted_level, wanted_name}
use Rattle.task_rules.specs.Names.{IsKnown, IsReduction, IsVariable}
use Rattle.task_check.specs.Bounds.{AreBoundedTasks, IsBounded, IsBoundedRequire, IsBoundedTask}
use Rattle.task_check.specs.Faults.{of_require}
use Rattle.task_check.specs.Lines.{FindsNothing}
use Rattle.task_check.specs.Plan.{is_of_number}
use Rattle.task_check.specs.declared.fault.FaultKind.TheVariants as kind
use Rattle.slot_contents.specs.Laws.{IsTaskOf}
use Rattle.slot_contents.proofs.Listed.{any_in}

-- the number of a step's list among the two of a problem
abbrev pub list_of : ℕ → ℕ
list_of zero = 0
list_of (suc n) = 1

pub of_two : (step : ℕ) → list_of step < 2
of_two zero = omega arith
of_two (suc n) = omega arith

pub same_list : (p : Problem) (step : ℕ) → task_list p (list_of step) ≡ task_list p step
same_list p zero = refl
same_list p (suc n) = refl

-- the task runs on a level and a material that it names
pub runs_there : (t : Task) (level material : ℕ) → Contains t.levels level → Contains t.materials material → runs_on t material level ≡ true
runs_there t level material level_there material_there =
    and_from (list_any (λ m. m == material) t.materials) (list_any (λ l. l == level) t.levels)
    (any_in (λ m. m == material) t.materials material material_there (eq-eqb material material refl))
    (any_in (λ l. l == level) t.levels level level_there (eq-eqb level level refl))

lack_number : (tasks : List Task) (t : Task) (w : What) → is_of_number w ≡ true → reduces tasks (wanted_name w) ≡ false → Lack tasks t w
lack_number tasks t (what.Same var layers) is missing = absurd cc
lack_number tasks t (what.Coarse var layers) is missing = absurd cc
lack_number tasks t (what.Fine var) is missing = absurd cc
lack_number tasks t (what.Number name) is missing = missing

lack_variable : (tasks : List Task) (t : Task) (w : What) → is_of_number w ≡ false → LackVariable tasks t w → Lack tasks t w
lack_variable tasks t (what.Same var layers) is lack = lack
lack_variable tasks t (what.Coarse var layers) is lack = lack
lack_variable tasks t (what.Fine var) is lack = lack
lack_variable tasks t (what.Number name) is lack = absurd cc

module _ (p : Problem) (step task : ℕ) (t : Task) (here : IsTaskOf p step task t) (r : Require) (r_there : Contains t.requirements r) where
  abbrev tasks : List Task
  tasks = task_list p step

  finds : FindsNothing p (list_of step) task t r.store r.what → ⊥
  finds nothing =
      let at = place_in t.requirements r r_there in
      here.accepted.faultless r.line kind.MissingCompute (of_require (list_of step) task t at.0 r kind.MissingCompute
      (record {
        task = record { of_two = of_two step; stands = ap (λ (ts : List Task). slice_get ts task) (same_list p step) ∙ here.stands };
        stands = at.1;
      }) nothing)

  finds_new : r.store ≡ store.New → Lack (take task tasks) t r.what → ⊥
  finds_new new lack = finds (subst (λ (s : Store). FindsNothing p (list_of step) task t s r.what) (sym new)
      (subst (λ (ts : List Task). Lack (take task ts) t r.what) (sym (same_list p step)) lack))

  -- an earlier task reduces the new number
  pub reduced_earlier : r.store ≡ store.New → is_of_number r.what ≡ true → reduces (take task tasks) (wanted_name r.what) ≡ true
  reduced_earlier new number = true_from_ne_false (reduces (take task tasks) (wanted_name r.what)) (λ missing.
      finds_new new (lack_number (take task tasks) t r.what number missing))

  -- an earlier task computes the new variable wherever the task runs
  pub computed_earlier : r.store ≡ store.New → is_of_number r.what ≡ false → (level material : ℕ) → runs_on t material level ≡ true →
      computes (take task tasks) (wanted_name r.what) material (wanted_level r.what level) ≡ true
  computed_earlier new variable level material runs = true_from_ne_false (computes (take task tasks) (wanted_name r.what) material (wanted_level r.what level)) (λ missing.
      finds_new new (lack_variable (take task tasks) t r.what variable (material, level, runs, missing)))

  -- old numbers are not required in the first step
  pub not_first : r.store ≡ store.Old → step ≡ 0 → ⊥
  not_first old first = finds (subst (λ (s : Store). FindsNothing p (list_of step) task t s r.what) (sym old) (inl (ap list_of first)))

-- ---- what the task keeps

tasks_bounded : (p : Problem) (step : ℕ) → IsBounded p → AreBoundedTasks p (task_list p step)
tasks_bounded p zero limits = limits.init
tasks_bounded p (suc n) limits = limits.timestep

pub task_bounded : (p : Problem) (step task : ℕ) (t : Task) → IsBounded p → IsTaskOf p step task t → IsBoundedTask p t
task_bounded p step task t limits here =
    All-contains (IsBoundedTask p) (task_list p step) t (tasks_bounded p step limits).tasks (contains_at (task_list p step) task t here.stands)

pub requirement_bounded : (p : Problem) (t : Task) (r : Require) → IsBoundedTask p t → Contains t.requirements r → IsBoundedRequire p t r
requirement_bounded p t r bounded r_there = All-contains (IsBoundedRequire p t) t.requirements r bounded.requirements r_there

pub known_variable : (p : Problem) (w : What) → is_of_number w ≡ false → IsKnown p w → IsVariable p (wanted_name w)
known_variable p (what.Same var layers) is known = known
known_variable p (what.Coarse var layers) is known = known
known_variable p (what.Fine var) is known = known
known_variable p (what.Number name) is known = absurd cc

pub known_reduction : (p : Problem) (w : What) → is_of_number w ≡ true → IsKnown p w → IsReduction p (wanted_name w)
known_reduction p (what.Same var layers) is known = absurd cc
known_reduction p (what.Coarse var layers) is known = absurd cc
known_reduction p (what.Fine var) is known = absurd cc
known_reduction p (what.Number name) is known = known
