-- What holds of a problem of which no line has a fault, beside its form.
use Rattle.std.proofs.Common.{◌≡◌, ◌≤◌, ◌<◌, ◌+◌, ◌-◌, ◌⊎◌, inl, inr, ℕ, zero, suc, List, ◌++◌, Bool, true, false, Some, length, get_or, refl, arith, subst, length-append}
use Rattle.std.specs.Prelude.{All, Any, Contains, IsTrue, slice_get}
use Rattle.std.proofs.lemmas.Bool.{cases_lt}
use Rattle.std.proofs.lemmas.List.{get_or_default, get_or_append_left, get_or-append-add}
use Rattle.std.proofs.lemmas.List.Elements.{All-contains}
use Rattle.std.proofs.lemmas.Map.Keys.{sorted_from_strictly_increasing}
use Rattle.std.proofs.lemmas.Map.Views.{length-le_from_below}
use Rattle.uts_geom.specs.Lists.{all_at, not_above, placed}
use Rattle.problem_types.specs.Form.{IsProblemInForm, IsTaskInForm, IsLevelInForm}
use Rattle.problem_types.specs.Levels.{HasNearBounds, KeepsGridLimits}
use Rattle.problem_types.specs.Lists.{task_list}
use Rattle.problem_types.specs.declared.problem.Problem.{Problem}
use Rattle.problem_types.specs.declared.problem.BoxLine.{BoxLine}
use Rattle.problem_types.specs.declared.problem.Level.{Level}
use Rattle.problem_types.specs.declared.problem.Task.{Task}
use Rattle.problem_types.specs.declared.problem.Require.{Require}
use Rattle.problem_types.specs.declared.problem.What.{What}
use Rattle.problem_types.specs.declared.problem.What.TheVariants as what
use Rattle.task_rules.specs.Lines.{wanted_level}
use Rattle.task_rules.specs.Names.{IsKnown, WantsMissingLevel}
use Rattle.task_check.specs.declared.fault.FaultKind.TheVariants as kind
use Rattle.task_check.specs.declared.fault.Which.TheVariants as limit
use Rattle.task_check.specs.Supplies.{layers_of}
use Rattle.task_check.specs.Faults.{of_ghost, of_materials, of_level, of_variable, of_reduction, of_task, of_require, of_write}
use Rattle.task_check.specs.Places.{IsTaskAt, IsRequireAt}
use Rattle.task_check.specs.First.{IsFaultless}

-- what is not from a number up and not untrue
pub not_from : (n m : ℕ) → (m ≤ n → ⊥) → n < m
not_from n m none = by_order (cases_lt n m) where
  by_order : (n < m) ⊎ (m ≤ n) → n < m
  by_order (inl below) = below
  by_order (inr from) = absurd (none from)

pub not_not_true : (b : Bool) → ((IsTrue b → ⊥) → ⊥) → IsTrue b
not_not_true true not_not = refl
not_not_true false not_not = absurd (not_not (λ t. absurd cc))

-- what holds where another thing fails holds of each value, where the other holds of none
pub all_unless : {A : Type 0} (P Q : A → Type 0) → ((x : A) → (Q x → ⊥) → P x) → (xs : List A) → (Any Q xs → ⊥) → All P xs
all_unless P Q unless xs none =
    λ k d below. unless (get_or xs k d) (λ q. none (k, get_or xs k d, below, get_or_default xs k (get_or xs k d) d below, q))

pub all_left : {A : Type 0} (P : A → Type 0) (xs ys : List A) → All P (xs ++ ys) → All P xs
all_left P xs ys each = λ k d below. subst P (get_or_append_left xs ys d k below) (each k d (omega (arith, length-append xs ys)))

pub all_right : {A : Type 0} (P : A → Type 0) (xs ys : List A) → All P (xs ++ ys) → All P ys
all_right P xs ys each = λ k d below. subst P (get_or-append-add xs ys k d) (each (length xs + k) d (omega (arith, length-append xs ys)))

pub near_if_not_far : (b : BoxLine) → ((HasNearBounds b → ⊥) → ⊥) → HasNearBounds b
near_if_not_far b not_far = λ axis below. (
  not_above _ 4096 (λ above. not_far (λ near. let bounds = near axis below in omega (arith, above, bounds.0))),
  not_above _ 4096 (λ above. not_far (λ near. let bounds = near axis below in omega (arith, above, bounds.1))),
)

-- a level in form whose bounds are not far and whose patches are not many keeps the limits of the grid
pub keeps_where_none : (l : Level) → IsLevelInForm l → (Any (λ b. HasNearBounds b → ⊥) (l.boxes ++ l.patches) → ⊥) → (1024 < length l.patches → ⊥)
    → KeepsGridLimits l
keeps_where_none l form not_far not_many =
    let near = all_unless HasNearBounds (λ b. HasNearBounds b → ⊥) near_if_not_far (l.boxes ++ l.patches) not_far in
    record {
      one_box = form.one_box;
      few_patches = not_above _ 1024 not_many;
      boxes = all_left HasNearBounds l.boxes l.patches near;
      patches = all_right HasNearBounds l.boxes l.patches near;
    }

-- The numbers of the header and the lengths of the problem's lists.
module _ (p : Problem) (faultless : IsFaultless p) where
  pub few_ghost_layers : p.ghost_limit.value ≤ 8
  few_ghost_layers = not_above _ 8 (λ above. faultless _ _ (of_ghost above))

  pub few_materials : p.materials.value ≤ 8
  few_materials = not_above _ 8 (λ above. faultless _ _ (of_materials above))

  pub few_levels : length p.levels ≤ 4
  few_levels = not_above _ 4 (λ above. let there = placed p.levels 4 above in
      faultless there.0.line (kind.TooLarge limit.Levels) (of_level 4 there.0 (kind.TooLarge limit.Levels) there.1 refl))

  pub few_variables : length p.vars ≤ 64
  few_variables = not_above _ 64 (λ above. let there = placed p.vars 64 above in
      faultless there.0.line (kind.TooLarge limit.Variables) (of_variable 64 there.0 (kind.TooLarge limit.Variables) there.1 refl))

  pub few_reductions : length p.reductions ≤ 16
  few_reductions = not_above _ 16 (λ above. let there = placed p.reductions 16 above in
      faultless there.0.line (kind.TooLarge limit.Reductions) (of_reduction 16 there.0 (kind.TooLarge limit.Reductions) there.1 refl))

  -- a list has at most 64 tasks
  pub few_tasks : (list : ℕ) → list < 2 → length (task_list p list) ≤ 64
  few_tasks list of_two = not_above _ 64 (λ above. let there = placed (task_list p list) 64 above in
      faultless there.0.line (kind.TooLarge limit.Tasks)
      (of_task list 64 there.0 (kind.TooLarge limit.Tasks) (record { of_two = of_two; stands = there.1 }) refl))

-- Levels.
pub level_in_form : (p : Problem) → IsProblemInForm p → (level : ℕ) (l : Level) → slice_get p.levels level ≡ Some l → IsLevelInForm l
level_in_form p form level l at = all_at IsLevelInForm p.levels level l at form.levels

module _ (p : Problem) (form : IsProblemInForm p) (faultless : IsFaultless p) (level : ℕ) (l : Level) (at : slice_get p.levels level ≡ Some l) where
  -- each level keeps the limits of the grid
  pub keeps_grid_limits : KeepsGridLimits l
  keeps_grid_limits = keeps_where_none l (level_in_form p form level l at)
      (λ far. faultless l.line (kind.TooLarge limit.Bounds) (of_level level l (kind.TooLarge limit.Bounds) at far))
      (λ above. faultless l.line (kind.TooLarge limit.Patches) (of_level level l (kind.TooLarge limit.Patches) at above))

-- Tasks and their lines.
module _ (p : Problem) (form : IsProblemInForm p) where
  -- each task is in form
  pub task_in_form : (list place : ℕ) (t : Task) → IsTaskAt p list place t → IsTaskInForm (length p.names) t
  task_in_form zero place t there = all_at (IsTaskInForm (length p.names)) p.init place t there.stands form.init.each
  task_in_form (suc list) place t there = all_at (IsTaskInForm (length p.names)) p.timestep place t there.stands form.timestep.each

module _ (p : Problem) (form : IsProblemInForm p) (faultless : IsFaultless p) (list place : ℕ) (t : Task) (there : IsTaskAt p list place t) where
  -- its levels are levels of the problem, and its materials materials
  pub levels_below : All (λ l. l < length p.levels) t.levels
  levels_below = all_unless (λ l. l < length p.levels) (λ l. length p.levels ≤ l) (λ l none. not_from l (length p.levels) none) t.levels
      (λ missing. faultless t.line kind.MissingLevel (of_task list place t kind.MissingLevel there missing))

  pub materials_below : All (λ m. m < p.materials.value) t.materials
  materials_below = all_unless (λ m. m < p.materials.value) (λ m. p.materials.value ≤ m) (λ m none. not_from m p.materials.value none) t.materials
      (λ unknown. faultless t.line kind.Unknown (of_task list place t kind.Unknown there unknown))

  -- both lists are short
  pub few_levels_of_task : length t.levels ≤ 4
  few_levels_of_task =
      let fit = length-le_from_below (length p.levels) t.levels (sorted_from_strictly_increasing t.levels (task_in_form p form list place t there).levels.ascending) levels_below in
      omega (arith, fit, few_levels p faultless)

  pub few_materials_of_task : length t.materials ≤ 8
  few_materials_of_task =
      let fit = length-le_from_below p.materials.value t.materials (sorted_from_strictly_increasing t.materials (task_in_form p form list place t there).materials.ascending) materials_below in
      omega (arith, fit, few_materials p faultless)

  -- it has at most 64 lines
  few_requirements : length t.requirements ≤ 64
  few_requirements = not_above _ 64 (λ above. let line = placed t.requirements 64 above in
      faultless line.0.line (kind.TooLarge limit.Lines)
      (of_require list place t 64 line.0 (kind.TooLarge limit.Lines) (record { task = there; stands = line.1 }) refl))

  pub few_lines : length t.requirements + length t.writes ≤ 64
  few_lines = not_above _ 64 (λ above.
      let line = placed t.writes (64 - length t.requirements) (omega (arith, above, few_requirements)) in
      faultless line.0.line (kind.TooLarge limit.Lines)
      (of_write list place t (64 - length t.requirements) line.0 (kind.TooLarge limit.Lines) (record { task = there; stands = line.1 }) (omega (arith, few_requirements))))

-- A requirement.
module _ (p : Problem) (faultless : IsFaultless p) (list place : ℕ) (t : Task) (at_line : ℕ) (r : Require) (there : IsRequireAt p list place t at_line r) where
  -- it asks for few layers
  pub few_layers : layers_of r.what ≤ 8
  few_layers =
      let within : layers_of r.what ≤ p.ghost_limit.value =
      not_above (layers_of r.what) p.ghost_limit.value (λ above. faultless r.line kind.GhostTooWide (of_require list place t at_line r kind.GhostTooWide there above)) in
      omega (arith, within, few_ghost_layers p faultless)

  -- its name is declared
  pub is_known : IsKnown p r.what
  is_known = known_unless p r.what (λ unknown. faultless r.line kind.Unknown (of_require list place t at_line r kind.Unknown there unknown))
    where
      known_unless : (q : Problem) (w : What) → ((IsKnown q w → ⊥) → ⊥) → IsKnown q w
      known_unless q (what.Same var layers) not_not = not_not_true _ not_not
      known_unless q (what.Coarse var layers) not_not = not_not_true _ not_not
      known_unless q (what.Fine var) not_not = not_not_true _ not_not
      known_unless q (what.Number name) not_not = not_not_true _ not_not

  pub none_missing : WantsMissingLevel (length p.levels) t.levels r.what → ⊥
  none_missing missing = faultless r.line kind.MissingLevel (of_require list place t at_line r kind.MissingLevel there missing)

  -- the level that it wants is there
  pub wanted_below : (level : ℕ) → Contains t.levels level → level < length p.levels → wanted_level r.what level < length p.levels
  wanted_below level runs below = by_what r.what none_missing
    where
      by_what : (w : What) → (WantsMissingLevel (length p.levels) t.levels w → ⊥) → wanted_level w level < length p.levels
      by_what (what.Same var layers) none = below
      by_what (what.Coarse var layers) none = omega arith
      by_what (what.Fine var) none = All-contains (λ l. l + 1 < length p.levels) t.levels level
          (all_unless (λ l. l + 1 < length p.levels) (λ l. length p.levels ≤ l + 1) (λ l no. not_from (l + 1) (length p.levels) no) t.levels none) runs
      by_what (what.Number name) none = below
