-- The lines of a problem in form rise, part after part.
use Rattle.std.proofs.Common.{◌≡◌, inl, inr, ℕ, zero, suc, ◌<◌, ◌∙◌, refl, sym, ap, arith, subst, List, [], ◌∷◌, ◌++◌, map, slice_get, All, ◌≤◌, Option, Some, None}
use Rattle.std.specs.List.{flat_map}
use Rattle.std.specs.Option.{option_or}
use Rattle.std.proofs.lemmas.Option.{none-some, slice_get-get_or}
use Rattle.uts_geom.specs.Lists.{not_above}
use Rattle.problem_types.specs.Form.{IsProblemInForm, grid_lines, timestep_lines, later_lines, level_lines, task_lines, closing_lines, schedule_lines}
use Rattle.problem_types.specs.Lists.{task_list}
use Rattle.problem_types.specs.declared.problem.Problem.{Problem}
use Rattle.problem_types.specs.declared.problem.Task.{Task}
use Rattle.task_check.specs.declared.fault.Fault.{Fault}
use Rattle.task_check.specs.declared.fault.Which.TheVariants as limit
use Rattle.task_check.specs.First.{IsFirst}
use Rattle.task_check.specs.Parts.{Either, OnLine, OnNumber, OfNumbers, OfLevels, OfGrid, OfVariables, OfReductions, OfTask, OfTasks, OfRequirements, OfWrites, OfKeeps, OfLists}
use Rattle.task_check.specs.declared.fault.FaultKind.TheVariants as kind
use Rattle.task_check.specs.Supplies.{layers_of}
use Rattle.task_check.proofs.Accepted.{all_unless}
use Rattle.task_check.proofs.Rising.{Rises, rising, rises_left, rises_right, among_left, one_each}
use Rattle.task_check.proofs.Walk.{StandsOn, one_line, items_on, both_on, in_turn}

-- the lines of the statements from the first number on
abbrev pub numbers_lines : Problem → List ℕ
numbers_lines p = p.steps.line ∷ p.dump.line ∷ p.ghost_limit.line ∷ p.materials.line ∷ []

-- the lines after the levels
abbrev pub declared_lines : Problem → List ℕ
declared_lines p = map (λ v. v.line) p.vars ++ (map (λ q. q.line) p.reductions ++ schedule_lines p)

pub all_rise : (p : Problem) → IsProblemInForm p → Rises (grid_lines p ++ declared_lines p)
unfolding later_lines
all_rise p f = (rising (p.version.line ∷ later_lines p) f.lines.ascending).1

pub grid_rises : (p : Problem) → IsProblemInForm p → Rises (numbers_lines p ++ flat_map level_lines p.levels)
unfolding grid_lines
grid_rises p f = rises_left (grid_lines p) (declared_lines p) (all_rise p f)

pub rest_rises : (p : Problem) → IsProblemInForm p → Rises (declared_lines p)
rest_rises p f = rises_right (grid_lines p) (declared_lines p) (all_rise p f)

pub after_variables : (p : Problem) → IsProblemInForm p → Rises (map (λ q. q.line) p.reductions ++ schedule_lines p)
after_variables p f = rises_right (map (λ v. v.line) p.vars) _ (rest_rises p f)

pub schedule_rises : (p : Problem) → IsProblemInForm p → Rises (schedule_lines p)
schedule_rises p f = rises_right (map (λ q. q.line) p.reductions) _ (after_variables p f)

pub init_rises : (p : Problem) → IsProblemInForm p → Rises (flat_map task_lines p.init ++ timestep_lines p)
init_rises p f = (schedule_rises p f).1

pub timestep_rises : (p : Problem) → IsProblemInForm p → Rises (flat_map task_lines p.timestep ++ closing_lines p)
unfolding timestep_lines
timestep_rises p f = (rises_right (flat_map task_lines p.init) (timestep_lines p) (init_rises p f)).1

pub variables_rise : (p : Problem) → IsProblemInForm p → Rises (flat_map (λ v. v.line ∷ []) p.vars)
variables_rise p f = subst Rises (sym (one_each (λ v. v.line) p.vars)) (rises_left (map (λ v. v.line) p.vars) _ (rest_rises p f))

pub reductions_rise : (p : Problem) → IsProblemInForm p → Rises (flat_map (λ q. q.line ∷ []) p.reductions)
reductions_rise p f = subst Rises (sym (one_each (λ q. q.line) p.reductions)) (rises_left (map (λ q. q.line) p.reductions) _ (after_variables p f))

pub keeps_rise : (p : Problem) → IsProblemInForm p → Rises (flat_map (λ k. k.line ∷ []) p.keeps)
keeps_rise p f = subst Rises (sym (one_each (λ k. k.line) p.keeps))
    (rises_left (map (λ k. k.line) p.keeps) _ (rises_right (flat_map task_lines p.timestep) (closing_lines p) (timestep_rises p f)))

pub tasks_rise : (p : Problem) → IsProblemInForm p → (list : ℕ) → Rises (flat_map task_lines (task_list p list))
tasks_rise p f zero = rises_left (flat_map task_lines p.init) (timestep_lines p) (init_rises p f)
tasks_rise p f (suc list) = rises_left (flat_map task_lines p.timestep) (closing_lines p) (timestep_rises p f)

-- the lines of one item rise
item_rises : {A : Type 0} (lines : A → List ℕ) (xs : List A) (i : ℕ) (x : A) → Rises (flat_map lines xs) → slice_get xs i ≡ Some x → Rises (lines x)
item_rises lines [] i x r e = absurd (none-some x e)
item_rises lines (y ∷ xs) zero x r e = subst (λ z. Rises (lines z)) (let same : y ≡ x = cc in same) (rises_left (lines y) (flat_map lines xs) r)
item_rises lines (y ∷ xs) (suc i) x r e = item_rises lines xs i x (rises_right (lines y) (flat_map lines xs) r) e

pub task_rises : (p : Problem) → IsProblemInForm p → (list place : ℕ) (t : Task) → slice_get (task_list p list) place ≡ Some t → Rises (task_lines t)
task_rises p f list place t e = item_rises task_lines (task_list p list) place t (tasks_rise p f list) e

-- where the faults of each part stand
abbrev materials_lines : Problem → List ℕ
materials_lines p = p.materials.line ∷ []

abbrev ghost_lines : Problem → List ℕ
ghost_lines p = p.ghost_limit.line ∷ materials_lines p

abbrev dump_lines : Problem → List ℕ
dump_lines p = p.dump.line ∷ ghost_lines p

ghost_on : (p : Problem) → StandsOn (Either (OnNumber p.ghost_limit 8 limit.Ghost) (OnNumber p.materials 8 limit.Materials)) (ghost_lines p)
ghost_on p = both_on (OnNumber p.ghost_limit 8 limit.Ghost) (OnNumber p.materials 8 limit.Materials) (p.ghost_limit.line ∷ []) (materials_lines p)
    (one_line p.ghost_limit.line _) (one_line p.materials.line _)

dump_on : (p : Problem) → StandsOn (Either (OnNumber p.dump 65535 limit.Dump)
    (Either (OnNumber p.ghost_limit 8 limit.Ghost) (OnNumber p.materials 8 limit.Materials))) (dump_lines p)
dump_on p = both_on (OnNumber p.dump 65535 limit.Dump) _ (p.dump.line ∷ []) (ghost_lines p) (one_line p.dump.line _) (ghost_on p)

pub numbers_on : (p : Problem) → StandsOn (OfNumbers p) (numbers_lines p)
numbers_on p = both_on (OnNumber p.steps 65535 limit.Steps) _ (p.steps.line ∷ []) (dump_lines p) (one_line p.steps.line _) (dump_on p)

-- the first fault before the levels, from those of each line
pub numbers_in_turn : (p : Problem) → IsProblemInForm p → (steps dump layers materials : Option Fault)
    → IsFirst (OnNumber p.steps 65535 limit.Steps) steps → IsFirst (OnNumber p.dump 65535 limit.Dump) dump
    → IsFirst (OnNumber p.ghost_limit 8 limit.Ghost) layers → IsFirst (OnNumber p.materials 8 limit.Materials) materials
    → IsFirst (OfNumbers p) (option_or steps (option_or dump (option_or layers materials)))
numbers_in_turn p f steps dump layers materials of_steps of_dump of_layers of_materials =
    let rises : Rises (numbers_lines p) = rises_left (numbers_lines p) (flat_map level_lines p.levels) (grid_rises p f) in
    in_turn (OnNumber p.steps 65535 limit.Steps) _ (p.steps.line ∷ []) (dump_lines p) (one_line p.steps.line _) (dump_on p) rises steps _ of_steps
    (in_turn (OnNumber p.dump 65535 limit.Dump) _ (p.dump.line ∷ []) (ghost_lines p) (one_line p.dump.line _) (ghost_on p) rises.1 dump _ of_dump
    (in_turn (OnNumber p.ghost_limit 8 limit.Ghost) _ (p.ghost_limit.line ∷ []) (materials_lines p) (one_line p.ghost_limit.line _)
    (one_line p.materials.line _) rises.1.1 layers materials of_layers of_materials))

pub levels_on : (p : Problem) → StandsOn (OfLevels p) (flat_map level_lines p.levels)
levels_on p = items_on level_lines p.levels _ (λ place l line k s. inl s.0)

pub variables_on : (p : Problem) → StandsOn (OfVariables p) (map (λ v. v.line) p.vars)
variables_on p = subst (StandsOn (OfVariables p)) (one_each (λ v. v.line) p.vars) (items_on (λ v. v.line ∷ []) p.vars _ (λ place v line k s. inl s.0))

pub reductions_on : (p : Problem) → StandsOn (OfReductions p) (map (λ q. q.line) p.reductions)
reductions_on p = subst (StandsOn (OfReductions p)) (one_each (λ q. q.line) p.reductions) (items_on (λ q. q.line ∷ []) p.reductions _ (λ place q line k s. inl s.0))

pub keeps_on : (p : Problem) → StandsOn (OfKeeps p) (map (λ k. k.line) p.keeps)
keeps_on p = subst (StandsOn (OfKeeps p)) (one_each (λ k. k.line) p.keeps) (items_on (λ k. k.line ∷ []) p.keeps _ (λ place q line k s. inl s.0))

pub requirements_on : (p : Problem) (list place : ℕ) (t : Task) → StandsOn (OfRequirements p list place t) (map (λ r. r.line) t.requirements)
requirements_on p list place t = subst (StandsOn (OfRequirements p list place t)) (one_each (λ r. r.line) t.requirements)
    (items_on (λ r. r.line ∷ []) t.requirements _ (λ at_line r line k s. inl s.0))

pub writes_on : (p : Problem) (list place : ℕ) (t : Task) → StandsOn (OfWrites p list place t) (map (λ w. w.line) t.writes)
writes_on p list place t = subst (StandsOn (OfWrites p list place t)) (one_each (λ w. w.line) t.writes)
    (items_on (λ w. w.line ∷ []) t.writes _ (λ at_line w line k s. inl s.0))

pub task_on : (p : Problem) (list place : ℕ) (t : Task) → StandsOn (OfTask p list place t) (task_lines t)
task_on p list place t = both_on (OnLine t.line _) _ (t.line ∷ []) _ (one_line _ _)
    (both_on (OfRequirements p list place t) (OfWrites p list place t) _ _ (requirements_on p list place t) (writes_on p list place t))

pub tasks_on : (p : Problem) (list : ℕ) → StandsOn (OfTasks p list) (flat_map task_lines (task_list p list))
tasks_on p list = items_on task_lines (task_list p list) (OfTask p list) (task_on p list)

pub requirements_rise : (p : Problem) → IsProblemInForm p → (list place : ℕ) (t : Task) → slice_get (task_list p list) place ≡ Some t
    → Rises (flat_map (λ r. r.line ∷ []) t.requirements)
requirements_rise p f list place t e = subst Rises (sym (one_each (λ r. r.line) t.requirements))
    (rises_left (map (λ r. r.line) t.requirements) _ (task_rises p f list place t e).1)

pub writes_rise : (p : Problem) → IsProblemInForm p → (list place : ℕ) (t : Task) → slice_get (task_list p list) place ≡ Some t
    → Rises (flat_map (λ w. w.line ∷ []) t.writes)
writes_rise p f list place t e = subst Rises (sym (one_each (λ w. w.line) t.writes))
    (rises_right (map (λ r. r.line) t.requirements) _ (task_rises p f list place t e).1)

pub closing_on : (p : Problem) → StandsOn (OfKeeps p) (closing_lines p)
closing_on p line k s = among_left (map (λ k. k.line) p.keeps) _ line (keeps_on p line k s)

pub after_init_on : (p : Problem) → StandsOn (Either (OfTasks p 1) (OfKeeps p)) (timestep_lines p)
unfolding timestep_lines
after_init_on p line k s = inr (both_on (OfTasks p 1) (OfKeeps p) (flat_map task_lines p.timestep) (closing_lines p) (tasks_on p 1) (closing_on p) line k s)

pub lists_on : (p : Problem) → StandsOn (OfLists p) (schedule_lines p)
lists_on p line k s = inr (both_on (OfTasks p 0) (Either (OfTasks p 1) (OfKeeps p)) (flat_map task_lines p.init) (timestep_lines p) (tasks_on p 0) (after_init_on p) line k s)

pub grid_on : (p : Problem) → StandsOn (OfGrid p) (grid_lines p)
unfolding grid_lines
grid_on p = both_on (OfNumbers p) (OfLevels p) (numbers_lines p) (flat_map level_lines p.levels) (numbers_on p) (levels_on p)

pub after_variables_on : (p : Problem) → StandsOn (Either (OfReductions p) (OfLists p)) (map (λ q. q.line) p.reductions ++ schedule_lines p)
after_variables_on p = both_on (OfReductions p) (OfLists p) (map (λ q. q.line) p.reductions) (schedule_lines p) (reductions_on p) (lists_on p)

pub after_grid_on : (p : Problem) → StandsOn (Either (OfVariables p) (Either (OfReductions p) (OfLists p))) (declared_lines p)
after_grid_on p = both_on (OfVariables p) (Either (OfReductions p) (OfLists p)) (map (λ v. v.line) p.vars) _ (variables_on p) (after_variables_on p)

-- the layers of requirements without faults are few
pub few_layers_where_none : (p : Problem) (list place : ℕ) (t : Task) → p.ghost_limit.value ≤ 8 → IsFirst (OfRequirements p list place t) None
    → All (λ r. layers_of r.what ≤ 8) t.requirements
few_layers_where_none p list place t few none = all_unless (λ r. layers_of r.what ≤ 8) (λ r. p.ghost_limit.value < layers_of r.what)
    (λ r narrow. omega (arith, few, not_above _ p.ghost_limit.value narrow)) t.requirements
    (λ any. none any.1.line kind.GhostTooWide (record { place = any.0; item = any.1; at = slice_get-get_or t.requirements any.0 any.1 any.2 ∙ ap Some any.3; fault = (refl, any.4) }))
