-- An accepted problem keeps the limits, and has what its lines name.
use Rattle.std.proofs.Common.{◌≡◌, ◌<◌, ◌⊎◌, inl, inr, ℕ, List, Some, arith}
use Rattle.std.specs.Prelude.{All, slice_get, length}
use Rattle.std.proofs.lemmas.List.Elements.{All-contains}
use Rattle.std.proofs.lemmas.Option.{slice_get-get_or}
use Rattle.uts_geom.specs.Lists.{not_above}
use Rattle.problem_types.specs.Form.{IsProblemInForm}
use Rattle.problem_types.specs.Lists.{task_list}
use Rattle.problem_types.specs.declared.problem.Problem.{Problem}
use Rattle.problem_types.specs.declared.problem.Level.{Level}
use Rattle.problem_types.specs.declared.problem.Task.{Task}
use Rattle.problem_types.specs.declared.problem.Require.{Require}
use Rattle.task_rules.specs.Names.{IsVariable, IsReduction, AreNamesKnown}
use Rattle.task_check.specs.declared.fault.FaultKind.TheVariants as kind
use Rattle.task_check.specs.declared.fault.Which.TheVariants as limit
use Rattle.task_check.specs.Bounds.{IsBoundedLevel, IsBoundedRequire, IsBoundedTask, AreBoundedTasks, IsBounded}
use Rattle.task_check.specs.Faults.{of_steps, of_dump, of_level, of_write, of_keep}
use Rattle.task_check.specs.First.{IsFaultless}
use Rattle.task_check.specs.Laws.{AcceptedProblemsAreBounded}
use Rattle.task_check.specs.Lines.{cell_count}
use Rattle.task_check.specs.Places.{IsTaskAt, IsRequireAt}
use Rattle.task_check.specs.Supplies.{IsAllSupplied}
use Rattle.task_check.proofs.Accepted.{few_ghost_layers, few_materials, few_levels, few_variables, few_reductions, few_tasks, few_lines, few_layers, is_known, none_missing, wanted_below, keeps_grid_limits, levels_below, materials_below}
use Rattle.task_check.proofs.Goodness.{is_good}
use Rattle.task_check.proofs.Judging.{Judged, either}
use Rattle.task_check.proofs.JudgedNames.{names_known, variable, reduction}
use Rattle.task_check.proofs.JudgedSupplies.{all_supplied}

-- what is judged, and does not fail, holds
not_not : (P : Type 0) → Judged P → ((P → ⊥) → ⊥) → P
not_not P judged none = elim judged [ inl holds ↦ holds | inr fails ↦ absurd (none fails) ]

-- what holds at each place of a list holds of each value
by_places : {A : Type 0} (P : A → Type 0) (xs : List A) → ((place : ℕ) (x : A) → slice_get xs place ≡ Some x → P x) → All P xs
by_places P xs at = λ place d below. at place _ (slice_get-get_or xs place d below)

module _ (p : Problem) (form : IsProblemInForm p) (faultless : IsFaultless p) where
  level_is_bounded : (level : ℕ) (l : Level) → slice_get p.levels level ≡ Some l → IsBoundedLevel p level l
  level_is_bounded level l at = record {
    limits = keeps_grid_limits p form faultless level l at;
    good = is_good p form faultless level l at;
    cells = not_above (cell_count l) 262144
        (λ above. faultless l.line (kind.TooLarge limit.Cells) (of_level level l (kind.TooLarge limit.Cells) at above));
  }

  require_is_bounded : (list place : ℕ) (t : Task) → IsTaskAt p list place t → (at_line : ℕ) (r : Require) → IsRequireAt p list place t at_line r
      → IsBoundedRequire p t r
  require_is_bounded list place t task at_line r there = record {
    few = few_layers p faultless list place t at_line r there;
    known = is_known p faultless list place t at_line r there;
    none_missing = none_missing p faultless list place t at_line r there;
    wanted = λ level runs. wanted_below p faultless list place t at_line r there level runs
        (All-contains (λ l. l < length p.levels) t.levels level (levels_below p form faultless list place t task) runs);
  }

  task_is_bounded : (list place : ℕ) (t : Task) → IsTaskAt p list place t → IsBoundedTask p t
  task_is_bounded list place t there = record {
    levels = levels_below p form faultless list place t there;
    materials = materials_below p form faultless list place t there;
    names = by_places (AreNamesKnown p) t.writes (λ at_line w at. not_not (AreNamesKnown p w) (names_known p w)
        (λ unknown. faultless w.line kind.Unknown (of_write list place t at_line w kind.Unknown (record { task = there; stands = at }) unknown)));
    few_lines = few_lines p form faultless list place t there;
    requirements = by_places (IsBoundedRequire p t) t.requirements
        (λ at_line r at. require_is_bounded list place t there at_line r (record { task = there; stands = at }));
    supplied = by_places (IsAllSupplied p t) t.writes (λ at_line w at. not_not (IsAllSupplied p t w) (all_supplied p t w)
        (λ beyond. faultless w.line kind.ReadBeyondGhost (of_write list place t at_line w kind.ReadBeyondGhost (record { task = there; stands = at }) beyond)));
  }

  tasks_are_bounded : (list : ℕ) → list < 2 → AreBoundedTasks p (task_list p list)
  tasks_are_bounded list of_two = record {
    few = few_tasks p faultless list of_two;
    tasks = by_places (IsBoundedTask p) (task_list p list)
        (λ place t at. task_is_bounded list place t (record { of_two = of_two; stands = at }));
  }

  is_bounded : IsBounded p
  is_bounded = record {
    steps = not_above p.steps.value 65535 (λ above. faultless _ _ (of_steps above));
    dump = not_above p.dump.value 65535 (λ above. faultless _ _ (of_dump above));
    ghost_limit = few_ghost_layers p faultless;
    materials = few_materials p faultless;
    few_levels = few_levels p faultless;
    levels = level_is_bounded;
    few_variables = few_variables p faultless;
    few_reductions = few_reductions p faultless;
    init = tasks_are_bounded 0 (omega arith);
    timestep = tasks_are_bounded 1 (omega arith);
    keeps = by_places (λ keep. IsVariable p keep.name ⊎ IsReduction p keep.name) p.keeps
        (λ place keep at. not_not (IsVariable p keep.name ⊎ IsReduction p keep.name) (either (variable p keep.name) (reduction p keep.name))
        (λ unknown. faultless keep.line kind.Unknown (of_keep place keep kind.Unknown at unknown)));
  }

pub accepted_are_bounded : AcceptedProblemsAreBounded
accepted_are_bounded p form accepted = is_bounded p form accepted.faultless
