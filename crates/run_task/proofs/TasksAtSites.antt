-- What an accepted problem says of a task, of the level and the patch on which it runs, and of its requirements.
use Rattle.std.proofs.Common.{◌≡◌, ◌∙◌, ℕ, zero, suc, ◌<◌, inl, inr, pos, length, Some, sym, ap, subst, arith}
use Rattle.std.specs.Prelude.{Any, Contains, slice_get, take}
use Rattle.std.specs.Option.{option_map_or}
use Rattle.std.proofs.lemmas.Bool.{cases_order}
use Rattle.std.proofs.lemmas.List.{get_or-take, length-take}
use Rattle.std.proofs.lemmas.List.Elements.{All-contains}
use Rattle.std.proofs.lemmas.Option.{get_or_from_slice_get, slice_get_within}
use Rattle.uts_geom.specs.Spans.{index}
use Rattle.uts_geom.specs.declared.centring.Centring.{Centring}
use Rattle.problem_types.specs.Levels.{IsProper}
use Rattle.problem_types.specs.Lists.{task_list}
use Rattle.problem_types.specs.declared.problem.Problem.{Problem}
use Rattle.problem_types.specs.declared.problem.Level.{Level}
use Rattle.problem_types.specs.declared.problem.Require.{Require}
use Rattle.problem_types.specs.declared.problem.Task.{Task}
use Rattle.patch_regions.specs.Regions.{owned_span, patch_at}
use Rattle.task_rules.specs.Names.{Repeats}
use Rattle.task_check.specs.declared.fault.FaultKind.TheVariants.{Twice}
use Rattle.task_check.specs.Bounds.{AreBoundedTasks, IsBounded, IsBoundedLevel, IsBoundedTask}
use Rattle.task_check.specs.Faults.{of_require}
use Rattle.task_check.specs.Laws.{AcceptedProblemsAreBounded}
use Rattle.task_check.specs.Places.{IsTaskAt}
use Rattle.task_check.specs.Plan.{patches_of}
use Rattle.slot_contents.specs.Contents.{owned_on}
use Rattle.slot_contents.specs.Laws.{IsTaskOf, RunsAt}
use Rattle.run_task.proofs.Lists.{holds_at, length-counted, place_of, there_at}

-- the level and the patch at which a task runs
pub record IsLaid (p : Problem) (level patch : ℕ) (l : Level) : Type 0 where
  pub stands : slice_get p.levels level ≡ Some l
  pub bounded : IsBoundedLevel p level l
  pub below : patch < length l.patches

module _ (bounds : AcceptedProblemsAreBounded) (p : Problem) (step task : ℕ) (t : Task) (is : IsTaskOf p step task t) where
  bounded : IsBounded p
  bounded = bounds p is.form is.accepted

  -- the list of a step is one of the two
  lists_bounded : (n : ℕ) → AreBoundedTasks p (task_list p n)
  lists_bounded zero = bounded.init
  lists_bounded (suc n) = bounded.timestep

  in_list : (n : ℕ) → slice_get (task_list p n) task ≡ Some t → (list : ℕ) × IsTaskAt p list task t
  in_list zero stands = (0, record { of_two = omega arith; stands = stands })
  in_list (suc n) stands = (1, record { of_two = omega arith; stands = stands })

  pub task_bounded : IsBoundedTask p t
  task_bounded = holds_at (IsBoundedTask p) (task_list p step) task t (lists_bounded step).tasks is.stands

  pub level_bounded : (level : ℕ) (l : Level) → slice_get p.levels level ≡ Some l → IsBoundedLevel p level l
  level_bounded = bounded.levels

  -- what is required at an earlier place is not required again
  never_again : (j k : ℕ) (q r : Require) → j < k → slice_get t.requirements j ≡ Some q → slice_get t.requirements k ≡ Some r → Repeats q r → ⊥
  never_again j k q r before at_q at_r repeats =
      let list = in_list step is.stands in
      let within : k < length t.requirements = slice_get_within t.requirements k r at_r in
      let among : Any (λ o. Repeats o r) (take k t.requirements) =
      (j, q, (let n = length-take k t.requirements in omega (arith, n)), get_or-take k t.requirements j q before ∙ get_or_from_slice_get t.requirements j q q at_q, repeats) in
      is.accepted.faultless r.line Twice (of_require list.0 task t k r Twice (record { task = list.1; stands = at_r }) among)

  -- two requirements of one store, relation and name are one
  pub one_requirement : (q r : Require) → Contains t.requirements q → Contains t.requirements r → Repeats q r → Repeats r q → q ≡ r
  one_requirement q r has_q has_r repeats back =
      let at_q = place_of t.requirements q has_q in
      let at_r = place_of t.requirements r has_r in
      elim (cases_order at_q.0 at_r.0) [
        | inl same ↦ (let both : Some q ≡ Some r = sym at_q.1 ∙ ap (slice_get t.requirements) same ∙ at_r.1 in cc)
        | inr (inl before) ↦ absurd (never_again at_q.0 at_r.0 q r before at_q.1 at_r.1 repeats)
        | inr (inr behind) ↦ absurd (never_again at_r.0 at_q.0 r q behind at_r.1 at_q.1 back)
      ]

  module _ (level material patch : ℕ) (runs : RunsAt p t level material patch) where
    pub is_laid : (l : Level) × IsLaid p level patch l
    is_laid =
        let below = All-contains (λ n. n < length p.levels) t.levels level task_bounded.levels runs.level_there in
        let there = there_at p.levels level below in
        let count : length (patches_of p level) ≡ length there.0.patches =
        length-counted 0 _ ∙ ap (λ o. option_map_or (λ l. length l.patches) o 0) there.1 in
        (there.0, record { stands = there.1; bounded = bounded.levels level there.0 there.1; below = subst (λ (n : ℕ). patch < n) count runs.patch_there })

module _ (p : Problem) (level patch : ℕ) (l : Level) (laid : IsLaid p level patch l) where
  pub owned_is : (c : Centring) → owned_on p level patch c ≡ owned_span c l patch
  owned_is c = ap (λ o. option_map_or (λ l. owned_span c l patch) o (record { lo = index (pos 0) (pos 0) (pos 0); hi = index (pos 0) (pos 0) (pos 0) })) laid.stands

  pub patch_proper : IsProper (patch_at l patch)
  patch_proper = laid.bounded.good.tiled.patches patch _ laid.below
