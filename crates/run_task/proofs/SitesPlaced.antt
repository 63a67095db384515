-- The level and the patch of a site, and of what its task requires.
use Rattle.std.proofs.Common.{◌≡◌, ◌∙◌, ◌≤◌, ◌<◌, ◌+◌, ℕ, length, map, [], ◌∷◌, Some, sym, ap, subst}
use Rattle.std.specs.Prelude.{Contains, slice_get}
use Rattle.std.specs.Option.{option_map_or}
use Rattle.std.proofs.lemmas.List.Elements.{All-contains}
use Rattle.std.proofs.lemmas.Option.{slice_get_within}
use Rattle.uts_geom.specs.Spans.{IsNearSpan, indexes_of, width_of}
use Rattle.uts_geom.specs.declared.centring.Centring.{Centring}
use Rattle.uts_geom.specs.declared.span.Span.{Span}
use Rattle.problem_types.specs.Regions.{space_of, spaces_of, spaces_on}
use Rattle.problem_types.specs.declared.problem.Level.{Level}
use Rattle.problem_types.specs.declared.problem.Problem.{Problem}
use Rattle.problem_types.specs.declared.problem.Require.{Require}
use Rattle.problem_types.specs.declared.problem.Task.{Task}
use Rattle.patch_regions.specs.Regions.{owned_span}
use Rattle.task_rules.specs.Lines.{wanted_level}
use Rattle.task_check.specs.Bounds.{IsBoundedLevel, IsBoundedRequire}
use Rattle.task_check.specs.Laws.{AcceptedProblemsAreBounded}
use Rattle.task_check.specs.Plan.{wanted_window}
use Rattle.run_task.specs.Sites.{IsPlaced, IsSiteOf}
use Rattle.run_task.specs.declared.job.StepJob.{StepJob}
use Rattle.run_task.specs.declared.work.Site.{Site}
use Rattle.run_task.proofs.FewIndexes.{few_owned}
use Rattle.problem_types.specs.NearSpaces.{level_near}
use Rattle.patch_regions.specs.OnGrid.{owned_near}
use Rattle.run_task.proofs.NearWindows.{wanted_near}
use Rattle.run_task.proofs.OwnedRows.{short_rows}
use Rattle.run_task.proofs.Refinement.{any_ratio}
use Rattle.run_task.proofs.TasksAtSites.{IsLaid, is_laid, level_bounded, task_bounded}

pub space_is_near : (p : Problem) (level : ℕ) (l : Level) → IsBoundedLevel p level l → (c : Centring) (space : Span) → spaces_on c l ≡ space ∷ [] → IsNearSpan space
space_is_near p level l bounded c space one = level_near c l space bounded.limits one

pub placed : (p : Problem) (site : Site) (l : Level) → IsLaid p site.level site.patch l → IsPlaced p site
placed p site l laid = record {
  level_there = slice_get_within p.levels site.level l laid.stands;
  patch_there = λ other at.
      let same : l ≡ other = (let both : Some l ≡ Some other = sym laid.stands ∙ at in cc) in
      subst (λ (m : Level). site.patch < length m.patches) same laid.below;
}

module _ (bounds : AcceptedProblemsAreBounded) (job : StepJob) (site : Site) (t : Task) (is : IsSiteOf job site t) where
  abbrev p : Problem
  p = job.checked.now

  pub laid_at : (l : Level) × IsLaid p site.level site.patch l
  laid_at = is_laid bounds p site.step site.task t is.task site.level site.material site.patch is.runs

  pub is_placed : IsPlaced p site
  is_placed = placed p site laid_at.0 laid_at.1

  module _ (r : Require) (has : Contains t.requirements r) where
    pub require_bounded : IsBoundedRequire p t r
    require_bounded = All-contains (IsBoundedRequire p t) t.requirements r (task_bounded bounds p site.step site.task t is.task).requirements has

    pub wanted_there : wanted_level r.what site.level < length p.levels
    wanted_there = require_bounded.wanted site.level is.runs.level_there

    pub window_is_near : (l : Level) → slice_get p.levels site.level ≡ Some l → IsNearSpan (wanted_window p t r.store r.what site.level l site.patch)
    window_is_near l at =
        let bounded = level_bounded bounds p site.step site.task t is.task site.level l at in
        let all = bounds p is.task.form is.task.accepted in
        wanted_near p t r.store site.level l site.patch bounded.limits (is_placed.patch_there l at) (any_ratio p site.level all) (any_ratio p (site.level + 1) all)
        r.what require_bounded.few

-- ---- the same, where a problem and a number are known by another name

pub stands_here : (q p : Problem) (n level : ℕ) (l : Level) → q ≡ p → n ≡ level → slice_get q.levels n ≡ Some l → slice_get p.levels level ≡ Some l
stands_here q p n level l same here at =
    ap (λ k. slice_get p.levels k) (sym here) ∙ ap (λ (r : Problem). slice_get r.levels n) (sym same) ∙ at

pub window_here : (q p : Problem) (t : Task) (r : Require) (n level patch : ℕ) (s : Span) → q ≡ p → n ≡ level →
    ((l : Level) → slice_get q.levels n ≡ Some l → s ≡ wanted_window q t r.store r.what n l patch) → (l : Level) → slice_get p.levels level ≡ Some l →
    s ≡ wanted_window p t r.store r.what level l patch
window_here q p t r n level patch s same here is =
    subst (λ (o : Problem). (l : Level) → slice_get o.levels level ≡ Some l → s ≡ wanted_window o t r.store r.what level l patch) same
    (subst (λ (k : ℕ). (l : Level) → slice_get q.levels k ≡ Some l → s ≡ wanted_window q t r.store r.what k l patch) here is)

pub space_of_level : (p : Problem) (level : ℕ) (l : Level) (c : Centring) (s : Span) → slice_get p.levels level ≡ Some l → spaces_on c l ≡ s ∷ [] →
    spaces_of p level c ≡ s ∷ []
space_of_level p level l c s at one = ap (λ o. option_map_or (λ (m : Level). map (space_of c) m.boxes) o []) at ∙ one

-- ---- what a patch owns is small

pub record IsSmallSpan (s : Span) : Type 0 where
  pub near : IsNearSpan s
  pub few : length (indexes_of s) ≤ 2097152
  pub narrow : width_of s ≤ 4097

pub owned_small : (p : Problem) (level : ℕ) (l : Level) → IsBoundedLevel p level l → (patch : ℕ) → patch < length l.patches → (c : Centring) (s : Span) →
    s ≡ owned_span c l patch → IsSmallSpan s
owned_small p level l bounded patch below c s is =
    subst IsSmallSpan (sym is) (record {
      near = owned_near c l patch bounded.limits below;
      few = few_owned p level l bounded patch below c;
      narrow = short_rows c l patch bounded.limits below;
    })
