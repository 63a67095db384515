-- A window of a task that has gathered all slots that it reads has what stood before the task at each index of its span.
use Rattle.std.proofs.Common.{◌≡◌, ◌∙◌, ℕ, Bool, true, false, List, Some, refl, sym, ap, subst}
use Rattle.std.specs.Prelude.{Contains, ◌||◌, if◌then◌else◌, slice_get}
use Rattle.std.specs.List.{list_any}
use Rattle.uts_geom.specs.Spans.{is_inside}
use Rattle.uts_geom.specs.declared.index.Index.{Index}
use Rattle.uts_geom.specs.declared.span.Span.{Span}
use Rattle.field_box.specs.Fields.{number_at}
use Rattle.problem_types.specs.Lists.{centring_of, task_list}
use Rattle.problem_types.specs.Regions.{is_in_space}
use Rattle.problem_types.specs.declared.problem.Problem.{Problem}
use Rattle.problem_types.specs.declared.problem.Level.{Level}
use Rattle.problem_types.specs.declared.problem.Require.{Require}
use Rattle.problem_types.specs.declared.problem.Task.{Task}
use Rattle.task_rules.specs.Lines.{wanted_level, wanted_name}
use Rattle.task_check.specs.Plan.{Detail, OnPatch, Slot, is_of_number, reads, slots_of, wanted_window}
use Rattle.ghost_gather.specs.Windows.{number_seen}
use Rattle.kernel_eval.specs.declared.part.Part.{Part}
use Rattle.slot_contents.specs.Contents.{stood}
use Rattle.slot_contents.specs.Laws.{IsTaskOf, RunsAt, OutsideStandsOutside, WindowsAreCovered}
use Rattle.run_task.specs.Gathered.{HasSeen, IsPartOf, slots_read}
use Rattle.run_task.specs.declared.work.Site.{Site}
use Rattle.run_task.proofs.Lists.{contains_at, keeps, place_of}

-- the detailed task of a site
abbrev pub detail_at : Site → Detail
detail_at site = OnPatch site.task site.level site.material site.patch

-- a slot of the step that the detailed task reads is among those that it reads
pub among_read : (p : Problem) (step : ℕ) (d : Detail) (s : Slot) → Contains (slots_of p (task_list p step)) s → reads p (task_list p step) d s ≡ true →
    Contains (slots_read p step d) s
among_read p step d s has is_read =
    let slots = slots_of p (task_list p step) in
    let at = place_of slots s has in
    let kept = keeps (reads p (task_list p step) d) slots at.0 s at.1 is_read in
    contains_at (slots_read p step d) kept.0 s kept.1

or_false : (b : Bool) → (b || false) ≡ b
or_false true = refl
or_false false = refl

module _ (p : Problem) (t : Task) (site : Site) (r : Require) (part : Part) (part_is : IsPartOf p t site r part) where
  -- the index space of the part is the one of the level that is wanted
  pub space_is : (i : Index) → is_in_space p (wanted_level r.what site.level) (centring_of p (wanted_name r.what)) i ≡ is_inside part.window.space i
  space_is i = ap (λ spaces. list_any (λ s. is_inside s i) spaces) part_is.space ∙ or_false (is_inside part.window.space i)

  module _ (covered : WindowsAreCovered) (outside : OutsideStandsOutside) (seen : List Slot) (is : IsTaskOf p site.step site.task t)
      (runs : RunsAt p t site.level site.material site.patch) (all : seen ≡ slots_read p site.step (detail_at site)) (l : Level)
      (stands : slice_get p.levels site.level ≡ Some l) (has : Contains t.requirements r) (variable : is_of_number r.what ≡ false)
      (has_seen : HasSeen p site seen r part) where
    abbrev IsAsStood : Index → Type 0
    IsAsStood i = number_seen part.window i ≡ (stood p site.step site.task r.store).field (wanted_name r.what) site.material (wanted_level r.what site.level) i

    inside_space : (i : Index) → is_inside part.window.span i ≡ true → is_in_space p (wanted_level r.what site.level) (centring_of p (wanted_name r.what)) i ≡ true →
        IsAsStood i
    inside_space i inside in_space =
        let wanted : is_inside (wanted_window p t r.store r.what site.level l site.patch) i ≡ true =
        subst (λ (s : Span). is_inside s i ≡ true) (part_is.span l stands) inside in
        let found = covered p site.step site.task t site.level site.material site.patch l r i is runs stands has variable wanted in_space in
        let s = found.0 in
        let is_seen : Contains seen s =
        subst (λ (slots : List Slot). Contains slots s) (sym all) (among_read p site.step (detail_at site) s found.1.slot found.1.is_read) in
        has_seen s i is_seen found.1.variable found.1.owned inside (sym (space_is i) ∙ in_space)

    outside_space : (i : Index) → is_in_space p (wanted_level r.what site.level) (centring_of p (wanted_name r.what)) i ≡ false → IsAsStood i
    outside_space i out =
        ap (λ (b : Bool). if b then number_at part.window.stored i else part.window.outside) (sym (space_is i) ∙ out) ∙ part_is.outside
        ∙ sym (outside p site.step site.task t site.level site.material r i is has variable out)

    by_space : (i : Index) (b : Bool) → is_in_space p (wanted_level r.what site.level) (centring_of p (wanted_name r.what)) i ≡ b →
        is_inside part.window.span i ≡ true → IsAsStood i
    by_space i true in_space inside = inside_space i inside in_space
    by_space i false out inside = outside_space i out

    pub is_as_stood : (i : Index) → is_inside part.window.span i ≡ true → IsAsStood i
    is_as_stood i inside = by_space i (is_in_space p (wanted_level r.what site.level) (centring_of p (wanted_name r.what)) i) refl inside
