-- A kernel over what its task has gathered gives the number of the definition.
use Rattle.std.proofs.Common.{◌≡◌, ◌∙◌, ℕ, pos, true, List, Option, Some, refl, ap, subst}
use Rattle.std.specs.Prelude.{Contains, IsTrue, slice_get}
use Rattle.std.specs.Option.{option_map_or}
use Rattle.std.proofs.lemmas.List.Elements.{All-contains}
use Rattle.uts_geom.specs.Spans.{is_inside}
use Rattle.uts_geom.specs.declared.index.Index.{Index}
use Rattle.uts_geom.specs.declared.span.Span.{Span}
use Rattle.kernel_ast.specs.Value.{Environment, value_of}
use Rattle.kernel_ast.specs.declared.expression.Store.{Store}
use Rattle.kernel_ast.specs.declared.expression.Read.{Read}
use Rattle.problem_types.specs.declared.problem.Problem.{Problem}
use Rattle.problem_types.specs.declared.problem.Level.{Level}
use Rattle.problem_types.specs.declared.problem.Require.{Require}
use Rattle.problem_types.specs.declared.problem.Task.{Task}
use Rattle.problem_types.specs.declared.problem.Write.{Write}
use Rattle.patch_regions.specs.Regions.{owned_span}
use Rattle.ghost_rules.specs.Laws.{OffsetsFitWindows}
use Rattle.task_rules.specs.Reads.{numbers_of, reads_of}
use Rattle.task_check.specs.Laws.{AcceptedProblemsAreBounded}
use Rattle.task_check.specs.Plan.{OnPatch, Slot}
use Rattle.task_check.specs.Supplies.{IsAllSupplied, IsNumberSupplied, IsSupplied, Supplies, kernel_centring}
use Rattle.kernel_eval.specs.Environments.{environment_of, number_given, number_in_part, number_read as number_over}
use Rattle.kernel_eval.specs.declared.part.Part.{Part}
use Rattle.kernel_eval.specs.declared.windows.Windows.{Windows}
use Rattle.uts_model.specs.WholeField.{before_step, environment, state_at}
use Rattle.slot_contents.specs.Contents.{kernel_number, owned_on}
use Rattle.slot_contents.specs.Laws.{IsTaskOf, RunsAt, NumbersAreRead, OutsideStandsOutside, WindowsAreCovered}
use Rattle.run_task.specs.Gathered.{AreWindows, slots_read}
use Rattle.run_task.specs.declared.work.Site.{Site}
use Rattle.run_task.proofs.GivenNumbers.{given_agrees}
use Rattle.run_task.proofs.Kernels.{values_agree}
use Rattle.run_task.proofs.PartsOfReads.{LooksFor, part_of_read}
use Rattle.run_task.proofs.Lists.{holds_at}
use Rattle.run_task.proofs.ReadsAgree.{covers_tells, in_part_agrees}
use Rattle.run_task.proofs.TasksAtSites.{IsLaid, is_laid, owned_is, task_bounded}
use Rattle.run_task.proofs.WholeWindows.{detail_at}

-- the laws on which it rests
record AreLaws : Type 0 where
  bounds : AcceptedProblemsAreBounded
  fit : OffsetsFitWindows
  covered : WindowsAreCovered
  outside : OutsideStandsOutside
  numbers : NumbersAreRead

module _ (laws : AreLaws) (p : Problem) (t : Task) (site : Site) (seen : List Slot) (windows : Windows) (w : Write) (i : Index)
    (is : IsTaskOf p site.step site.task t) (runs : RunsAt p t site.level site.material site.patch) (are : AreWindows p t site seen windows)
    (all : seen ≡ slots_read p site.step (detail_at site)) (supplied : IsAllSupplied p t w) where
  abbrev whole : Environment
  whole = environment p site.step (before_step p site.step) (state_at p site.step site.task) site.material site.level i

  number_agrees : (n : Store × ℕ) → Contains (numbers_of w.expr) n → number_given windows n.0 n.1 ≡ whole.number n.0 n.1
  number_agrees n has =
      let one = All-contains (IsNumberSupplied t) (numbers_of w.expr) n supplied.1 has in
      given_agrees laws.numbers p t site seen is runs all windows are.numbers n.0 n.1 one.1 (one.0, one.2, one.3) one.4.0 one.4.1

  module _ (l : Level) (laid : IsLaid p site.level site.patch l) (owned : is_inside (owned_span (kernel_centring p w) l site.patch) i ≡ true) where
    supplied_agrees : (r : Read) (q : Require) → Contains t.requirements q → Supplies p t (kernel_centring p w) r q → number_over windows r i ≡ whole.read r
    supplied_agrees r q has supplies =
        let told = covers_tells p t (kernel_centring p w) r r.how q.what supplies.covers in
        let looks : LooksFor t r q = record { required = has; variable = told.0; store = supplies.store; form = told.1; name = told.2 } in
        let found = part_of_read laws.bounds p t site seen is windows.parts.items are.parts r q looks in
        ap (λ (o : Option Part). option_map_or (λ part. number_in_part part r.how r.offset i) o (pos 0)) found.1.is_found
        ∙ in_part_agrees laws.bounds laws.fit laws.covered laws.outside p t site seen is runs all l laid (kernel_centring p w) i owned r q has supplies.store told.0
        found.0 found.1.part_is found.1.has_seen r.how q.what refl supplies.covers

    read_agrees : (r : Read) → Contains (reads_of w.expr) r → number_over windows r i ≡ whole.read r
    read_agrees r has =
        let one = All-contains (IsSupplied p t (kernel_centring p w)) (reads_of w.expr) r supplied.0 has in
        supplied_agrees r one.1 (one.0, one.2, one.3) one.4

    kernel_agrees : value_of w.expr (environment_of windows i) ≡ value_of w.expr whole
    kernel_agrees =
        values_agree (environment_of windows i) whole
        (record { x = refl; y = refl; z = refl; level = are.level_is; material = are.material_is; step = are.step_is }) w.expr read_agrees number_agrees

-- On what its patch owns, the kernel of a task's line gives over the windows and the numbers, once all slots that the task reads are gathered, what the
-- definition gives on whole fields.
pub kernels_agree : (p : Problem) (t : Task) (site : Site) (seen : List Slot) (windows : Windows) (line : ℕ) (w : Write) (i : Index) → WindowsAreCovered →
    OutsideStandsOutside → NumbersAreRead → OffsetsFitWindows → AcceptedProblemsAreBounded → IsTaskOf p site.step site.task t →
    RunsAt p t site.level site.material site.patch → AreWindows p t site seen windows →
    seen ≡ slots_read p site.step (OnPatch site.task site.level site.material site.patch) → slice_get t.writes line ≡ Some w →
    IsTrue (is_inside (owned_on p site.level site.patch (kernel_centring p w)) i) →
    value_of w.expr (environment_of windows i) ≡ kernel_number p site.step site.task w site.level site.material i
kernels_agree p t site seen windows line w i covered outside numbers fit bounds is runs are all at owned =
    let laws : AreLaws = record { bounds = bounds; fit = fit; covered = covered; outside = outside; numbers = numbers } in
    let supplied = holds_at (IsAllSupplied p t) t.writes line w (task_bounded bounds p site.step site.task t is).supplied at in
    let laid = is_laid bounds p site.step site.task t is site.level site.material site.patch runs in
    kernel_agrees laws p t site seen windows w i is runs are all supplied laid.0 laid.1
    (subst (λ (s : Span). is_inside s i ≡ true) (owned_is p site.level site.patch laid.0 laid.1 (kernel_centring p w)) owned)
