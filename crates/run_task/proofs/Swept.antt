-- What a kernel's sweep over the windows of a task gives, and where it runs.
use Rattle.std.proofs.Common.{◌≡◌, ◌∙◌, ℕ, true, Some, ap, refl}
use Rattle.std.specs.Prelude.{IsTrue, slice_get}
use Rattle.uts_geom.specs.Spans.{is_inside}
use Rattle.uts_geom.specs.declared.index.Index.{Index}
use Rattle.kernel_ast.specs.declared.expression.Expr.{Expr}
use Rattle.problem_types.specs.Lists.{centring_of, is_of_field, is_reduces}
use Rattle.problem_types.specs.declared.problem.Level.{Level}
use Rattle.problem_types.specs.declared.problem.Problem.{Problem}
use Rattle.problem_types.specs.declared.problem.Task.{Task}
use Rattle.problem_types.specs.declared.problem.Write.{Write}
use Rattle.problem_types.specs.declared.problem.WriteKind.{WriteKind}
use Rattle.problem_types.specs.declared.problem.WriteKind.TheVariants as write
use Rattle.ghost_rules.specs.Laws.{OffsetsFitWindows}
use Rattle.task_check.specs.Laws.{AcceptedProblemsAreBounded}
use Rattle.task_check.specs.Supplies.{centring_of_kind, kernel_centring}
use Rattle.kernel_eval.specs.Environments.{number_given, number_read}
use Rattle.kernel_eval.specs.declared.windows.Windows.{Windows}
use Rattle.kernel_sweeps.specs.Sweeps.{number_at, number_on}
use Rattle.kernel_sweeps.specs.declared.sweep.Sweep.{Sweep}
use Rattle.uts_model.specs.WholeField.{reduced_centring}
use Rattle.slot_contents.specs.Contents.{kernel_number, owned_on}
use Rattle.slot_contents.specs.Laws.{NumbersAreRead, OutsideStandsOutside, WindowsAreCovered}
use Rattle.run_task.specs.Seen.{DoSeeAll, SeesAll}
use Rattle.run_task.specs.declared.patch_kernels.PatchKernels.{PatchKernels}
use Rattle.run_task.specs.declared.work.Site.{Site}
use Rattle.run_task.proofs.Agreeing.{kernels_agree}
use Rattle.run_task.proofs.TasksAtSites.{IsLaid, is_laid}

-- where the kernel of a line that computes or modifies runs, and of one that reduces
pub centring_of_field : (p : Problem) (name : ℕ) (k : WriteKind) → is_of_field k ≡ true → centring_of_kind p name k ≡ centring_of p name
centring_of_field p name write.Computes is = refl
centring_of_field p name write.Modifies is = refl
centring_of_field p name (write.Reduces c) is = absurd cc

pub centring_of_reduction : (p : Problem) (name : ℕ) (k : WriteKind) → is_reduces k ≡ true → centring_of_kind p name k ≡ reduced_centring k
centring_of_reduction p name write.Computes is = absurd cc
centring_of_reduction p name write.Modifies is = absurd cc
centring_of_reduction p name (write.Reduces c) is = refl

-- a sweep over what a task sees gives the numbers of the definition
pub sweep_agrees : (covered : WindowsAreCovered) (outside : OutsideStandsOutside) (numbers : NumbersAreRead) (fit : OffsetsFitWindows) (bounds : AcceptedProblemsAreBounded)
    (p : Problem) (t : Task) (site : Site) (windows : Windows) → SeesAll p t site windows → (line : ℕ) (w : Write) → slice_get t.writes line ≡ Some w → (s : Sweep)
    → s.kernel.now ≡ w.expr → s.step ≡ windows.step → s.level ≡ windows.level → s.material ≡ windows.material → (i : Index)
    → IsTrue (is_inside (owned_on p site.level site.patch (kernel_centring p w)) i)
    → number_at s (number_read windows) (number_given windows) i ≡ kernel_number p site.step site.task w site.level site.material i
sweep_agrees covered outside numbers fit bounds p t site windows sees line w at s kernel step level material i inside =
    ap (λ (e : Expr). number_on e s.step s.level s.material (number_read windows) (number_given windows) i) kernel
    ∙ ap (λ (n : ℕ). number_on w.expr n s.level s.material (number_read windows) (number_given windows) i) step
    ∙ ap (λ (n : ℕ). number_on w.expr windows.step n s.material (number_read windows) (number_given windows) i) level
    ∙ ap (λ (n : ℕ). number_on w.expr windows.step windows.level n (number_read windows) (number_given windows) i) material
    ∙ kernels_agree p t site _ windows line w i covered outside numbers fit bounds sees.task sees.runs sees.windows refl at inside

-- the level of a task's windows
pub laid_at : AcceptedProblemsAreBounded → (k : PatchKernels) → DoSeeAll k → (l : Level) × IsLaid k.checked.now k.site.level k.site.patch l
laid_at bounds k sees = is_laid bounds k.checked.now k.site.step k.site.task k.task.now sees.task k.site.level k.site.material k.site.patch sees.runs
