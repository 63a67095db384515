-- Whether a fault of a kind stands on a line is judged, by the statement of the line.
use Rattle.std.proofs.Common.{◌≡◌, inl, inr, ◌↔◌, ◌≤◌, ◌+◌, ℕ, List, length, ◌++◌, take, drop, refl}
use Rattle.std.specs.Prelude.{IsTrue, Contains}
use Rattle.kernel_ast.specs.declared.expression.Store.{Store}
use Rattle.kernel_ast.specs.declared.expression.Store.TheVariants as store
use Rattle.uts_geom.specs.declared.index.Index.{Index}
use Rattle.uts_geom.specs.declared.span.Span.{Span}
use Rattle.uts_geom.specs.Spans.{is_inside, indexes_of}
use Rattle.problem_types.specs.Lists.{task_list}
use Rattle.problem_types.specs.Levels.{HasNearBounds}
use Rattle.problem_types.specs.declared.problem.Problem.{Problem}
use Rattle.problem_types.specs.declared.problem.Level.{Level}
use Rattle.problem_types.specs.declared.problem.Var.{Var}
use Rattle.problem_types.specs.declared.problem.Reduction.{Reduction}
use Rattle.problem_types.specs.declared.problem.Keep.{Keep}
use Rattle.problem_types.specs.declared.problem.Task.{Task}
use Rattle.problem_types.specs.declared.problem.Require.{Require}
use Rattle.problem_types.specs.declared.problem.What.{What}
use Rattle.problem_types.specs.declared.problem.Write.{Write}
use Rattle.problem_types.specs.declared.problem.WriteKind.{WriteKind}
use Rattle.problem_types.specs.declared.problem.WriteKind.TheVariants as kind
use Rattle.task_rules.specs.Lines.{has_computes, has_modifies, has_reduces, reduces}
use Rattle.task_rules.specs.Names.{Repeats}
use Rattle.task_rules.specs.Computed.{ReadsWhileModified}
use Rattle.task_check.specs.declared.fault.FaultKind.{FaultKind}
use Rattle.task_check.specs.declared.fault.FaultKind.TheVariants.{TooLarge, BadGrid, Unknown, Twice, GhostTooWide, ReadBeyondGhost, MissingLevel, MissingCompute, DoubleCompute, UnorderedModify}
use Rattle.task_check.specs.declared.fault.Which.TheVariants as limit
use Rattle.task_check.specs.Supplies.{layers_of}
use Rattle.task_check.specs.Lines.{cell_count, LevelFault, VariableFault, ReductionFault, TaskFault, FindsNothing, RequireFault, IsWrittenBefore, IsUnordered, WriteFault, KeepFault}
use Rattle.task_check.proofs.Judging.{Judged, both, either, denied, equal, at_most, below, passes, any}
use Rattle.task_check.proofs.JudgedLevels.{near, good_level}
use Rattle.task_check.proofs.JudgedNames.{variable, reduction, known, names_known, repeats, missing_level}
use Rattle.task_check.proofs.JudgedComputed.{lack, leave_out, never_write, compute_beside, compute_only_later, reads_while_modified}
use Rattle.task_check.proofs.JudgedSupplies.{all_supplied}

pub level_fault : ((s : Span) (i : Index) → Contains (indexes_of s) i ↔ IsTrue (is_inside s i)) →
    (p : Problem) (level : ℕ) (l : Level) (k : FaultKind) → Judged (LevelFault p level l k)
level_fault holds p level l (TooLarge limit.Levels) = equal level 4
level_fault holds p level l (TooLarge limit.Bounds) = any (λ b. HasNearBounds b → ⊥) (λ b. denied (near b)) (l.boxes ++ l.patches)
level_fault holds p level l (TooLarge limit.Patches) = below 1024 (length l.patches)
level_fault holds p level l (TooLarge limit.Cells) = below 262144 (cell_count l)
level_fault holds p level l BadGrid = denied (good_level holds p level)
level_fault holds p level l other = inr (λ h. h)

pub variable_fault : (p : Problem) (place : ℕ) (v : Var) (k : FaultKind) → Judged (VariableFault p place v k)
variable_fault p place v (TooLarge limit.Variables) = equal place 64
variable_fault p place v Twice = any (λ w. w.name ≡ v.name) (λ w. equal w.name v.name) (take place p.vars)
variable_fault p place v other = inr (λ h. h)

pub reduction_fault : (p : Problem) (place : ℕ) (q : Reduction) (k : FaultKind) → Judged (ReductionFault p place q k)
reduction_fault p place q (TooLarge limit.Reductions) = equal place 16
reduction_fault p place q Twice =
    either (any (λ v. v.name ≡ q.name) (λ v. equal v.name q.name) p.vars)
    (any (λ r. r.name ≡ q.name) (λ r. equal r.name q.name) (take place p.reductions))
reduction_fault p place q other = inr (λ h. h)

pub task_fault : (p : Problem) (list place : ℕ) (t : Task) (k : FaultKind) → Judged (TaskFault p list place t k)
task_fault p list place t (TooLarge limit.Tasks) = equal place 64
task_fault p list place t Unknown = any (λ m. p.materials.value ≤ m) (λ m. at_most p.materials.value m) t.materials
task_fault p list place t Twice = any (λ s. s.name ≡ t.name) (λ s. equal s.name t.name) (take place (task_list p list))
task_fault p list place t MissingLevel = any (λ l. length p.levels ≤ l) (λ l. at_most (length p.levels) l) t.levels
task_fault p list place t other = inr (λ h. h)

finds_nothing : (p : Problem) (list place : ℕ) (t : Task) (at : Store) (w : What) → Judged (FindsNothing p list place t at w)
finds_nothing p list place t store.New w = lack (take place (task_list p list)) t w
finds_nothing p list place t store.Old w = either (equal list 0) (either (lack p.init t w) (lack p.timestep t w))

pub require_fault : (p : Problem) (list place : ℕ) (t : Task) (at_line : ℕ) (r : Require) (k : FaultKind) →
    Judged (RequireFault p list place t at_line r k)
require_fault p list place t at_line r (TooLarge limit.Lines) = equal at_line 64
require_fault p list place t at_line r Unknown = denied (known p r.what)
require_fault p list place t at_line r Twice = any (λ q. Repeats q r) (λ q. repeats q r) (take at_line t.requirements)
require_fault p list place t at_line r GhostTooWide = below p.ghost_limit.value (layers_of r.what)
require_fault p list place t at_line r MissingLevel = missing_level (length p.levels) t.levels r.what
require_fault p list place t at_line r MissingCompute = finds_nothing p list place t r.store r.what
require_fault p list place t at_line r other = inr (λ h. h)

is_modifies : (k : WriteKind) → Judged (k ≡ kind.Modifies)
is_modifies kind.Modifies = inl refl
is_modifies kind.Computes = inr (λ is. cc)
is_modifies (kind.Reduces c) = inr (λ is. cc)

written_before : (earlier : List Task) (t : Task) (lines : List Write) (name : ℕ) (k : WriteKind) → Judged (IsWrittenBefore earlier t lines name k)
written_before earlier t lines name kind.Computes =
    either (compute_beside earlier t name) (either (passes (has_computes lines name)) (passes (has_modifies lines name)))
written_before earlier t lines name kind.Modifies = passes (has_computes lines name)
written_before earlier t lines name (kind.Reduces c) = either (passes (reduces earlier name)) (passes (has_reduces lines name))

unordered : (earlier later : List Task) (t : Task) (lines : List Write) (name : ℕ) → Judged (IsUnordered earlier later t lines name)
unordered earlier later t lines name =
    either (compute_only_later earlier later t name) (either (passes (has_modifies lines name))
    (any (ReadsWhileModified t.levels name) (reads_while_modified t.levels name) t.requirements))

pub write_fault : (p : Problem) (list place : ℕ) (t : Task) (at_line : ℕ) (w : Write) (k : FaultKind) →
    Judged (WriteFault p list place t at_line w k)
write_fault p list place t at_line w (TooLarge limit.Lines) = equal (length t.requirements + at_line) 64
write_fault p list place t at_line w Unknown = denied (names_known p w)
write_fault p list place t at_line w ReadBeyondGhost = denied (all_supplied p t w)
write_fault p list place t at_line w MissingCompute = both (is_modifies w.kind) (leave_out (task_list p list) t w.name)
write_fault p list place t at_line w DoubleCompute = written_before (take place (task_list p list)) t (take at_line t.writes) w.name w.kind
write_fault p list place t at_line w UnorderedModify =
    both (is_modifies w.kind) (unordered (take place (task_list p list)) (drop (place + 1) (task_list p list)) t (take at_line t.writes) w.name)
write_fault p list place t at_line w other = inr (λ h. h)

pub keep_fault : (p : Problem) (place : ℕ) (keep : Keep) (k : FaultKind) → Judged (KeepFault p place keep k)
keep_fault p place keep Unknown = denied (either (variable p keep.name) (reduction p keep.name))
keep_fault p place keep Twice = any (λ other. other.name ≡ keep.name) (λ other. equal other.name keep.name) (take place p.keeps)
keep_fault p place keep MissingCompute = either (never_write p.init keep.name) (never_write p.timestep keep.name)
keep_fault p place keep other = inr (λ h. h)
