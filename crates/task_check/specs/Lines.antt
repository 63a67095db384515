-- Which kinds of faults stand on a line, by the statement of the line. A kind that is not named never stands there.
use Rattle.std.specs.Prelude.{◌≡◌, ◌⊎◌, ℕ, ◌+◌, ◌<◌, ◌≤◌, List, ◌++◌, length, map, take, drop, Any, IsTrue, sum}
use Rattle.kernel_ast.specs.declared.expression.Store.{Store}
use Rattle.kernel_ast.specs.declared.expression.Store.TheVariants as store
use Rattle.uts_geom.specs.Spans.{indexes_of}
use Rattle.problem_types.specs.Lists.{task_list}
use Rattle.problem_types.specs.Levels.{cells_of, HasNearBounds, KeepsGridLimits}
use Rattle.problem_types.specs.declared.problem.Problem.{Problem}
use Rattle.problem_types.specs.declared.problem.Level.{Level}
use Rattle.problem_types.specs.declared.problem.Var.{Var}
use Rattle.problem_types.specs.declared.problem.Reduction.{Reduction}
use Rattle.problem_types.specs.declared.problem.Keep.{Keep}
use Rattle.problem_types.specs.declared.problem.Task.{Task}
use Rattle.problem_types.specs.declared.problem.Require.{Require}
use Rattle.problem_types.specs.declared.problem.What.{What}
use Rattle.problem_types.specs.declared.problem.Write.{Write}
use Rattle.problem_types.specs.declared.problem.WriteKind.{WriteKind}
use Rattle.problem_types.specs.declared.problem.WriteKind.TheVariants as kind
use Rattle.grid_levels.specs.Good.{IsGoodLevel, IsWithinLimits}
use Rattle.task_rules.specs.Lines.{has_computes, has_modifies, has_reduces, reduces}
use Rattle.task_rules.specs.Names.{IsVariable, IsReduction, IsKnown, AreNamesKnown, Repeats, WantsMissingLevel}
use Rattle.task_rules.specs.Computed.{Lack, LeaveOut, NeverWrite, ComputeBeside, ComputeOnlyLater, ReadsWhileModified}
use Rattle.task_check.specs.declared.fault.FaultKind.{FaultKind}
use Rattle.task_check.specs.declared.fault.FaultKind.TheVariants.{TooLarge, BadGrid, Unknown, Twice, GhostTooWide, ReadBeyondGhost, MissingLevel, MissingCompute, DoubleCompute, UnorderedModify}
use Rattle.task_check.specs.declared.fault.Which.TheVariants as limit
use Rattle.task_check.specs.Supplies.{IsAllSupplied, layers_of}

-- how many cells the boxes of a level have
abbrev pub cell_count : Level → ℕ
cell_count l = sum (map (λ b. length (indexes_of (cells_of b))) l.boxes)

-- the `level` line of the level `l` of this number, with its box and its patches
abbrev pub LevelFault : Problem → (level : ℕ) → Level → FaultKind → Type 0
LevelFault p level l (TooLarge limit.Levels) = level ≡ 4
LevelFault p level l (TooLarge limit.Bounds) = Any (λ b. HasNearBounds b → ⊥) (l.boxes ++ l.patches)
LevelFault p level l (TooLarge limit.Patches) = 1024 < length l.patches
LevelFault p level l (TooLarge limit.Cells) = 262144 < cell_count l
LevelFault p level l BadGrid = IsGoodLevel p level → ⊥
LevelFault p level l other = ⊥

-- The same, with what is not looked at beyond the limits on bounds and patches: how many cells there are, and whether the grid is good.
abbrev pub SeenLevelFault : Problem → (level : ℕ) → Level → FaultKind → Type 0
SeenLevelFault p level l (TooLarge limit.Levels) = level ≡ 4
SeenLevelFault p level l (TooLarge limit.Bounds) = Any (λ b. HasNearBounds b → ⊥) (l.boxes ++ l.patches)
SeenLevelFault p level l (TooLarge limit.Patches) = 1024 < length l.patches
SeenLevelFault p level l (TooLarge limit.Cells) = KeepsGridLimits l × (262144 < cell_count l)
SeenLevelFault p level l BadGrid = IsWithinLimits p level × (IsGoodLevel p level → ⊥)
SeenLevelFault p level l other = ⊥

-- a `var` line, at its place among them
abbrev pub VariableFault : Problem → (place : ℕ) → Var → FaultKind → Type 0
VariableFault p place v (TooLarge limit.Variables) = place ≡ 64
VariableFault p place v Twice = Any (λ w. w.name ≡ v.name) (take place p.vars)
VariableFault p place v other = ⊥

-- a `reduction` line, at its place among them
abbrev pub ReductionFault : Problem → (place : ℕ) → Reduction → FaultKind → Type 0
ReductionFault p place q (TooLarge limit.Reductions) = place ≡ 16
ReductionFault p place q Twice = Any (λ v. v.name ≡ q.name) p.vars ⊎ Any (λ r. r.name ≡ q.name) (take place p.reductions)
ReductionFault p place q other = ⊥

-- a `task` line, at its place in its list
abbrev pub TaskFault : Problem → (list place : ℕ) → Task → FaultKind → Type 0
TaskFault p list place t (TooLarge limit.Tasks) = place ≡ 64
TaskFault p list place t Unknown = Any (λ m. p.materials.value ≤ m) t.materials
TaskFault p list place t Twice = Any (λ s. s.name ≡ t.name) (take place (task_list p list))
TaskFault p list place t MissingLevel = Any (λ l. length p.levels ≤ l) t.levels
TaskFault p list place t other = ⊥

-- The task at this place of a list finds no number for what it requires: of the new ones, what the earlier tasks of the list leave;
-- of the old ones, what either list leaves, and in the init list nothing.
abbrev pub FindsNothing : Problem → (list place : ℕ) → Task → Store → What → Type 0
FindsNothing p list place t store.New w = Lack (take place (task_list p list)) t w
FindsNothing p list place t store.Old w = (list ≡ 0) ⊎ (Lack p.init t w ⊎ Lack p.timestep t w)

-- a `requires` line, at its place among those of its task
abbrev pub RequireFault : Problem → (list place : ℕ) → Task → (at_line : ℕ) → Require → FaultKind → Type 0
RequireFault p list place t at_line r (TooLarge limit.Lines) = at_line ≡ 64
RequireFault p list place t at_line r Unknown = IsKnown p r.what → ⊥
RequireFault p list place t at_line r Twice = Any (λ q. Repeats q r) (take at_line t.requirements)
RequireFault p list place t at_line r GhostTooWide = p.ghost_limit.value < layers_of r.what
RequireFault p list place t at_line r MissingLevel = WantsMissingLevel (length p.levels) t.levels r.what
RequireFault p list place t at_line r MissingCompute = FindsNothing p list place t r.store r.what
RequireFault p list place t at_line r other = ⊥

-- What is written is written before: a variable is computed on a common material and level, or by the same task, which may not
-- have modified it either; a variable that is modified is computed by the same task; a reduction is reduced.
abbrev pub IsWrittenBefore : (earlier : List Task) → Task → (lines : List Write) → ℕ → WriteKind → Type 0
IsWrittenBefore earlier t lines name kind.Computes =
    ComputeBeside earlier t name ⊎ (IsTrue (has_computes lines name) ⊎ IsTrue (has_modifies lines name))
IsWrittenBefore earlier t lines name kind.Modifies = IsTrue (has_computes lines name)
IsWrittenBefore earlier t lines name (kind.Reduces c) = IsTrue (reduces earlier name) ⊎ IsTrue (has_reduces lines name)

-- A variable is modified too early or at the wrong place: before its compute, again by the same task, or while the task reads it.
abbrev pub IsUnordered : (earlier later : List Task) → Task → (lines : List Write) → ℕ → Type 0
IsUnordered earlier later t lines name =
    ComputeOnlyLater earlier later t name ⊎ (IsTrue (has_modifies lines name) ⊎ Any (ReadsWhileModified t.levels name) t.requirements)

-- a line that writes, at its place among those of its task
abbrev pub WriteFault : Problem → (list place : ℕ) → Task → (at_line : ℕ) → Write → FaultKind → Type 0
WriteFault p list place t at_line w (TooLarge limit.Lines) = length t.requirements + at_line ≡ 64
WriteFault p list place t at_line w Unknown = AreNamesKnown p w → ⊥
WriteFault p list place t at_line w ReadBeyondGhost = IsAllSupplied p t w → ⊥
WriteFault p list place t at_line w MissingCompute = (w.kind ≡ kind.Modifies) × LeaveOut (task_list p list) t w.name
WriteFault p list place t at_line w DoubleCompute = IsWrittenBefore (take place (task_list p list)) t (take at_line t.writes) w.name w.kind
WriteFault p list place t at_line w UnorderedModify = (w.kind ≡ kind.Modifies)
    × IsUnordered (take place (task_list p list)) (drop (place + 1) (task_list p list)) t (take at_line t.writes) w.name
WriteFault p list place t at_line w other = ⊥

-- a `keep` line, at its place among them
abbrev pub KeepFault : Problem → (place : ℕ) → Keep → FaultKind → Type 0
KeepFault p place keep Unknown = IsVariable p keep.name ⊎ IsReduction p keep.name → ⊥
KeepFault p place keep Twice = Any (λ other. other.name ≡ keep.name) (take place p.keeps)
KeepFault p place keep MissingCompute = NeverWrite p.init keep.name ⊎ NeverWrite p.timestep keep.name
KeepFault p place keep other = ⊥
