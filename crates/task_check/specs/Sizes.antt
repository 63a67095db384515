-- How large the parts of a plan are, by its tasks.
use Rattle.std.specs.Prelude.{ℕ, ◌+◌, ◌*◌, Bool, ◌&&◌, ◌||◌, List, length, nat_lt}
use Rattle.std.specs.List.{count_by, list_any, sum_by}
use Rattle.problem_types.specs.Lists.{is_reduces}
use Rattle.problem_types.specs.declared.problem.Problem.{Problem}
use Rattle.problem_types.specs.declared.problem.Task.{Task}
use Rattle.problem_types.specs.declared.problem.Write.{Write}
use Rattle.problem_types.specs.declared.problem.WriteKind.{WriteKind}
use Rattle.problem_types.specs.declared.problem.WriteKind.TheVariants as kind
use Rattle.uts_geom.specs.declared.centring.Centring.{Centring}
use Rattle.task_check.specs.Supplies.{kernel_centring}
use Rattle.task_check.specs.Places.{IsTaskAt}
use Rattle.task_check.specs.Plan.{patches_of}
use Rattle.task_check.specs.Counts.{gathered_for, owned_count}

-- the task stands somewhere in a list of the problem
abbrev pub IsTask : Problem → Task → Type 0
IsTask p t = (list : ℕ) × (place : ℕ) × IsTaskAt p list place t

-- how many patches some levels have
abbrev pub patches_on : Problem → (levels : List ℕ) → ℕ
patches_on p levels = sum_by (λ level. length (patches_of p level)) levels

-- how many detailed tasks a task has on patches, for each patch and each material one
abbrev pub part_count : Problem → Task → ℕ
part_count p t = length t.materials * patches_on p t.levels

-- how many of some lines reduce
abbrev pub reduces_count : List Write → ℕ
reduces_count writes = count_by (λ w. is_reduces w.kind) writes

-- how many detailed tasks a task has
abbrev pub details_count : Problem → Task → ℕ
details_count p t = part_count p t + reduces_count t.writes

-- how many slots they write: those on patches one for each line, and those that combine one
abbrev pub slots_written : Problem → Task → ℕ
slots_written p t = part_count p t * length t.writes + reduces_count t.writes

-- how many numbers a line writes on a patch, where a variable has so many there: one for a share of a reduction
abbrev pub size_by_kind : WriteKind → ℕ → ℕ
size_by_kind kind.Computes owned = owned
size_by_kind kind.Modifies owned = owned
size_by_kind (kind.Reduces c) owned = 1

abbrev pub line_size : Problem → Write → (level patch : ℕ) → ℕ
line_size p w level patch = size_by_kind w.kind (owned_count p (kernel_centring p w) level patch)

-- how many numbers the patches of a level own together
abbrev pub owned_on : Problem → Centring → (level : ℕ) → ℕ
owned_on p c level = sum_by (owned_count p c level) (patches_of p level)

-- how many numbers a line writes on the patches of some levels, for one material
abbrev pub line_total : Problem → (levels : List ℕ) → Write → ℕ
line_total p levels w = sum_by (λ level. sum_by (line_size p w level) (patches_of p level)) levels

-- how many numbers a task writes
abbrev pub written_total : Problem → Task → ℕ
written_total p t = length t.materials * sum_by (line_total p t.levels) t.writes + reduces_count t.writes

-- how many numbers the requirements of a task gather for a patch
abbrev pub gathered_on : Problem → Task → (level patch : ℕ) → ℕ
gathered_on p t level patch = sum_by (gathered_for p t level patch) t.requirements

-- whether a patch of one of the levels gathers more than so many numbers
abbrev pub is_any_above : Problem → Task → (limit : ℕ) → (levels : List ℕ) → Bool
is_any_above p t limit levels = list_any (λ level. list_any (λ patch. nat_lt limit (gathered_on p t level patch)) (patches_of p level)) levels

-- whether a detailed task of a task gathers more than so many numbers: one on a patch, or one that combines the parts
abbrev pub gathers_above : Problem → (limit : ℕ) → Task → Bool
gathers_above p limit t = is_any_above p t limit t.levels || (nat_lt 0 (reduces_count t.writes) && nat_lt limit (part_count p t))
