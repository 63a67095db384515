-- What a detailed task as data says of where it runs.
use Rattle.std.proofs.Common.{◌≡◌, ℕ, List, None, Some, subst}
use Rattle.problem_types.specs.declared.problem.Problem.{Problem}
use Rattle.problem_types.specs.declared.problem.Task.{Task}
use Rattle.task_check.specs.Plan.{Combining, Detail, OnPatch}
use Rattle.graph_compiler.specs.Shown.{shown_task}
use Rattle.graph_compiler.specs.Slots.{IsDetailOf, IsNumberOf, IsRunOn}

pub shown_on_patch : (p : Problem) (tasks : List Task) (d : Detail) → IsDetailOf p tasks d → (shown_task d).combine ≡ None →
    IsRunOn p tasks (shown_task d).task (shown_task d).level (shown_task d).material (shown_task d).patch
shown_on_patch p tasks (OnPatch task level material patch) is none = is
shown_on_patch p tasks (Combining task line) is none = absurd (cc)

pub shown_combining : (p : Problem) (tasks : List Task) (d : Detail) (line : ℕ) → IsDetailOf p tasks d → (shown_task d).combine ≡ Some line →
    IsNumberOf tasks (shown_task d).task line
shown_combining p tasks (OnPatch task level material patch) line is some = absurd (cc)
shown_combining p tasks (Combining task other) line is some = subst (λ (k : ℕ). IsNumberOf tasks task k) (let same : other ≡ line = cc in same) is
