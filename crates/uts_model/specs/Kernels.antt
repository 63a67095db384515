-- The kernels that a task has.
use Rattle.std.specs.Prelude.{ℕ, Option, None, if◌then◌else◌}
use Rattle.std.specs.Option.{option_map}
use Rattle.kernel_ast.specs.declared.expression.Expr.{Expr}
use Rattle.problem_types.specs.Lists.{runs_on, field_write}
use Rattle.problem_types.specs.declared.problem.Task.{Task}

-- the kernel for a variable, where the task runs on the material and the level and has one
abbrev pub field_kernel : Task → ℕ → ℕ → ℕ → Option Expr
field_kernel task name material level =
    if runs_on task material level then option_map (λ w. w.expr) (field_write task name) else None
