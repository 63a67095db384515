-- The room that kernels need on spans, and how deep they are.
use Rattle.std.specs.Prelude.{ℕ, ◌+◌, ◌≤◌, All}
use Rattle.uts_geom.specs.Spans.{width_of}
use Rattle.uts_geom.specs.declared.span.Span.{Span}
use Rattle.kernel_ast.specs.Size.{depth_of}
use Rattle.kernel_ast.specs.declared.expression.Expr.{Expr}
use Rattle.kernel_rows.specs.Scratch.{scratch_of}
use Rattle.problem_types.specs.declared.problem.Task.{Task}
use Rattle.problem_types.specs.declared.problem.Write.{Write}

-- the places of scratch for a kernel on a span: for a row of its numbers, and for its parts along the row
abbrev pub room_on : Expr → Span → ℕ
room_on kernel s = width_of s + scratch_of (width_of s) (depth_of kernel)

-- the kernel of a line, and those of a task, are at most so deep
abbrev pub IsAtMostDeep : ℕ → Write → Type 0
IsAtMostDeep depth w = depth_of w.expr ≤ depth

abbrev pub AreAtMostDeep : ℕ → Task → Type 0
AreAtMostDeep depth t = All (IsAtMostDeep depth) t.writes
