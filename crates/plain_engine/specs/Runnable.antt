-- Tasks that can be run.
use Rattle.std.specs.Prelude.{◌≡◌, ℕ, ◌<◌, ◌≤◌, [], ◌∷◌, All, length}
use Rattle.uts_geom.specs.declared.centring.Centring.{Centring}
use Rattle.uts_geom.specs.declared.span.Span.{Span}
use Rattle.kernel_ast.specs.declared.expression.Expr.{Expr}
use Rattle.kernel_sweeps.specs.Room.{room_on}
use Rattle.problem_types.specs.Regions.{spaces_of}
use Rattle.problem_types.specs.declared.problem.Problem.{Problem}
use Rattle.problem_types.specs.declared.problem.Task.{Task}
use Rattle.problem_types.specs.declared.problem.Write.{Write}

-- so many places suffice for a kernel on each index space of the problem
abbrev pub SufficesFor : Problem → (places : ℕ) → Expr → Type 0
SufficesFor p places kernel = (level : ℕ) (c : Centring) (s : Span) → level < length p.levels → spaces_of p level c ≡ s ∷ [] → room_on kernel s ≤ places

-- a line of a task has a name of the problem, and so many places suffice for its kernel
pub record IsRunnableLine (p : Problem) (places : ℕ) (w : Write) : Type 0 where
  pub known : w.name < length p.names
  pub room : SufficesFor p places w.expr

-- the task runs on levels and materials of the problem, and each of its lines can be run in so many places of scratch
pub record IsRunnable (p : Problem) (places : ℕ) (t : Task) : Type 0 where
  pub levels : All (λ level. level < length p.levels) t.levels
  pub materials : All (λ material. material < p.materials.value) t.materials
  pub lines : All (IsRunnableLine p places) t.writes
