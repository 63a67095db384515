-- Lines of tasks at their places.
use Rattle.std.proofs.Common.{◌≡◌, ◌∙◌, ℕ, List, Bool, true, false, Option, Some, ap, eqb-true}
use Rattle.std.specs.Prelude.{slice_get, ◌==◌, ◌&&◌}
use Rattle.std.specs.Option.{option_map_or}
use Rattle.std.proofs.lemmas.Bool.{and_from, and_parts, eq-eqb}
use Rattle.uts_geom.specs.Lists.{of_option}
use Rattle.problem_types.specs.declared.problem.Task.{Task}
use Rattle.problem_types.specs.declared.problem.Write.{Write}
use Rattle.task_check.specs.Plan.{is_line_of, line_is}

-- a line of a task at its place, of this name and such a kind
pub record IsLineAt (tasks : List Task) (test : Write → Bool) (name task line : ℕ) : Type 0 where
  pub t : Task
  pub w : Write
  pub task_at : slice_get tasks task ≡ Some t
  pub line_at : slice_get t.writes line ≡ Some w
  pub named : w.name ≡ name
  pub passes : test w ≡ true

pub line_there : (tasks : List Task) (test : Write → Bool) (name task line : ℕ) → is_line_of tasks test name task line ≡ true → IsLineAt tasks test name task line
line_there tasks test name task line is =
    let t = of_option (λ (t : Task). line_is t.writes (λ w. (w.name == name) && test w) line) (slice_get tasks task) is in
    let w = of_option (λ (w : Write). (w.name == name) && test w) (slice_get t.0.writes line) t.2 in
    let two = and_parts (w.0.name == name) (test w.0) w.2 in
    record { t = t.0; w = w.0; task_at = t.1; line_at = w.1; named = eqb-true w.0.name name two.0; passes = two.1 }

pub is_line : (tasks : List Task) (test : Write → Bool) (name task line : ℕ) → IsLineAt tasks test name task line → is_line_of tasks test name task line ≡ true
is_line tasks test name task line l =
    let is_it : Write → Bool = λ w. (w.name == name) && test w in
    ap (λ (o : Option Task). option_map_or (λ t. line_is t.writes is_it line) o false) l.task_at
    ∙ ap (λ (o : Option Write). option_map_or is_it o false) l.line_at
    ∙ and_from (l.w.name == name) (test l.w) (eq-eqb l.w.name name l.named) l.passes
