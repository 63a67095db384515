-- Lines of tasks at their places.
use Rattle.std.proofs.Common.{◌≡◌, ◌∙◌, ℕ, List, Bool, true, Option, None, Some, ap, sym, eqb-true}
use Rattle.std.specs.Prelude.{slice_get, ◌==◌, ◌&&◌, find}
use Rattle.std.specs.Option.{is_some, option_map_or}
use Rattle.std.proofs.lemmas.Bool.{and_from, and_parts, eq-eqb}
use Rattle.uts_geom.specs.Lists.{find_only}
use Rattle.problem_types.specs.declared.problem.Task.{Task}
use Rattle.problem_types.specs.declared.problem.Write.{Write}
use Rattle.task_check.specs.LinesAt.{IsLineAt, is_line}
use Rattle.task_check.specs.Plan.{is_line_of}
use Rattle.slot_contents.specs.Contents.{name_at}
use Rattle.slot_contents.proofs.Listed.{is_some-find, passing}

module _ (tasks : List Task) (test : Write → Bool) (name : ℕ) where
  abbrev is_it : Write → Bool
  is_it w = (w.name == name) && test w

  pub name_of_line : (task line : ℕ) → IsLineAt tasks test name task line → name_at tasks task line ≡ name
  name_of_line task line l =
      ap (λ (o : Option Task). option_map_or (λ w. w.name) (option_map_or (λ t. slice_get t.writes line) o None) 0) l.task_at
      ∙ ap (λ (o : Option Write). option_map_or (λ w. w.name) o 0) l.line_at
      ∙ l.named

  -- the line that is found in a task
  pub found_line : (task : ℕ) (t : Task) → slice_get tasks task ≡ Some t → is_some (find is_it t.writes) ≡ true → (line : ℕ) × IsLineAt tasks test name task line
  found_line task t at some =
      let l = passing is_it t.writes (sym (is_some-find is_it t.writes) ∙ some) in
      let two = and_parts (l.item.name == name) (test l.item) l.passes in
      (l.place, record { t = t; w = l.item; task_at = at; line_at = l.at; named = eqb-true l.item.name name two.0; passes = two.1 })

  -- the only line of this name that passes is found in its task
  pub only_line : (task line : ℕ) (l : IsLineAt tasks test name task line) → ((a b : ℕ) → is_line_of tasks test name task a ≡ true → is_line_of tasks test name task b ≡ true → a ≡ b) →
      find is_it l.t.writes ≡ Some l.w
  only_line task line l once = find_only is_it l.t.writes line l.w l.line_at (and_from (l.w.name == name) (test l.w) (eq-eqb l.w.name name l.named) l.passes) (λ other w at passes.
      let two = and_parts (w.name == name) (test w) passes in
      once other line (is_line tasks test name task other (record { t = l.t; w = w; task_at = l.task_at; line_at = at; named = eqb-true w.name name two.0; passes = two.1 })) (is_line tasks test name task line l))
