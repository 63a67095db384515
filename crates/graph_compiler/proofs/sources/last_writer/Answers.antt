use Rattle.std.proofs.Common.{◌≡◌, ◌∙◌, ◌+◌, ℕ, Option, Some, length, take, sym, refl, arith, subst}
use Rattle.std.specs.Prelude.{slice_get}
use Rattle.std.proofs.lemmas.Option.{slice_get_read}
use Rattle.task_check.specs.Plan.{writes_variable}
use Rattle.graph_compiler.specs.Sources.{IsLast}
use Rattle.graph_compiler.proofs.Placed.{last_here, last_kept}
use Rattle.graph_compiler.proofs.sources.last_writer.Goals as goal
use Rattle.graph_compiler.proofs.sources.last_writer.Goals.{then-writes_variable, else-writes_variable}

pub loop-place-preserved : goal.loop-place-preserved
loop-place-preserved c =
    let test = writes_variable c.args.name c.args.material c.args.level in
    let tasks = c.args.tasks.now in
    let P : Option ℕ → Type 0 = λ o. IsLast test (take (c.loop-place.place + 1) tasks) o in
    let at : slice_get tasks c.loop-place.place ≡ Some c.index-tasks-place.result =
    slice_get_read tasks (length tasks) c.loop-place.place c.index-tasks-place.result refl (omega arith) c.index-tasks-place.is in
    elim c.if-writes_variable.branch [
      | then-writes_variable w ↦
          subst P (sym w.last-is) (last_here test tasks c.loop-place.place c.index-tasks-place.result at (sym c.writes_variable.ensures ∙ w.if-writes_variable.true))
      | else-writes_variable w ↦
          subst P (sym w.last-is) (last_kept test tasks c.loop-place.place c.index-tasks-place.result at c.loop-place.last
          (sym c.writes_variable.ensures ∙ w.if-writes_variable.false) c.loop-place.invariant)
    ]
