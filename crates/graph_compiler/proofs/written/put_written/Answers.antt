use Rattle.std.proofs.Common.{◌≡◌, ◌∙◌, ◌++◌, ℕ, take, length, ap, refl, sym, subst, arith}
use Rattle.std.proofs.lemmas.Option.{slice_get_read}
use Rattle.problem_types.specs.declared.problem.Task.{Task}
use Rattle.task_check.specs.Bounds.{IsBoundedTask}
use Rattle.graph_compiler.specs.Written.{task_slots}
use Rattle.graph_compiler.proofs.Growing.{extend_by_place}
use Rattle.graph_compiler.proofs.TaskSlots.{all_shown, slots_before}
use Rattle.graph_compiler.proofs.written.put_written.Goals as goal

pub put_task-requires-clause-task : goal.put_task-requires-clause-task
put_task-requires-clause-task c =
    let P : Task → Type 0 = λ t. IsBoundedTask c.args.p.now t in
    subst P (sym c.index-tasks-task.is) (c.requires.tasks.tasks c.loop-task.task c.index-tasks-task.result (omega arith))

pub loop-task-preserved : goal.loop-task-preserved
loop-task-preserved c =
    extend_by_place (λ place t. task_slots c.args.p.now (take place c.args.tasks.now) t) c.args.tasks.now c.args.slots.now c.loop-task.slots c.put_task.new.slots
    c.loop-task.task c.index-tasks-task.result
    (slice_get_read c.args.tasks.now (length c.args.tasks.now) c.loop-task.task c.index-tasks-task.result refl (omega arith) c.index-tasks-task.is)
    c.loop-task.invariant
    (c.in_ok-put_task.ensures ∙ ap (λ earlier. c.loop-task.slots ++ task_slots c.args.p.now earlier c.index-tasks-task.result) c.earlier.ensures)

pub returns : goal.returns
returns c =
    c.loop-task.invariant
    ∙ ap (λ (place : ℕ). c.args.slots.now ++ slots_before c.args.p.now c.args.tasks.now place) (let e : c.loop-task.task ≡ length c.args.tasks.now = omega arith in e)
    ∙ ap (λ slots. c.args.slots.now ++ slots) (sym (all_shown c.args.p.now c.args.tasks.now))
