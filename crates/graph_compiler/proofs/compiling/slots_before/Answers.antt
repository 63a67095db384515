use Rattle.std.proofs.Common.{◌∙◌, List, length, ap, sym, subst, arith}
use Rattle.std.specs.Prelude.{IfOk}
use Rattle.std.proofs.lemmas.List.{length-map}
use Rattle.problem_types.specs.Lists.{task_list}
use Rattle.problem_types.specs.declared.problem.Task.{Task}
use Rattle.task_check.specs.Plan.{is_read, old_variables}
use Rattle.graph_compiler.specs.Places.{AreOldSlots}
use Rattle.graph_compiler.proofs.Compiled.{list_is}
use Rattle.graph_compiler.proofs.OldPlacing.{few_old}
use Rattle.graph_compiler.proofs.compiling.slots_before.Goals as goal

pub old_slots-requires-clause-variables : goal.old_slots-requires-clause-variables
old_slots-requires-clause-variables c =
    let p = c.args.p.now in
    omega (arith, few_old p c.requires.limits, ap length c.in_ok-read.ensures.variables ∙ length-map (old_variables p) (is_read p (task_list p c.list_number.result)))

pub returns : goal.returns
returns c =
    let p = c.args.p.now in
    let read = c.in_ok-read.ensures in
    let tasks = task_list p c.list_number.result in
    subst (λ (ts : List Task). IfOk c.old_slots.result (AreOldSlots p ts)) (ap (task_list p) c.list_number.ensures ∙ sym (list_is p c.args.list))
    (c.old_slots.ensures p tasks read.variables read.numbers read.slots)
