use Rattle.std.proofs.Common.{◌∙◌, ◌<◌, List, length, get_or, ap, arith}
use Rattle.std.proofs.lemmas.List.{get_or_default}
use Rattle.problem_types.specs.Lists.{task_list}
use Rattle.problem_types.specs.declared.problem.Var.{Var}
use Rattle.graph_compiler.specs.Places.{of_variable}
use Rattle.graph_compiler.proofs.PuttingOld.{put_item}
use Rattle.graph_compiler.proofs.old_reads.put_variables.Goals as goal

pub loop-variable-preserved : goal.loop-variable-preserved
loop-variable-preserved c =
    let p = c.args.p.now in
    let i = c.loop-variable.variable-index in
    let below : i < length p.vars = omega (arith, c.loop-variable-test.true, ap length c.as_slice-variable-items.ensures) in
    let variable = get_or c.as_slice-variable-items.result.now i _ in
    put_item p (task_list p c.args.list) (λ (v : Var). of_variable p v.name) p.vars i variable below
    (ap (λ (vs : List Var). get_or vs i _) c.as_slice-variable-items.ensures ∙ get_or_default p.vars i _ variable below) _ c.loop-variable.marks.items
    c.put_variable.new.marks.items c.args.slots.now c.loop-variable.slots c.put_variable.new.slots c.loop-variable.invariant c.in_ok-put_variable.ensures
