use Rattle.std.proofs.Common.{sym, subst}
use Rattle.graph_types.specs.Graph.{IsValid}
use Rattle.graph_compiler.specs.declared.plan.Plan.{Plan}
use Rattle.first_step.proofs.run_first.Goals as goal

pub run_serially-requires-clause-valid : goal.run_serially-requires-clause-valid
run_serially-requires-clause-valid c =
    subst (λ (plan : Plan). IsValid plan.graph) (sym c.in-Ok.ensures)
    (c.plans_are_valid.ensures c.args.c.now c.kind_of.result c.problem-problem.ensures.form c.problem-problem.ensures.accepted)
