use Rattle.std.proofs.Common.{sym, subst}
use Rattle.graph_types.specs.Graph.{IsValid}
use Rattle.graph_compiler.specs.declared.plan.Plan.{Plan}
use Rattle.task_tests.proofs.runs.values.Goals as goal

pub run_serially-requires-clause-valid : goal.run_serially-requires-clause-valid
run_serially-requires-clause-valid c =
    let compiled = c.requires.compiled in
    subst (λ (plan : Plan). IsValid plan.graph) (sym compiled.made)
    (c.plans_are_valid.ensures c.args.c.now compiled.kind c.problem-problem.ensures.form c.problem-problem.ensures.accepted)
