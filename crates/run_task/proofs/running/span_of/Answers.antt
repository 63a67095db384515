use Rattle.std.proofs.Common.{◌∙◌, ap}
use Rattle.problem_types.specs.declared.problem.Problem.{Problem}
use Rattle.task_check.specs.Supplies.{kernel_centring}
use Rattle.slot_contents.specs.Contents.{owned_on}
use Rattle.run_task.proofs.SitesPlaced.{placed}
use Rattle.run_task.proofs.Swept.{laid_at}
use Rattle.run_task.proofs.running.span_of.Goals as goal

pub owned_at-requires : goal.owned_at-requires
owned_at-requires c =
    let k = c.args.k.now in
    let laid = laid_at c.accepted_problems_are_bounded.ensures k c.requires.sees in
    placed k.checked.now k.site laid.0 laid.1

pub returns-clause-owned : goal.returns-clause-owned
returns-clause-owned c =
    let k = c.args.k.now in
    c.owned_at.ensures.owned
    ∙ ap (owned_on k.checked.now k.site.level k.site.patch)
    (c.kernel_centring-centring.ensures ∙ ap (λ (p : Problem). kernel_centring p c.args.write.now) c.problem.ensures.problem)
