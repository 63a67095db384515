use Rattle.std.proofs.Common.{◌∙◌, ap, length, sym}
use Rattle.graph_text.proofs.Lines.{length-plan_lines}
use Rattle.graph_text.proofs.plan.PlanLines.len.Goals as goal

pub returns : goal.returns
returns c =
    let fields = c.self.inside in
    c.line_count.ensures ∙ sym (length-plan_lines fields.problem.now fields.list fields.plan.now) ∙ ap length c.self.view_is
