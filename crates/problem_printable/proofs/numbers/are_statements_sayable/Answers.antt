use Rattle.problem_printable.proofs.Sayable.{statements_sayable}
use Rattle.problem_printable.proofs.numbers.are_statements_sayable.Goals as goal

pub returns : goal.returns
returns c =
    let both = statements_sayable c.args.names c.args.p.now in
    (λ yes. both.0 (c.are_parts_sayable.ensures.0 yes), λ h. c.are_parts_sayable.ensures.1 (both.1 h))
