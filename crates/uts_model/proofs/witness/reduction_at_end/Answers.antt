use Rattle.std.proofs.Common.{◌∙◌, rules, w64, FitsSigned}
use Rattle.std.proofs.lemmas.Int.{to_z-of_z}
use Rattle.uts_model.specs.Moments.{state_of}
use Rattle.uts_model.proofs.Accepted.{evaluable}
use Rattle.uts_model.proofs.witness.reduction_at_end.Goals as goal

pub reduction-requires-clause-evaluable : goal.reduction-requires-clause-evaluable
reduction-requires-clause-evaluable c = rw c.problem-problem.ensures.problem (evaluable c.args.c.now c.bounds.ensures.form c.bounds.ensures.limits)

pub returns : goal.returns
unfolding state_of
returns c =
    let fits : FitsSigned w64 c.reduction.result = search rules in
    let found = rw (c.end_of.ensures, c.problem-problem.ensures.problem) at c.reduction.ensures in
    to_z-of_z w64 c.reduction.result fits ∙ found
