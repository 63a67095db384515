use Rattle.std.proofs.Common.{◌∙◌, ap, ℕ, length, rules, w64, FitsSigned}
use Rattle.std.specs.Prelude.{slice_get}
use Rattle.std.proofs.lemmas.Int.{to_z-of_z}
use Rattle.std.proofs.lemmas.Option.{IfSome_then}
use Rattle.problem_types.specs.Lists.{task_list}
use Rattle.uts_model.specs.Moments.{state_of}
use Rattle.uts_model.specs.declared.moments.Moment.TheVariants.{InStep}
use Rattle.uts_model.proofs.Accepted.{evaluable}
use Rattle.uts_model.proofs.witness.at_index.Goals as goal

pub field-requires-clause-evaluable : goal.field-requires-clause-evaluable
field-requires-clause-evaluable c = rw c.problem-problem.ensures.problem (evaluable c.args.c.now c.bounds.ensures.form c.bounds.ensures.limits)

pub returns : goal.returns
unfolding state_of
returns c =
    let p = c.args.c.now in
    let fits : FitsSigned w64 c.field.result = search rules in
    let named = rw c.problem-problem.ensures.problem at c.variable_name.ensures in
    let found = rw (c.end_of.ensures, c.problem-problem.ensures.problem) at c.field.ensures in
    IfSome_then (slice_get p.vars c.args.var) named (λ v same.
    to_z-of_z w64 c.field.result fits ∙ found
    ∙ ap (λ (name : ℕ). (state_of p (InStep c.args.step (length (task_list p c.args.step)))).field name c.args.material c.args.level c.args.i) same)
