use Rattle.std.proofs.Common.{◌≡◌, ◌∙◌, ℕ, List, [], true, ap, sym, subst}
use Rattle.std.proofs.lemmas.Bool.{cond-true}
use Rattle.problem_types.specs.Lists.{is_dumped}
use Rattle.problem_types.specs.declared.problem.Problem.{Problem}
use Rattle.dump_text.specs.Writing.{Writes}
use Rattle.whole_fields.specs.Stored.{state_of}
use Rattle.plain_engine.proofs.Steps.{step_text-held}
use Rattle.plain_engine.proofs.showing.show_step.Goals as goal

pub returns : goal.returns
returns g c =
    let end = c.args.end.now in
    let p = end.checked.now in
    let dumped : is_dumped p c.args.step ≡ true =
    ap (λ (q : Problem). is_dumped q c.args.step) (sym c.problem.ensures.problem) ∙ sym c.is_dumped.ensures ∙ c.if-not-is_dumped.false in
    subst (λ (text : List ℕ). Writes g.O.Sink.after (g.O.Sink.taken c.args.sink.now) (g.O.Sink.taken c.dump_step.new.sink)
    (g.O.Sink.faults c.args.sink.now) (g.O.Sink.faults c.dump_step.new.sink) c.dump_step.result text)
    (step_text-held p c.args.step (state_of p end.warehouse.now) c.requires.state ∙ sym (cond-true (is_dumped p c.args.step) _ [] dumped))
    c.dump_step.ensures.written
