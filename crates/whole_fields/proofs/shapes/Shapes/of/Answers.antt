use Rattle.std.proofs.Common.{◌≡◌, ◌∙◌, length, ap, sym, arith, inl, inr}
use Rattle.std.proofs.lemmas.Bool.{cases_lt}
use Rattle.std.proofs.lemmas.List.{get_or_past}
use Rattle.problem_types.specs.declared.problem.Problem.{Problem}
use Rattle.whole_fields.specs.Shapes.{no_shape, shape_of}
use Rattle.whole_fields.proofs.Undeclared.{shape_beyond}
use Rattle.whole_fields.proofs.shapes.Shapes.of.Goals as goal

pub returns : goal.returns
returns c =
    let p = c.args.c.now in
    let shapes = c.loop-name.shapes in
    let same = c.problem-p.ensures.problem in
    let long : length p.names ≡ length shapes =
    omega (arith, c.len-name-end.ensures, ap (λ (q : Problem). length q.names) same, c.loop-name.invariant.long, c.loop-name-test.false, c.loop-name.auto.name-end) in
    record {
      each = λ name. elim (cases_lt name (length shapes)) [
        | inl below ↦ c.loop-name.invariant.each name (omega (arith, c.loop-name.invariant.long)) ∙ ap (λ (q : Problem). shape_of q name) same
        | inr beyond ↦ get_or_past shapes name no_shape beyond ∙ sym (shape_beyond p name c.bounds.ensures.form.vars (omega arith))
      ];
    }
