use Rattle.std.proofs.Common.{◌∙◌, ◌++◌, ℕ, List, [], Err, ap, refl}
use Rattle.std.proofs.lemmas.Result.{err_from_is_err_and}
use Rattle.problem_types.specs.declared.problem.Problem.{Problem}
use Rattle.uts_model.specs.Dump.{begin_text, by_dumped_steps, end_text, dump_bytes, shown_at, step_text}
use Rattle.dump_text.specs.Written.{then_writes, writes_less}
use Rattle.plain_engine.proofs.run.run_plain.Goals as goal

abbrev text_of_steps : Problem → List ℕ
text_of_steps p = by_dumped_steps p (λ step. step_text p (shown_at p step) step)

pub returns-in_err-begin : goal.returns-in_err-begin
unfolding dump_bytes
returns-in_err-begin g c =
    let failed = err_from_is_err_and c.from_residual.result c.from_residual.ensures.1 in
    record {
      written = writes_less g.O.Sink.after _ _ _ _ c.in_err-begin.field-0.0 _ _ begin_text (text_of_steps c.args.c.now ++ end_text [])
          refl (failed.1 ∙ ap Err failed.2) c.in_err-begin.ensures;
    }

pub returns-in_err-run_steps : goal.returns-in_err-run_steps
unfolding dump_bytes
returns-in_err-run_steps g c =
    let failed = err_from_is_err_and c.from_residual-in_err-run_steps.result c.from_residual-in_err-run_steps.ensures.1 in
    record {
      written = then_writes g.O.Sink.after g.met.O.Sink.after_both _ _ _ _ _ _ tt _ begin_text (text_of_steps c.args.c.now ++ end_text [])
          c.in_ok-begin.ensures
          (writes_less g.O.Sink.after _ _ _ _ c.in_err-run_steps.field-0.0 _ _ (text_of_steps c.args.c.now) (end_text [])
          refl (failed.1 ∙ ap Err failed.2) c.in_err-run_steps.ensures);
    }

pub returns : goal.returns
unfolding dump_bytes
returns g c =
    record {
      written = then_writes g.O.Sink.after g.met.O.Sink.after_both _ _ _ _ _ _ tt _ begin_text (text_of_steps c.args.c.now ++ end_text [])
          c.in_ok-begin.ensures
          (then_writes g.O.Sink.after g.met.O.Sink.after_both _ _ _ _ _ _ tt _ (text_of_steps c.args.c.now) (end_text [])
          c.in_ok-run_steps.ensures c.end.ensures);
    }
