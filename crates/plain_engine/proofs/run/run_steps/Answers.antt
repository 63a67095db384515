use Rattle.std.proofs.Common.{◌≡◌, ◌<◌, ◌+◌, ◌∙◌, ℕ, List, [], ◌++◌, ◌∷◌, Err, ap, sym, refl, arith, rules, if◌then◌else◌}
use Rattle.std.specs.List.{flat_map}
use Rattle.std.proofs.lemmas.Result.{err_from_is_err_and}
use Rattle.uts_geom.specs.Spans.{counted}
use Rattle.problem_types.specs.Lists.{is_dumped}
use Rattle.problem_types.specs.declared.problem.Problem.{Problem}
use Rattle.uts_model.specs.Dump.{shown_at, step_text}
use Rattle.dump_text.specs.Counted.{counted-more, counted_split}
use Rattle.dump_text.specs.Written.{all_written, none_written, writes_next, writes_stopped}
use Rattle.plain_engine.proofs.Steps.{before_next}
use Rattle.plain_engine.proofs.run.run_steps.Goals as goal

abbrev text_of_step : Problem → ℕ → List ℕ
text_of_step p step = if is_dumped p step then step_text p (shown_at p step) step else []

pub loop-number-init : goal.loop-number-init
loop-number-init g c = record {
  warehouse = search rules;
  state = search rules;
  written = none_written g.O.Sink.after g.met.O.Sink.after_none _ _ tt;
}

pub returns-in_err-old-2 : goal.returns-in_err-old-2
returns-in_err-old-2 g c =
    let p = c.args.c.now in
    let k = c.loop-number.number in
    let failed = err_from_is_err_and c.from_residual-in_err-old-2.result c.from_residual-in_err-old-2.ensures.1 in
    let below : k < p.steps.value + 1 = omega (arith, ap (λ (q : Problem). q.steps.value) c.problem.ensures.problem) in
    let split = counted_split k (p.steps.value + 1) below in
    writes_stopped g.O.Sink.after g.met.O.Sink.after_both _ _ _ _ _ _ tt _ (text_of_step p) (counted 0 k) k c.loop-number.invariant.written
    c.in_err-old-2.ensures.written c.in_err-old-2.field-0.0 _ (counted 0 (p.steps.value + 1)) split.0 split.1 refl (failed.1 ∙ ap Err failed.2)

pub loop-number-preserved : goal.loop-number-preserved
loop-number-preserved g c =
    let p = c.args.c.now in
    let k = c.loop-number.number in
    let done = c.in_ok-old-2.ensures in
    let next = writes_next g.O.Sink.after g.met.O.Sink.after_both _ _ _ _ _ _ tt _ (text_of_step p) (counted 0 k) k c.loop-number.invariant.written done.written in
    record {
      warehouse = done.warehouse;
      state = done.state ∙ sym (before_next p k);
      written = rw (counted-more k) (all_written g.O.Sink.after _ _ _ _ tt (flat_map (text_of_step p) (counted 0 k ++ k ∷ [])) next.all next.calm);
    }

pub returns : goal.returns
returns g c =
    let p = c.args.c.now in
    let last : c.loop-number.number ≡ p.steps.value + 1 =
    omega (arith, c.loop-number.auto.number-end, ap (λ (q : Problem). q.steps.value) c.problem.ensures.problem) in
    rw (← last) c.loop-number.invariant.written
