use Rattle.std.proofs.Common.{◌∙◌, ℕ, ℤ, List, Option, Err, length, refl, ap, sym, subst, arith}
use Rattle.std.proofs.lemmas.Result.{err_from_is_err_and}
use Rattle.uts_model.specs.Dump.{Shown}
use Rattle.dump_text.specs.Keeps.{at_keep}
use Rattle.dump_text.specs.Lines.{Line, keep_lines}
use Rattle.dump_text.specs.Supplies.{HasAllKept}
use Rattle.dump_text.proofs.Shown.{shows_none, shows_below, stopped_below, shows_all_below}
use Rattle.dump_text.proofs.step.show_keeps.Goals as goal

pub loop-place-init : goal.loop-place-init
loop-place-init g c = record { shows = shows_none g.O.Sink.after g.met.O.Sink.after_none _ tt }

pub show_keep_at-requires-clause-has : goal.show_keep_at-requires-clause-has
show_keep_at-requires-clause-has g c =
    let Rows : Type 0 = ℕ → ℕ → ℕ → ℤ → ℤ → Option (List ℤ) in
    let p = c.args.problem.now in
    let step = c.args.step in
    let shows = c.loop-place.invariant.shows in
    subst (λ (numbers : ℕ → Option ℤ). HasAllKept p step (g.F.Rows.rows c.loop-place.fields) numbers) (sym shows.same_numbers)
    (subst (λ (rows : Rows). HasAllKept p step rows (g.F.Rows.numbers c.args.fields.now)) (sym shows.same_rows) c.requires.has)

pub loop-place-preserved : goal.loop-place-preserved
loop-place-preserved g c =
    let p = c.args.problem.now in
    let lines : Shown → ℕ → List Line = λ s. at_keep p (keep_lines p s c.args.step) in
    record {
      shows = shows_below g.O.Sink.after g.met.O.Sink.after_both _ _ _ tt _ lines c.loop-place.place c.loop-place.invariant.shows
          c.in_ok-show_keep_at.ensures;
    }

pub returns-in_err-show_keep_at : goal.returns-in_err-show_keep_at
returns-in_err-show_keep_at g c =
    let q = err_from_is_err_and c.from_residual.result c.from_residual.ensures.1 in
    let p = c.args.problem.now in
    let lines : Shown → ℕ → List Line = λ s. at_keep p (keep_lines p s c.args.step) in
    stopped_below g.O.Sink.after g.met.O.Sink.after_both _ _ _ tt _ lines c.loop-place.place c.loop-place.invariant.shows
    c.in_err-show_keep_at.ensures (length p.keeps) c.in_err-show_keep_at.field-0.0 _ (omega arith) refl (q.1 ∙ ap Err q.2)

pub returns : goal.returns
returns g c = shows_all_below _ c.loop-place.place (length c.args.problem.now.keeps) (omega arith) c.loop-place.invariant.shows
