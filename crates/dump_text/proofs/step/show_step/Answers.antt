use Rattle.std.proofs.Common.{◌∙◌, Err, ap, refl}
use Rattle.std.proofs.lemmas.Result.{err_from_is_err_and}
use Rattle.dump_text.specs.Lines.{step_lines}
use Rattle.dump_text.proofs.Shown.{shows_plain, shows_less, then_shows}
use Rattle.dump_text.proofs.step.show_step.Goals as goal

pub returns-in_err-write_step_line : goal.returns-in_err-write_step_line
unfolding step_lines
returns-in_err-write_step_line g c =
    let p = err_from_is_err_and c.from_residual.result c.from_residual.ensures.1 in
    shows_less g.O.Sink.after _ _ c.in_err-write_step_line.field-0.0 _ _ _ _ refl (p.1 ∙ ap Err p.2)
    (shows_plain g.O.Sink.after g.met.O.Sink.after_none _ _ _ _ _ c.in_err-write_step_line.ensures)

pub returns : goal.returns
unfolding step_lines
returns g c =
    then_shows g.O.Sink.after g.met.O.Sink.after_both _ _ _ tt _ _ _
    (shows_plain g.O.Sink.after g.met.O.Sink.after_none _ _ _ _ _ c.in_ok-write_step_line.ensures)
    c.show_keeps.ensures
