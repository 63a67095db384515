use Rattle.std.proofs.Common.{◌∙◌, Err, ap, refl}
use Rattle.std.proofs.lemmas.Result.{err_from_is_err_and}
use Rattle.dump_text.proofs.Shown.{shows_plain, shows_less, then_shows}
use Rattle.dump_text.proofs.field.show_field.Goals as goal

pub returns-in_err-write_header : goal.returns-in_err-write_header
returns-in_err-write_header g c =
    let p = err_from_is_err_and c.from_residual.result c.from_residual.ensures.1 in
    shows_less g.O.Sink.after _ _ c.in_err-write_header.field-0.0 _ _ _ _ refl (p.1 ∙ ap Err p.2)
    (shows_plain g.O.Sink.after g.met.O.Sink.after_none _ _ _ _ _ c.in_err-write_header.ensures)

pub returns : goal.returns
returns g c =
    then_shows g.O.Sink.after g.met.O.Sink.after_both _ _ _ tt _ _ _
    (shows_plain g.O.Sink.after g.met.O.Sink.after_none _ _ _ _ _ c.in_ok-write_header.ensures)
    c.show_rows.ensures
