use Rattle.std.proofs.Common.{ap, ◌∙◌, Err, Ok}
use Rattle.std.proofs.lemmas.Result.{err_from_is_err_and}
use Rattle.dump_text.proofs.Shown.{shows_nothing, shows_row}
use Rattle.dump_text.proofs.field.show_row_at.Goals as goal

pub returns-in_err-row : goal.returns-in_err-row
returns-in_err-row g c =
    let p = err_from_is_err_and c.from_residual.result c.from_residual.ensures.1 in
    shows_nothing g.O.Sink.after g.met.O.Sink.after_none _ _ _ _ _ (p.1 ∙ ap Err p.2) c.in_err-row.ensures.same_rows c.in_err-row.ensures.same_numbers

pub returns-in_err-show_row : goal.returns-in_err-show_row
returns-in_err-show_row g c =
    let p = err_from_is_err_and c.from_residual-in_err-show_row.result c.from_residual-in_err-show_row.ensures.1 in
    let before = c.in_ok-row.ensures in
    rw (p.1 ∙ ap Err p.2)
    (shows_row g.O.Sink.after _ _ _ _ _ _ _ c.in_ok-row.row _ before.row c.in_err-show_row.ensures.written c.in_err-show_row.ensures.seen
    before.same_rows before.same_numbers)

pub returns : goal.returns
returns g c =
    let before = c.in_ok-row.ensures in
    shows_row g.O.Sink.after _ _ _ _ _ _ (Ok (tt {0})) c.in_ok-row.row _ before.row c.in_ok-show_row.ensures.written c.in_ok-show_row.ensures.seen
    before.same_rows before.same_numbers
