use Rattle.std.proofs.Common.{◌≡◌, ◌∙◌, List, ℕ, subst}
use Rattle.std.proofs.lemmas.Result.{err_from_is_err_and}
use Rattle.uts_io.specs.Streams.{grown, GrewByPrefix, prefix_of_nothing}
use Rattle.uts_model.specs.Dump.{row_line}
use Rattle.dump_text.proofs.Seen.{sees_nothing, sees_row, sees_row_some}
use Rattle.dump_text.proofs.field.show_row.Goals as goal

pub returns-in_err-put_row_line-clause-seen : goal.returns-in_err-put_row_line-clause-seen
returns-in_err-put_row_line-clause-seen g c =
    let p = err_from_is_err_and c.from_residual.result c.from_residual.ensures.1 in
    sees_nothing g.O.Sink.after g.met.O.Sink.after_none _ _ _ p.0 _ _ p.1 (prefix_of_nothing g.O.Sink.after _ _ g.met.O.Sink.after_none)

pub returns-in_err-write_line-clause-seen : goal.returns-in_err-write_line-clause-seen
returns-in_err-write_line-clause-seen g c =
    let p = err_from_is_err_and c.from_residual-in_err-write_line.result c.from_residual-in_err-write_line.ensures.1 in
    let text : c.deref.result.now ≡ row_line c.args.row.now = c.deref.ensures.value ∙ c.in_ok-put_row_line.ensures in
    let begun : GrewByPrefix g.O.Sink.after (g.O.Sink.taken c.args.sink.now) (g.O.Sink.taken c.write_line.new.sink) (row_line c.args.row.now) =
    subst (λ (t : List ℕ). GrewByPrefix g.O.Sink.after (g.O.Sink.taken c.args.sink.now) (g.O.Sink.taken c.write_line.new.sink) t) text
    c.in_err-write_line.ensures.prefix in
    sees_nothing g.O.Sink.after g.met.O.Sink.after_none _ _ _ p.0 _ _ p.1 begun

pub returns-in_err-note_all-clause-seen : goal.returns-in_err-note_all-clause-seen
returns-in_err-note_all-clause-seen g c =
    let p = err_from_is_err_and c.from_residual-in_err-note_all.result c.from_residual-in_err-note_all.ensures.1 in
    let text : c.deref.result.now ≡ row_line c.args.row.now = c.deref.ensures.value ∙ c.in_ok-put_row_line.ensures in
    let grew : g.O.Sink.taken c.write_line.new.sink ≡ grown g.O.Sink.after (g.O.Sink.taken c.args.sink.now) (row_line c.args.row.now) =
    subst (λ (t : List ℕ). g.O.Sink.taken c.write_line.new.sink ≡ grown g.O.Sink.after (g.O.Sink.taken c.args.sink.now) t) text
    c.in_ok-write_line.ensures.all in
    sees_row_some g.O.Sink.after g.met.O.Sink.after_none _ _ _ _ _ p.0 _ c.args.row.now grew c.in_err-note_all.ensures p.1

pub returns-clause-seen : goal.returns-clause-seen
returns-clause-seen g c =
    let text : c.deref.result.now ≡ row_line c.args.row.now = c.deref.ensures.value ∙ c.in_ok-put_row_line.ensures in
    let grew : g.O.Sink.taken c.write_line.new.sink ≡ grown g.O.Sink.after (g.O.Sink.taken c.args.sink.now) (row_line c.args.row.now) =
    subst (λ (t : List ℕ). g.O.Sink.taken c.write_line.new.sink ≡ grown g.O.Sink.after (g.O.Sink.taken c.args.sink.now) t) text
    c.in_ok-write_line.ensures.all in
    sees_row g.O.Sink.after g.met.O.Sink.after_none _ _ _ _ tt tt c.args.row.now grew c.in_ok-note_all.ensures
