use Rattle.std.proofs.Common.{◌∙◌, Err, ap, refl}
use Rattle.std.proofs.lemmas.Result.{err_from_is_err_and}
use Rattle.uts_model.specs.Dump.{end_text}
use Rattle.dump_text.specs.Written.{then_writes, writes_less}
use Rattle.dump_text.proofs.ends.dump_end.Goals as goal

pub returns-in_err-write_probe_lines : goal.returns-in_err-write_probe_lines
unfolding end_text
returns-in_err-write_probe_lines g c =
    let p = err_from_is_err_and c.from_residual.result c.from_residual.ensures.1 in
    writes_less g.O.Sink.after _ _ _ _ c.in_err-write_probe_lines.field-0.0 _ _ _ _ refl (p.1 ∙ ap Err p.2) c.in_err-write_probe_lines.ensures

pub returns : goal.returns
unfolding end_text
returns g c =
    then_writes g.O.Sink.after g.met.O.Sink.after_both _ _ _ _ _ _ tt _ _ _ c.in_ok-write_probe_lines.ensures c.write_line.ensures
