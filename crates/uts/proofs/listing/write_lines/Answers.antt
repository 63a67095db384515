use Rattle.std.proofs.Common.{◌∙◌, ◌<◌, ◌+◌, [], Err, length, take, drop, get_or, ap, refl, arith}
use Rattle.std.proofs.lemmas.List.{take_more}
use Rattle.std.proofs.lemmas.Option.{slice_get-get_or}
use Rattle.std.proofs.lemmas.Result.{err_from_is_err_and}
use Rattle.dump_text.specs.Written.{writes_next, writes_stopped}
use Rattle.uts.proofs.Parts.{lines_split}
use Rattle.uts.proofs.listing.write_lines.Goals as goal

pub loop-number-preserved : goal.loop-number-preserved
loop-number-preserved g c =
    let lines = c.args.lines.now in
    let k = c.loop-number.number in
    let below : k < length lines = omega (arith, c.loop-number-test.true, c.len-number-end.ensures) in
    record {
      written = rw (take_more lines k [] below)
          (writes_next g.O.Sink.after g.met.O.Sink.after_both _ _ _ _ _ _ tt _ (λ bytes. bytes) (take k lines) (get_or lines k []) c.loop-number.invariant.written
          (c.in_ok-write_line.ensures (get_or lines k []) (slice_get-get_or lines k [] below)));
    }

pub returns-in_err-write_line : goal.returns-in_err-write_line
returns-in_err-write_line g c =
    let p = err_from_is_err_and c.from_residual.result c.from_residual.ensures.1 in
    let lines = c.args.lines.now in
    let k = c.loop-number.number in
    let below : k < length lines = omega (arith, c.loop-number-test.true, c.len-number-end.ensures) in
    writes_stopped g.O.Sink.after g.met.O.Sink.after_both _ _ _ _ _ _ tt _ (λ bytes. bytes) (take k lines) (get_or lines k []) c.loop-number.invariant.written
    (c.in_err-write_line.ensures (get_or lines k []) (slice_get-get_or lines k [] below)) c.in_err-write_line.field-0.0 _ lines (drop (k + 1) lines)
    (lines_split lines k below) refl (p.1 ∙ ap Err p.2)
