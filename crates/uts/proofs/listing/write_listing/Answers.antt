use Rattle.std.proofs.Common.{◌∙◌, Err, ap, refl}
use Rattle.std.proofs.lemmas.Result.{err_from_is_err_and}
use Rattle.dump_text.specs.Written.{then_writes, writes_less}
use Rattle.uts.proofs.Parts.{in_parts}
use Rattle.uts.proofs.listing.write_listing.Goals as goal

pub returns-in_err-write_bytes : goal.returns-in_err-write_bytes
returns-in_err-write_bytes g c =
    let p = err_from_is_err_and c.from_residual.result c.from_residual.ensures.1 in
    rw (in_parts c.args.c.now) (writes_less g.O.Sink.after _ _ _ _ c.in_err-write_bytes.field-0.0 _ _ _ _ refl (p.1 ∙ ap Err p.2) c.in_err-write_bytes.ensures)

pub returns : goal.returns
returns g c =
    rw (in_parts c.args.c.now) (then_writes g.O.Sink.after g.met.O.Sink.after_both _ _ _ _ _ _ tt _ _ _ c.in_ok-write_bytes.ensures c.write_plans.ensures)
