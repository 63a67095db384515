use Rattle.std.proofs.Common.{arith, length, length-set, ap}
use Rattle.std.proofs.lemmas.Result.{err_from_is_err_and}
use Rattle.dump_text.proofs.Noted.{one_noted, notes_all, notes_some, whole}
use Rattle.dump_text.proofs.noting.note_all.Goals as goal

pub returns-in_err-note_one : goal.returns-in_err-note_one
returns-in_err-note_one g c =
    let p = err_from_is_err_and c.from_residual.result c.from_residual.ensures.1 in
    notes_some c.args.row.now c.deref_mut-probe-items.result.now c.loop-probe.probe-index c.loop-probe.probe-items _ c.loop-probe.invariant.noted
    c.args.probes.now.items _ c.probe-item.result _ p.0 _ c.deref_mut-probe-items.ensures.value (whole _ _ _
    (omega (arith, length-set c.loop-probe.probe-items c.loop-probe.probe-index c.note_one.new.probe)))
    c.in_err-note_one.ensures.unchanged p.1

pub loop-probe-preserved : goal.loop-probe-preserved
loop-probe-preserved g c = record {
  noted = one_noted c.args.row.now c.deref_mut-probe-items.result.now c.loop-probe.probe-index c.loop-probe.probe-items _ c.loop-probe.invariant.noted
      c.probe-item.result _ (omega arith) c.in_ok-note_one.ensures.noted;
}

pub returns : goal.returns
returns g c =
    notes_all c.args.row.now c.deref_mut-probe-items.result.now c.loop-probe.probe-index c.loop-probe.probe-items _ c.loop-probe.invariant.noted
    c.args.probes.now.items _ c.deref_mut-probe-items.ensures.value (whole _ _ _
    (omega arith)) (omega (arith, ap length c.deref_mut-probe-items.ensures.value)) tt
