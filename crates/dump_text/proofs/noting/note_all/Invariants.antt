use Rattle.std.proofs.Common.{◌≡◌, map}
use Rattle.dump_text.proofs.Noted.{first_noted}
use Rattle.dump_text.proofs.noting.note_all.Given as goal

-- the probes so far have noted the row
abbrev pub invariant-loop-probe : goal.invariant-loop-probe
invariant-loop-probe g l = record {
  noted : map (λ b. record {
    state = (goal.Probe-dyn g (b.vtable, b.value)).state b.value;
    next = (goal.Probe-dyn g (b.vtable, b.value)).next b.value;
    text = (goal.Probe-dyn g (b.vtable, b.value)).text b.value;
  }) l.probe-items
      ≡ first_noted l.row l.probe-index (map (λ b. record {
        state = (goal.Probe-dyn g (b.vtable, b.value)).state b.value;
        next = (goal.Probe-dyn g (b.vtable, b.value)).next b.value;
        text = (goal.Probe-dyn g (b.vtable, b.value)).text b.value;
      }) l.initial.probe-items);
}
