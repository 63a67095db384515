use Rattle.std.proofs.Common.{◌≡◌, ◌++◌, drop, map, pos, ◌+ℤ◌}
use Rattle.uts_geom.specs.Spans.{counted}
use Rattle.kernel_rows.proofs.loops.fill_ascending.Given as goal

abbrev pub invariant-loop-place : goal.invariant-loop-place
invariant-loop-place l = record {
  next : l.x ≡ l.fn.row.low +ℤ pos l.place-index;
  written : l.out ≡ map (λ k. l.fn.row.low +ℤ pos k) (counted 0 l.place-index) ++ drop l.place-index l.initial.out;
}
