use Rattle.std.proofs.Common.{◌≡◌, pos, arith, w64, ◌+ℤ◌, to_z}
use Rattle.std.proofs.lemmas.Int.{ints, to_z-of_z}
use Rattle.kernel_rows.proofs.Steps.{counted_more}
use Rattle.kernel_rows.proofs.loops.fill_ascending.Goals as goal

pub loop-place-preserved : goal.loop-place-preserved
loop-place-preserved c =
    let i = c.loop-place.place-index in
    let low = c.args.row.low in
    let step = counted_more (λ k. low +ℤ pos k) c.args.out.now c.loop-place.out i (omega arith) c.loop-place.invariant.written in
    let at : to_z w64 c.loop-place.x-bits ≡ low +ℤ pos i = c.loop-place.invariant.next in
    record {
      next = grind (arith, ints, to_z-of_z);
      written = rw at step;
    }
