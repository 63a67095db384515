use Rattle.std.proofs.Common.{◌<◌, pos, length, slice_index_or, rules, arith, w64, FitsSigned}
use Rattle.std.specs.List.{zip}
use Rattle.std.proofs.lemmas.Grind.{common_steps}
use Rattle.std.proofs.lemmas.Int.{to_z-of_z}
use Rattle.std.proofs.lemmas.Slice.Zip.{length-zip, get_or-zip}
use Rattle.kernel_rows.specs.Choice.{chosen}
use Rattle.kernel_rows.proofs.Steps.{combined_more}
use Rattle.kernel_rows.proofs.loops.choose_all.Goals as goal

pub loop-i-preserved : goal.loop-i-preserved
loop-i-preserved c =
    let i = c.loop-i.i in
    let first = c.args.first.now in
    let second = c.args.second.now in
    let fits : FitsSigned w64 c.choose.result = search rules in
    let tested : FitsSigned w64 (slice_index_or c.loop-i.out i (pos 0)) = search rules in
    let left : FitsSigned w64 (slice_index_or first i (pos 0)) = search rules in
    let right : FitsSigned w64 (slice_index_or second i (pos 0)) = search rules in
    let applied = simp to_z-of_z at c.choose.ensures in
    let in_first : i < length first = omega arith in
    let in_second : i < length second = omega arith in
    let pair = get_or-zip first second i (pos 0, pos 0) in_first in_second in
    let step = combined_more chosen c.args.out.now c.loop-i.out (zip first second) i (pos 0) (pos 0, pos 0) (omega arith) (omega (arith, length-zip first second)) c.loop-i.invariant in
    rw (to_z-of_z, applied) (rw pair at step)

pub returns : goal.returns
returns c = grind (arith, common_steps, length-zip c.args.first.now c.args.second.now)
