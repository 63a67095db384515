use Rattle.std.proofs.Common.{◌<◌, pos, length, slice_index_or, rules, arith, w64, FitsSigned}
use Rattle.std.proofs.lemmas.Int.{to_z-of_z}
use Rattle.std.proofs.lemmas.List.{get_or_default}
use Rattle.std.proofs.lemmas.List.Edits.{map_over_more}
use Rattle.kernel_ast.specs.Arithmetic.{difference_of}
use Rattle.kernel_rows.proofs.loops.negate_all.Goals as goal

pub loop-number-preserved : goal.loop-number-preserved
loop-number-preserved c =
    let i = c.loop-number.number-index in
    let out = c.loop-number.out in
    let number = slice_index_or out i (pos 0) in
    let fits : FitsSigned w64 c.wsub.result = search rules in
    let number_fits : FitsSigned w64 number = search rules in
    let subtracted = simp to_z-of_z at c.wsub.ensures in
    let within : i < length out = omega arith in
    let step = map_over_more (difference_of (pos 0)) c.args.out.now out i number (omega arith) c.loop-number.invariant (get_or_default out i (pos 0) number within) in
    rw (to_z-of_z, subtracted) step
