use Rattle.std.proofs.Common.{pos, slice_index_or, rules, arith, w64, FitsSigned}
use Rattle.std.proofs.lemmas.Int.{to_z-of_z}
use Rattle.kernel_ast.specs.Value.{result_of}
use Rattle.kernel_rows.proofs.Steps.{combined_more}
use Rattle.kernel_rows.proofs.loops.combine_all.Goals as goal

pub loop-i-preserved : goal.loop-i-preserved
loop-i-preserved g c =
    let i = c.loop-i.i in
    let fits : FitsSigned w64 c.apply.result = search rules in
    let left : FitsSigned w64 (slice_index_or c.loop-i.out i (pos 0)) = search rules in
    let right : FitsSigned w64 (slice_index_or c.args.right.now i (pos 0)) = search rules in
    let applied = simp to_z-of_z at c.apply.ensures in
    rw (to_z-of_z, applied) (combined_more (result_of g.O.Operation.operator) c.args.out.now c.loop-i.out c.args.right.now i (pos 0) (pos 0) (omega arith) (omega arith) c.loop-i.invariant)
