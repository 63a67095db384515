use Rattle.std.proofs.Common.{rules, pos, refl, w64, FitsSigned, slice_index_or}
use Rattle.std.proofs.lemmas.Int.{to_z-of_z}
use Rattle.problem_print.specs.Printed.{offset_text}
use Rattle.problem_print.proofs.Joining.{seven_pieces}
use Rattle.problem_print.proofs.expression.put_offset.Goals as goal

pub returns : goal.returns
returns c =
    let by = c.args.by.now in
    let x : FitsSigned w64 (slice_index_or by 0 (pos 0)) = search rules in
    let y : FitsSigned w64 (slice_index_or by 1 (pos 0)) = search rules in
    let z : FitsSigned w64 (slice_index_or by 2 (pos 0)) = search rules in
    let xs = rw (to_z-of_z w64 (slice_index_or by 0 (pos 0)) x) at c.in_ok-put_i64.ensures.ok in
    let ys = rw (to_z-of_z w64 (slice_index_or by 1 (pos 0)) y) at c.in_ok-put_i64-2.ensures.ok in
    let zs = rw (to_z-of_z w64 (slice_index_or by 2 (pos 0)) z) at c.in_ok-put_i64-3.ensures.ok in
    seven_pieces c.put_word-4.result c.args.out.now.items (offset_text by) c.put_word-4.new.out.items _ _ _ _ _ _ _ _ _ _ _ _ _
    c.in_ok-put_word.ensures xs c.in_ok-put_word-2.ensures ys c.in_ok-put_word-3.ensures zs c.put_word-4.ensures refl
