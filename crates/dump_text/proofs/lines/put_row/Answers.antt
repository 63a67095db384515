use Rattle.std.proofs.Common.{sym, ap, ◌∙◌, ◌<◌, pos, length, length-take, take, get_or, arith, rules, w64, FitsSigned}
use Rattle.std.proofs.lemmas.Int.{to_z-of_z}
use Rattle.std.proofs.lemmas.List.{take_more}
use Rattle.uts_model.specs.Dump.{row_text}
use Rattle.dump_text.proofs.RowTexts.{row_text-none}
use Rattle.dump_text.proofs.lines.put_row.Goals as goal

pub loop-count-init : goal.loop-count-init
loop-count-init c = c.clear.ensures.items ∙ sym row_text-none

pub loop-count-preserved : goal.loop-count-preserved
loop-count-preserved c =
    let numbers = c.args.numbers.now in
    let count = c.loop-count.count in
    let below : count < length numbers = c.loop-count-test.true in
    let fits : FitsSigned w64 (get_or numbers count (pos 0)) = search rules in
    let put = simp to_z-of_z at c.in_ok-put_next.ensures in
    put (take count numbers) (omega (arith, length-take count numbers)) c.loop-count.invariant
    ∙ ap row_text (sym (take_more numbers count (pos 0) below))
