use Rattle.std.proofs.Common.{arith, w64, FitsSigned}
use Rattle.std.proofs.lemmas.Int.{to_z-of_z}
use Rattle.dump_text.proofs.RowTexts.{text_of_first, text_of_next}
use Rattle.dump_text.proofs.lines.put_next.Goals as goal
use Rattle.dump_text.proofs.lines.put_next.Goals.{then-count-gt0+in_ok-push, else-count-gt0}

pub returns : goal.returns
returns c = λ row count is.
    let fits : FitsSigned w64 c.args.number = c.ranges.number in
    let put = simp to_z-of_z at c.in_ok-put_i64.ensures.ok in
    elim c.if-count-gt0.branch [
      | then-count-gt0+in_ok-push w ↦
          text_of_next row c.args.number c.args.line.now.items c.if-count-gt0.line.items c.put_i64.new.out.items (omega arith) is
          (cc w.in_ok-push.ensures.items) put
      | else-count-gt0 w ↦
          text_of_first row c.args.number c.args.line.now.items c.put_i64.new.out.items (omega arith) is (cc put)
    ]
