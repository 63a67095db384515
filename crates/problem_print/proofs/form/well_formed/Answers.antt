use Rattle.std.proofs.Common.{Bool, ◌↔◌, IsTrue}
use Rattle.std.proofs.lemmas.Result.{IfOk-weaker}
use Rattle.problem_file.specs.Grammar.{IsWellFormed}
use Rattle.problem_printable.specs.Printable.{IsPrintable}
use Rattle.problem_print.specs.Printed.{printed_text}
use Rattle.problem_print.proofs.form.well_formed.Goals as goal

pub returns : goal.returns
returns c =
    let p = c.args.p.now in
    IfOk-weaker c.is_printable.result (λ (yes : Bool). IsTrue yes ↔ IsPrintable p) (λ (yes : Bool). IsTrue yes ↔ IsWellFormed p)
    (λ yes h. (
      λ is. (printed_text p, c.printed_text_is_read.ensures p (h.0 is)),
      λ spelled. h.1 (c.spelled_can_be_printed.ensures p spelled),
    ))
    c.is_printable.ensures
