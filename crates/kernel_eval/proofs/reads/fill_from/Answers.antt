use Rattle.std.proofs.Common.{◌∙◌, length}
use Rattle.kernel_eval.proofs.WholeRows.{row_seen}
use Rattle.kernel_eval.proofs.reads.fill_from.Goals as goal

pub returns-in-Some : goal.returns-in-Some
returns-in-Some c =
    c.fill.ensures ∙ row_seen c.args.part.now c.args.read.now c.args.row (length c.args.out.now) c.in-Some.first c.in-Some.ensures c.requires
