use Rattle.problem_print.proofs.Pages.{adds_more}
use Rattle.problem_print.proofs.statements.put_statements.Goals as goal

pub loop-statement-preserved : goal.loop-statement-preserved
loop-statement-preserved g c =
    adds_more g.S.Line.placed c.args.names.now c.args.statements.now c.loop-statement.statement-index c.statement-item.result
    c.args.page.now c.loop-statement.page c.put_statement.new.page c.loop-statement-test.true c.statement-item.is c.loop-statement.invariant c.in_ok-put_statement.ensures
