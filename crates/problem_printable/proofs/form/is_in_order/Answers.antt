use Rattle.std.proofs.Common.{sym}
use Rattle.problem_printable.proofs.InOrder.{decided_found, decided_nowhere}
use Rattle.problem_printable.proofs.form.is_in_order.Goals as goal

pub returns-in-Some : goal.returns-in-Some
returns-in-Some c = decided_found c.args.p.now c.in-Some.last c.args.names (sym c.in-Some.ensures)

pub returns-in-None : goal.returns-in-None
returns-in-None c = decided_nowhere c.args.p.now c.args.names (sym c.in-None.ensures)
