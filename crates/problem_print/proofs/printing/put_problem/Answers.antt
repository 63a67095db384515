use Rattle.std.proofs.Common.{List, subst}
use Rattle.problem_file.specs.Statements.{Placed}
use Rattle.problem_print.specs.Pages.{Adds, declarations, schedule}
use Rattle.problem_print.proofs.Pages.{adds_both, statements_by_parts}
use Rattle.problem_print.proofs.printing.put_problem.Goals as goal

pub returns : goal.returns
returns c =
    let p = c.args.p.now in
    let first : Adds p.names (declarations p) c.args.page.now c.put_declarations.new.page = rw c.as_slice.ensures at c.in_ok-put_declarations.ensures in
    let second : Adds p.names (schedule p) c.put_declarations.new.page c.put_schedule.new.page = rw c.as_slice-2.ensures at c.in_ok-put_schedule.ensures in
    subst (λ (ss : List Placed). Adds p.names ss c.args.page.now c.put_schedule.new.page) (statements_by_parts p)
    (adds_both p.names (declarations p) (schedule p) c.args.page.now c.put_declarations.new.page c.put_schedule.new.page first second)
