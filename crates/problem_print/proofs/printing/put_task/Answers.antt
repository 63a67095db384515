use Rattle.std.proofs.Common.{◌∷◌, [], ◌++◌, map}
use Rattle.problem_file.specs.Statements.{require_statement, write_statement}
use Rattle.problem_print.specs.Pages.{Adds, task_statement}
use Rattle.problem_print.proofs.Pages.{adds_both}
use Rattle.problem_print.proofs.printing.put_task.Goals as goal

pub returns : goal.returns
returns c =
    let t = c.args.task.now in
    let names = c.args.names.now in
    let requirements : Adds names (map require_statement t.requirements) c.put_task_line.new.page c.put_statements.new.page = rw c.as_slice.ensures at c.in_ok-put_statements.ensures in
    let writes : Adds names (map write_statement t.writes) c.put_statements.new.page c.put_statements-2.new.page = rw c.as_slice-2.ensures at c.in_ok-put_statements-2.ensures in
    adds_both names (task_statement t ∷ []) (map require_statement t.requirements ++ map write_statement t.writes)
    c.args.page.now c.put_task_line.new.page c.put_statements-2.new.page c.in_ok-put_task_line.ensures
    (adds_both names (map require_statement t.requirements) (map write_statement t.writes) c.put_task_line.new.page c.put_statements.new.page c.put_statements-2.new.page requirements writes)
