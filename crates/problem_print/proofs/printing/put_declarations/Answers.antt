use Rattle.std.proofs.Common.{◌++◌, map}
use Rattle.std.specs.List.{flat_map}
use Rattle.problem_file.specs.Statements.{var_statement, reduction_statement}
use Rattle.problem_print.specs.Pages.{Adds, head_statements, level_statements}
use Rattle.problem_print.proofs.Pages.{adds_both}
use Rattle.problem_print.proofs.printing.put_declarations.Goals as goal

pub returns : goal.returns
returns c =
    let p = c.args.p.now in
    let names = c.args.names.now in
    let all_levels = flat_map level_statements p.levels in
    let all_vars = map var_statement p.vars in
    let all_reductions = map reduction_statement p.reductions in
    let levels : Adds names all_levels c.put_head.new.page c.put_levels.new.page = rw c.as_slice.ensures at (c.in_ok-put_levels.ensures names) in
    let vars : Adds names all_vars c.put_levels.new.page c.put_statements.new.page = rw c.as_slice-2.ensures at c.in_ok-put_statements.ensures in
    let reductions : Adds names all_reductions c.put_statements.new.page c.put_statements-2.new.page = rw c.as_slice-3.ensures at c.in_ok-put_statements-2.ensures in
    adds_both names (head_statements p) (all_levels ++ (all_vars ++ all_reductions)) c.args.page.now c.put_head.new.page c.put_statements-2.new.page (c.in_ok-put_head.ensures names)
    (adds_both names all_levels (all_vars ++ all_reductions) c.put_head.new.page c.put_levels.new.page c.put_statements-2.new.page levels
    (adds_both names all_vars all_reductions c.put_levels.new.page c.put_statements.new.page c.put_statements-2.new.page vars reductions))
