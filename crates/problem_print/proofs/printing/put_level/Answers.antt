use Rattle.std.proofs.Common.{◌∷◌, [], ◌++◌, map}
use Rattle.problem_file.specs.Statements.{at, box_statement, patch_statement}
use Rattle.statement_parse.specs.declared.statement.Statement.TheVariants as statement
use Rattle.problem_print.specs.Pages.{Adds}
use Rattle.problem_print.proofs.Pages.{adds_one, adds_both}
use Rattle.problem_print.proofs.printing.put_level.Goals as goal

pub returns : goal.returns
returns c = λ names.
    let l = c.args.level.now in
    let head = at l.line (statement.Level l.ratio) in
    let boxes : Adds names (map box_statement l.boxes) c.put_numbered_line.new.self c.put_boxes.new.page = rw c.as_slice.ensures at (c.in_ok-put_boxes.ensures names) in
    let patches : Adds names (map patch_statement l.patches) c.put_boxes.new.page c.put_patches.new.page = rw c.as_slice-2.ensures at (c.in_ok-put_patches.ensures names) in
    adds_both names (head ∷ []) (map box_statement l.boxes ++ map patch_statement l.patches)
    c.args.page.now c.put_numbered_line.new.self c.put_patches.new.page (adds_one names head c.args.page.now c.put_numbered_line.new.self c.in_ok-put_numbered_line.ensures)
    (adds_both names (map box_statement l.boxes) (map patch_statement l.patches) c.put_numbered_line.new.self c.put_boxes.new.page c.put_patches.new.page boxes patches)
