use Rattle.std.proofs.Common.{[], map}
use Rattle.problem_file.specs.Statements.{box_statement}
use Rattle.problem_print.proofs.Pages.{adds_one, adds_more_at, adds_whole}
use Rattle.problem_print.proofs.printing.put_boxes.Goals as goal

pub loop-corners-preserved : goal.loop-corners-preserved
loop-corners-preserved c = λ names.
    adds_more_at box_statement names c.args.boxes.now c.loop-corners.corners-index (record { line = 0; lo = []; hi = [] })
    c.args.page.now c.loop-corners.page c.put_corners_line.new.self c.loop-corners-test.true (c.loop-corners.invariant names)
    (adds_one names _ c.loop-corners.page c.put_corners_line.new.self c.in_ok-put_corners_line.ensures)

pub returns : goal.returns
returns c = λ names.
    adds_whole (map box_statement) names c.args.boxes.now c.loop-corners.corners-index c.args.page.now c.loop-corners.page c.loop-corners-test.false (c.loop-corners.invariant names)
