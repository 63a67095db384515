use Rattle.std.specs.List.{flat_map}
use Rattle.problem_print.specs.Pages.{level_statements}
use Rattle.problem_print.proofs.Pages.{adds_more_parts, adds_whole}
use Rattle.problem_print.proofs.printing.put_levels.Goals as goal

pub loop-level-preserved : goal.loop-level-preserved
loop-level-preserved c = λ names.
    adds_more_parts level_statements names c.args.levels.now c.loop-level.level-index c.level-item.result
    c.args.page.now c.loop-level.page c.put_level.new.page c.loop-level-test.true c.level-item.is (c.loop-level.invariant names) (c.in_ok-put_level.ensures names)

pub returns : goal.returns
returns c = λ names.
    adds_whole (flat_map level_statements) names c.args.levels.now c.loop-level.level-index c.args.page.now c.loop-level.page c.loop-level-test.false (c.loop-level.invariant names)
