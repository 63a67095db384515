use Rattle.std.proofs.Common.{◌∙◌, sym, rules}
use Rattle.problem_printable.specs.Progress.{level_marks}
use Rattle.problem_printable.proofs.Steps.{one_more, stopped}
use Rattle.problem_printable.proofs.progress.behind_levels.Goals as goal

pub returns-in_err-last : goal.returns-in_err-last
returns-in_err-last c =
    let stop = stopped level_marks c.args.levels.now c.loop-level.level-index c.level-item.result c.args.before c.loop-level.last
    c.loop-level-test.true c.level-item.is c.loop-level.invariant (sym c.behind_level.ensures ∙ c.in_err-last.was) in
    search rules

pub loop-level-preserved : goal.loop-level-preserved
loop-level-preserved c =
    one_more level_marks c.args.levels.now c.loop-level.level-index c.level-item.result c.args.before c.loop-level.last
    c.loop-level-test.true c.level-item.is c.loop-level.invariant c.in_ok-last.last (sym c.behind_level.ensures ∙ c.in_ok-last.was)
