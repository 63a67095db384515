use Rattle.std.proofs.Common.{◌∙◌, sym, rules}
use Rattle.problem_types.specs.Form.{level_lines}
use Rattle.problem_types.proofs.Ascent.{one_more, stopped}
use Rattle.problem_types.proofs.lines.last_of_levels.Goals as goal

pub returns-in_err-last : goal.returns-in_err-last
returns-in_err-last c =
    let stop = stopped level_lines c.args.levels.now c.loop-level.level-index c.level-item.result c.args.after c.loop-level.last
    c.loop-level-test.true c.level-item.is c.loop-level.invariant (sym c.last_of_level.ensures ∙ c.in_err-last.was) in
    search rules

pub loop-level-preserved : goal.loop-level-preserved
loop-level-preserved c =
    one_more level_lines c.args.levels.now c.loop-level.level-index c.level-item.result c.args.after c.loop-level.last
    c.loop-level-test.true c.level-item.is c.loop-level.invariant c.in_ok-last.last (sym c.last_of_level.ensures ∙ c.in_ok-last.was)
