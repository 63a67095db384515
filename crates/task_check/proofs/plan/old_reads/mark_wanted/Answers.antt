use Rattle.std.proofs.Common.{arith, ◌<◌, ◌∙◌, Bool, length, ap, sym}
use Rattle.std.specs.Prelude.{◌||◌}
use Rattle.uts_geom.specs.Lists.{placed}
use Rattle.task_check.specs.Marks.{is_marked}
use Rattle.task_check.proofs.Accepted.{few_levels, keeps_grid_limits}
use Rattle.task_check.proofs.Details.{patches_at}
use Rattle.task_check.proofs.OldWindows.{wanted_by_box}
use Rattle.task_check.proofs.plan.old_reads.mark_wanted.Goals as goal

pub wanted_level-requires : goal.wanted_level-requires
wanted_level-requires c = omega (arith, few_levels c.args.p.now c.requires.faultless, c.requires.from)

pub mark_met-requires-clause-limits : goal.mark_met-requires-clause-limits
mark_met-requires-clause-limits c =
    keeps_grid_limits c.args.p.now c.requires.form c.requires.faultless c.args.level c.level_at.result.now c.level_at.ensures

pub returns-then-level-wanted_level : goal.returns-then-level-wanted_level
returns-then-level-wanted_level c = λ t patch below.
    let from = placed c.args.p.now.levels c.args.from c.requires.from in
    let inside : patch < length c.level_at.result.now.patches = omega (arith, below, patches_at c.args.p.now c.args.level c.level_at.result.now c.level_at.ensures) in
    c.mark_met.ensures patch inside
    ∙ ap (λ (b : Bool). is_marked c.args.marks.now patch || b)
    (wanted_by_box c.args.p.now t c.args.r c.args.name c.args.from c.args.level patch c.centring_of-c.result from.0 c.level_at.result.now c.box_window.result
    (sym c.is_old_variable.ensures ∙ c.if-is_old_variable.true) (c.if-level-wanted_level.true ∙ c.wanted_level.ensures) c.centring_of-c.ensures from.1 c.level_at.ensures
    (λ own. c.box_window.ensures t from.0 own from.1))
