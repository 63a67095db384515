use Rattle.std.proofs.Common.{◌≡◌, true, sym}
use Rattle.problem_types.specs.Lists.{task_list, computes}
use Rattle.dump_text.proofs.FieldRows.{field_there}
use Rattle.problem_types.specs.NearSpaces.{level_near}
use Rattle.dump_text.proofs.keep.place_on.Goals as goal

pub index_space-span-requires : goal.index_space-span-requires
index_space-span-requires c = (c.requires.kept.bounded.levels c.args.level c.level_at.result.now c.level_at.ensures).limits

pub returns-clause-field : goal.returns-clause-field
returns-clause-field c =
    let kept = c.args.kept.now in
    let computed : computes (task_list kept.problem.now kept.step) kept.name c.args.material c.args.level ≡ true =
    sym (rw (c.task_list-tasks.ensures, c.from.ensures, c.from-2.ensures) at c.if-not-computes.ensures) in
    field_there kept c.args.material c.args.level c.level_at.result.now c.centring_of-centring.result c.index_space-span.result computed
    c.level_at.ensures c.centring_of-centring.ensures c.index_space-span.ensures

pub returns-clause-near : goal.returns-clause-near
returns-clause-near c =
    level_near c.centring_of-centring.result c.level_at.result.now c.index_space-span.result
    (c.requires.kept.bounded.levels c.args.level c.level_at.result.now c.level_at.ensures).limits c.index_space-span.ensures
