use Rattle.std.proofs.Common.{◌≡◌, ◌∙◌, rules, SFits, w64}
use Rattle.std.proofs.lemmas.Int.{to_z-of_z}
use Rattle.task_tests.proofs.Found.{old_number_fits}
use Rattle.task_tests.proofs.olds.old_number.Goals as goal

pub returns-in-OldNumber : goal.returns-in-OldNumber
returns-in-OldNumber c =
    let fits : SFits w64 c.reduction_at_end.result = search rules in
    old_number_fits c.args.c.now c.args.step c.requires.later c.args.slot _ c.in-OldNumber.is (to_z-of_z w64 c.reduction_at_end.result fits ∙ c.reduction_at_end.ensures)
