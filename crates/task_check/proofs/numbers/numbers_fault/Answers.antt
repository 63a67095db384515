use Rattle.std.proofs.Common.{◌∙◌, ap, sym, subst}
use Rattle.std.specs.Option.{option_or}
use Rattle.task_check.specs.First.{IsFirst}
use Rattle.task_check.specs.Parts.{OfNumbers}
use Rattle.task_check.proofs.Order.{numbers_in_turn}
use Rattle.task_check.proofs.numbers.numbers_fault.Goals as goal

pub returns : goal.returns
returns c = subst (IsFirst (OfNumbers c.args.p.now))
    (sym (c.or-3.ensures ∙ ap (option_or c.number_fault-steps.result) (c.or-2.ensures ∙ ap (option_or c.number_fault-dump.result) c.or.ensures)))
    (numbers_in_turn c.args.p.now c.requires _ _ _ _ c.number_fault-steps.ensures c.number_fault-dump.ensures c.number_fault-ghost_limit.ensures
    c.number_fault-materials.ensures)
