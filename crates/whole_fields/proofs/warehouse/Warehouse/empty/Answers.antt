use Rattle.whole_fields.proofs.States.{empty_state}
use Rattle.whole_fields.proofs.warehouse.Warehouse.empty.Goals as goal

pub returns-clause-state : goal.returns-clause-state
returns-clause-state c =
    rw (c.in_ok-fields.ensures, c.in_ok-reductions.ensures) (empty_state c.args.c.now c.args.is_before c.field_count.result c.len.result)
