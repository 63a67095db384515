use Rattle.std.proofs.Common.{List, [], ◌∷◌, ◌++◌, sym, subst}
use Rattle.field_box.specs.declared.value.Value.{Value}
use Rattle.run_task.specs.Gathered.{AreRoomFor}
use Rattle.run_task.proofs.Growing.{room_more}
use Rattle.run_task.proofs.room.push_output.Goals as goal

pub returns : goal.returns
returns c = λ before are.
    let p = c.args.job.now.checked.now in
    let w = c.args.write.now in
    subst (λ (outputs : List Value). AreRoomFor p c.args.site (before ++ w ∷ []) outputs) (sym c.in_ok-put.ensures)
    (room_more p c.args.site before c.args.outputs.now.items w c.in_ok-output.output c.in_ok-output.ensures are)
