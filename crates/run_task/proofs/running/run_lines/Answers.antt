use Rattle.std.proofs.Common.{◌≡◌, Some, arith, slice_index_or}
use Rattle.std.specs.Prelude.{slice_get}
use Rattle.std.proofs.lemmas.Option.{slice_get-get_or}
use Rattle.run_task.proofs.LineByLine.{all_done, next_done, none_done}
use Rattle.run_task.proofs.running.run_lines.Goals as goal

pub loop-line-init : goal.loop-line-init
loop-line-init c = none_done c.args.k.now c.args.outputs.now

pub run_line-requires-clause-line : goal.run_line-requires-clause-line
run_line-requires-clause-line c = omega (arith, c.loop-line-test.true, c.requires.room.outputs_for.many)

pub run_line-requires-clause-room : goal.run_line-requires-clause-room
run_line-requires-clause-room c = λ w at.
    let k = c.loop-line.line in
    let before = c.args.outputs.now in
    let value = slice_index_or c.loop-line.outputs k c.index-outputs-line.result in
    let there : slice_get c.loop-line.outputs k ≡ Some value = slice_get-get_or c.loop-line.outputs k c.index-outputs-line.result (omega (arith, c.loop-line-test.true, c.loop-line.auto.outputs)) in
    let old = c.loop-line.invariant.rest k value (omega arith) there in
    (c.requires.room.outputs_for.each k w value at old, omega (arith, c.requires.room.enough k w at, c.loop-line.auto.scratch))

pub loop-line-preserved : goal.loop-line-preserved
loop-line-preserved c =
    next_done c.args.k.now c.args.outputs.now c.loop-line.outputs c.loop-line.line c.run_line.new.output (omega (arith, c.loop-line-test.true, c.loop-line.auto.outputs))
    c.loop-line.invariant c.run_line.ensures

pub returns : goal.returns
returns c = all_done c.args.k.now c.args.outputs.now c.loop-line.outputs c.loop-line.line c.requires.room.outputs_for.many c.loop-line.auto.outputs (omega (arith, c.loop-line-test.false)) c.loop-line.invariant
