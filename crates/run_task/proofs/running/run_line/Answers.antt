use Rattle.std.proofs.Common.{length, subst}
use Rattle.field_box.specs.declared.value.Value.{Value}
use Rattle.run_task.specs.Written.{IsReadyFor}
use Rattle.run_task.proofs.LineByLine.{stands}
use Rattle.run_task.proofs.running.run_line.Goals as goal

pub fill_line-requires-clause-line : goal.fill_line-requires-clause-line
fill_line-requires-clause-line c = stands c.as_slice.ensures c.requires.line c.index-as_slice-line.is

pub fill_line-requires-clause-room : goal.fill_line-requires-clause-room
fill_line-requires-clause-room c = subst (λ (v : Value). IsReadyFor c.args.k.now c.args.line v (length c.args.scratch.now)) c.in-Grid.is c.requires.room

pub fold_line-requires-clause-line : goal.fold_line-requires-clause-line
fold_line-requires-clause-line c = stands c.as_slice.ensures c.requires.line c.index-as_slice-line.is

pub fold_line-requires-clause-reduces : goal.fold_line-requires-clause-reduces
fold_line-requires-clause-reduces c =
    let ready = subst (λ (v : Value). IsReadyFor c.args.k.now c.args.line v (length c.args.scratch.now)) c.in-Number.is c.requires.room in
    (ready c.index-as_slice-line.result (stands c.as_slice.ensures c.requires.line c.index-as_slice-line.is)).0

pub fold_line-requires-clause-room : goal.fold_line-requires-clause-room
fold_line-requires-clause-room c = (c.requires.room c.index-as_slice-line.result (stands c.as_slice.ensures c.requires.line c.index-as_slice-line.is)).1
