use Rattle.std.proofs.Common.{[], take, refl, sym}
use Rattle.std.proofs.lemmas.List.{take_all}
use Rattle.std.proofs.lemmas.List.Elements.{All-more, All-same}
use Rattle.problem_types.specs.declared.problem.BoxLine.{BoxLine}
use Rattle.problem_types.specs.Levels.{LiesIn, cells_of}
use Rattle.grid_levels.proofs.boxes.lie_in.Goals as goal

pub loop-patch-preserved : goal.loop-patch-preserved
loop-patch-preserved c =
    let d : BoxLine = record { line = 0; lo = []; hi = [] } in
    All-more (λ q. LiesIn (cells_of q) c.cells-outer.result) c.args.patches.now c.loop-patch.patch-index d c.loop-patch-test.true c.loop-patch.invariant (rw c.cells.ensures.cells at (c.lies_in.ensures.0 c.if-not-lies_in.false))

pub returns : goal.returns
returns c = (
  λ t. rw c.cells-outer.ensures.cells at (All-same (λ q. LiesIn (cells_of q) c.cells-outer.result) c.args.patches.now (take c.loop-patch.patch-index c.args.patches.now) (sym (take_all c.loop-patch.patch-index c.args.patches.now c.loop-patch-test.false)) c.loop-patch.invariant),
  λ each. refl,
)
