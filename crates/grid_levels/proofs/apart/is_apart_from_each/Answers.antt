use Rattle.std.proofs.Common.{[], take, refl, sym}
use Rattle.std.proofs.lemmas.List.{take_all}
use Rattle.std.proofs.lemmas.List.Elements.{All-more, All-same}
use Rattle.problem_types.specs.declared.problem.BoxLine.{BoxLine}
use Rattle.problem_types.specs.Levels.{AreApart, cells_of}
use Rattle.grid_levels.proofs.apart.is_apart_from_each.Goals as goal

pub loop-other-preserved : goal.loop-other-preserved
loop-other-preserved c =
    let d : BoxLine = record { line = 0; lo = []; hi = [] } in
    All-more (λ q. AreApart (cells_of q) c.cells-patch.result) c.args.others.now c.loop-other.other-index d c.loop-other-test.true c.loop-other.invariant (rw c.cells.ensures.cells at (c.are_apart.ensures.0 c.if-not-are_apart.false))

pub returns : goal.returns
returns c = (
  λ t. rw c.cells-patch.ensures.cells at (All-same (λ q. AreApart (cells_of q) c.cells-patch.result) c.args.others.now (take c.loop-other.other-index c.args.others.now) (sym (take_all c.loop-other.other-index c.args.others.now c.loop-other-test.false)) c.loop-other.invariant),
  λ each. refl,
)
