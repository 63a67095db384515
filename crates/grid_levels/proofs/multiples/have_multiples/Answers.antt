use Rattle.std.proofs.Common.{[], take, refl, sym}
use Rattle.std.proofs.lemmas.List.{take_all}
use Rattle.std.proofs.lemmas.List.Elements.{All-more, All-same}
use Rattle.problem_types.specs.declared.problem.BoxLine.{BoxLine}
use Rattle.grid_levels.specs.Good.{HasMultiples}
use Rattle.grid_levels.proofs.multiples.have_multiples.Goals as goal

pub loop-b-preserved : goal.loop-b-preserved
loop-b-preserved c =
    let d : BoxLine = record { line = 0; lo = []; hi = [] } in
    All-more (HasMultiples c.args.ratio) c.args.boxes.now c.loop-b.b-index d c.loop-b-test.true c.loop-b.invariant (c.has_multiples.ensures.0 c.if-not-has_multiples.false)

pub returns : goal.returns
returns c = (
  λ t. All-same (HasMultiples c.args.ratio) c.args.boxes.now (take c.loop-b.b-index c.args.boxes.now) (sym (take_all c.loop-b.b-index c.args.boxes.now c.loop-b-test.false)) c.loop-b.invariant,
  λ each. refl,
)
