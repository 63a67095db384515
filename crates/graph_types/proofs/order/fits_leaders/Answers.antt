use Rattle.std.proofs.Common.{◌≡◌, true, false}
use Rattle.graph_types.proofs.Walking.{behind_of, many_of, next_of, ordered_from}
use Rattle.graph_types.proofs.order.fits_leaders.Goals as goal

pub are_next-requires-clause-leaders : goal.are_next-requires-clause-leaders
are_next-requires-clause-leaders c = c.requires.leaders.within

pub are_next-requires-clause-size : goal.are_next-requires-clause-size
are_next-requires-clause-size c = c.requires.before.size

pub returns-then-not-stand_before : goal.returns-then-not-stand_before
returns-then-not-stand_before c = (
  λ t. absurd cc,
  λ ordered.
      let good : c.stand_before.result ≡ true = c.stand_before.ensures.1 (behind_of c.args.g.now c.args.task c.args.leaders.now c.args.before.now c.requires.leaders c.requires.before ordered) in
      let none : c.stand_before.result ≡ false = c.if-not-stand_before.true in
      absurd cc,
)

pub returns-then-not-knows_how_many : goal.returns-then-not-knows_how_many
returns-then-not-knows_how_many c = (
  λ t. absurd cc,
  λ ordered.
      let good : c.knows_how_many.result ≡ true = c.knows_how_many.ensures.1 (many_of c.args.g.now c.args.task c.args.leaders.now c.args.before.now c.requires.leaders c.requires.before ordered) in
      let none : c.knows_how_many.result ≡ false = c.if-not-knows_how_many.true in
      absurd cc,
)

pub returns : goal.returns
returns c = (
  λ t. ordered_from c.args.g.now c.args.task c.args.leaders.now c.args.before.now c.requires.leaders c.requires.before
      (c.stand_before.ensures.0 c.if-not-stand_before.false) (c.knows_how_many.ensures.0 c.if-not-knows_how_many.false) (c.are_next.ensures.0 t),
  λ ordered. c.are_next.ensures.1 (next_of c.args.g.now c.args.task c.args.leaders.now c.args.before.now c.requires.leaders c.requires.before ordered),
)
