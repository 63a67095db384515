use Rattle.std.proofs.Common.{◌≡◌, fold, map}
use Rattle.reductions.specs.Folding.{combined}
use Rattle.whole_fields.specs.Children.{stretch}
use Rattle.whole_fields.specs.Views.{number_along}
use Rattle.whole_fields.proofs.fine.combine_children.Given as goal

abbrev pub invariant-loop-j : goal.invariant-loop-j
invariant-loop-j l =
    l.all ≡ fold (combined l.folding) l.number (map (number_along l.along.low l.along.numbers.now l.along.outside) (stretch l.xs.first l.j))
