use Rattle.std.proofs.Common.{◌≡◌, fold, take}
use Rattle.reductions.specs.Folding.{combined}
use Rattle.kernel_sweeps.proofs.folding.fold_row.Given as goal

abbrev pub invariant-loop-number : goal.invariant-loop-number
invariant-loop-number l = l.all ≡ fold (combined l.how) l.total (take l.number-index l.numbers)
