use Rattle.std.proofs.Common.{◌≡◌, take}
use Rattle.std.specs.List.{flat_map}
use Rattle.reductions.specs.Folding.{all_combined}
use Rattle.plain_engine.specs.Moments.{level_numbers}
use Rattle.plain_engine.proofs.numbers.fold_levels.Given as goal

-- the numbers of the levels so far are combined
abbrev pub invariant-loop-level : goal.invariant-loop-level
invariant-loop-level l =
    l.all ≡ all_combined l.reducing.how
    (flat_map (level_numbers l.moment l.task l.reducing.kernel.now l.reducing.centring) (take l.level-index l.level-items))
