use Rattle.std.proofs.Common.{◌≡◌, map, fold, take}
use Rattle.std.specs.List.{flat_map}
use Rattle.problem_types.specs.Regions.{indexes_of}
use Rattle.reductions.specs.Folding.{combined}
use Rattle.plain_engine.specs.Moments.{problem_at, kernel_at}
use Rattle.plain_engine.proofs.numbers.fold_materials.Given as goal

-- the numbers of the materials so far are combined
abbrev pub invariant-loop-material : goal.invariant-loop-material
invariant-loop-material l =
    l.all ≡ fold (combined l.reducing.how) l.fn.total
    (flat_map (λ material. map (kernel_at l.moment l.reducing.kernel.now l.level material) (indexes_of (problem_at l.moment) l.level l.reducing.centring))
    (take l.material-index l.material-items))
