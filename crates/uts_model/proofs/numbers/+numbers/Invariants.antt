use Rattle.std.proofs.Common.{◌≡◌, ◌+◌, ◌*◌, take, fold}
use Rattle.std.specs.List.{flat_map}
use Rattle.kernel_ast.specs.Size.{depth_of}
use Rattle.reductions.specs.Folding.{combined, identity_of}
use Rattle.uts_model.specs.Folds.{numbers_of_children, numbers_on, numbers_for}
use Rattle.uts_model.proofs.Ranks.{rank}
use Rattle.uts_model.proofs.numbers.+numbers.Given as goal

abbrev pub decreases-field : goal.decreases-field
decreases-field l = 128 * rank l.moment

abbrev pub decreases-reduction : goal.decreases-reduction
decreases-reduction l = 128 * rank l.moment

abbrev pub decreases-over_children : goal.decreases-over_children
decreases-over_children l = 128 * (65 * l.place.now.step + l.place.now.tasks + 1) + 1

abbrev pub decreases-read : goal.decreases-read
decreases-read l = 128 * (65 * l.place.now.step + l.place.now.tasks + 1) + 2

abbrev pub decreases-value : goal.decreases-value
decreases-value l = 128 * (65 * l.place.now.step + l.place.now.tasks + 1) + 2 + depth_of l.e.now

abbrev pub decreases-over_indexes : goal.decreases-over_indexes
decreases-over_indexes l = 128 * (65 * l.line.now.step + l.line.now.tasks + 1) + 67

abbrev pub decreases-over_materials : goal.decreases-over_materials
decreases-over_materials l = 128 * (65 * l.line.now.step + l.line.now.tasks + 1) + 68

abbrev pub decreases-over_levels : goal.decreases-over_levels
decreases-over_levels l = 128 * (65 * l.line.now.step + l.line.now.tasks + 1) + 69

abbrev pub invariant-over_children-loop-k : goal.invariant-over_children-loop-k
invariant-over_children-loop-k l = l.total ≡ fold (combined l.f) (identity_of l.f) (take l.k (numbers_of_children l.place l.r))

abbrev pub invariant-over_indexes-loop-k : goal.invariant-over_indexes-loop-k
invariant-over_indexes-loop-k l = l.total ≡ fold (combined l.f) l.before (take l.k (numbers_on l.line l.level l.material))

abbrev pub invariant-over_materials-loop-material : goal.invariant-over_materials-loop-material
invariant-over_materials-loop-material l =
    l.total ≡ fold (combined l.f) l.before (flat_map (numbers_on l.line l.level) (take l.material-index l.material-items))

abbrev pub invariant-over_levels-loop-level : goal.invariant-over_levels-loop-level
invariant-over_levels-loop-level l =
    l.total ≡ fold (combined l.f) (identity_of l.f) (flat_map (numbers_for l.line) (take l.level-index l.level-items))
