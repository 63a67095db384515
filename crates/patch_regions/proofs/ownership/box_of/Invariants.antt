use Rattle.std.proofs.Common.{◌≡◌, drop}
use Rattle.patch_regions.specs.Regions.{box_of}
use Rattle.patch_regions.proofs.ownership.box_of.Given as goal

-- the box is the first among those that are left
abbrev pub invariant-loop-b : goal.invariant-loop-b
invariant-loop-b l = box_of (drop l.b-index l.boxes) l.patch ≡ box_of l.boxes l.patch
