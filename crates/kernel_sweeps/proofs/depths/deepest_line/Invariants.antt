use Rattle.std.proofs.Common.{ℕ, ◌≤◌, take}
use Rattle.std.specs.Prelude.{All}
use Rattle.kernel_sweeps.specs.Room.{IsAtMostDeep}
use Rattle.kernel_sweeps.proofs.depths.deepest_line.Given as goal

-- no kernel so far is deeper, and no bound of all of them is less
abbrev pub invariant-loop-write : goal.invariant-loop-write
invariant-loop-write l = record {
  deep : All (IsAtMostDeep l.deepest) (take l.write-index l.writes);
  least : (bound : ℕ) → All (IsAtMostDeep bound) l.writes → l.deepest ≤ bound;
  shallow : l.deepest ≤ 64;
}
