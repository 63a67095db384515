use Rattle.std.proofs.Common.{◌≡◌, take}
use Rattle.problem_types.proofs.copying.copy_writes.Given as goal

-- the writes so far are copied
abbrev pub invariant-loop-write : goal.invariant-loop-write
invariant-loop-write l = l.copied ≡ take l.write-index l.writes
