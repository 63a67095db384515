use Rattle.std.proofs.Common.{◌≡◌, ◌<◌, ℕ, pos, ◌+ℤ◌, get_or}
use Rattle.uts_geom.specs.Spans.{index}
use Rattle.kernel_eval.specs.Environments.{number_in_part}
use Rattle.kernel_eval.proofs.reads.fill_each.Given as goal

-- the indexes so far have their numbers
abbrev pub invariant-loop-place : goal.invariant-loop-place
invariant-loop-place l = record {
  next : l.x ≡ l.fn.row.low +ℤ pos l.place-index;
  written : (k : ℕ) → k < l.place-index →
      get_or l.out k (pos 0) ≡ number_in_part l.part l.read.how l.read.offset (index (l.fn.row.low +ℤ pos k) l.fn.row.y l.fn.row.z);
}
