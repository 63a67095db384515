use Rattle.std.proofs.Common.{◌≡◌, ℤ, map, length}
use Rattle.std.specs.List.{flat_map}
use Rattle.uts_geom.specs.Spans.{row_indexes, width_of}
use Rattle.kernel_sweeps.specs.Sweeps.{number_at}
use Rattle.plain_engine.proofs.sweeping.numbers_by_rows.Given as goal

-- the numbers are those of the rows so far
abbrev pub invariant-loop-at : goal.invariant-loop-at
invariant-loop-at g l = record {
  places : length l.out ≡ width_of l.sweep.span;
  numbers : l.numbers.items
      ≡ flat_map (λ (at : ℤ × ℤ). map (number_at l.sweep (g.R.Reads.numbers l.reads) (g.R.Reads.reductions l.reads))
      (row_indexes l.sweep.span at.0 at.1)) l.yielded;
}
