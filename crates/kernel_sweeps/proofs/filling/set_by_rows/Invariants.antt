use Rattle.std.proofs.Common.{◌≡◌, ◌++◌, length}
use Rattle.uts_geom.specs.Rows.{rows_left}
use Rattle.uts_geom.specs.Spans.{rows_of, width_of}
use Rattle.kernel_sweeps.specs.Sweeps.{number_at}
use Rattle.kernel_sweeps.proofs.FilledRows.{IsFilled}
use Rattle.kernel_sweeps.proofs.filling.set_by_rows.Given as goal

-- the rows so far have the kernel's numbers
abbrev pub invariant-loop-at : goal.invariant-loop-at
invariant-loop-at g l = record {
  places : length l.out ≡ width_of l.sweep.span;
  split : l.yielded ++ rows_left l.at-iterator ≡ rows_of l.sweep.span;
  filled : IsFilled (number_at l.sweep (g.R.Reads.numbers l.reads) (g.R.Reads.reductions l.reads)) l.sweep.span l.yielded l.field;
}
