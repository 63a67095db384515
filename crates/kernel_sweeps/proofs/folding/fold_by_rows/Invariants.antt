use Rattle.std.proofs.Common.{◌≡◌, ℤ, map, length, fold}
use Rattle.std.specs.List.{flat_map}
use Rattle.uts_geom.specs.Spans.{row_indexes, width_of}
use Rattle.reductions.specs.Folding.{combined}
use Rattle.kernel_sweeps.specs.Sweeps.{number_at}
use Rattle.kernel_sweeps.proofs.folding.fold_by_rows.Given as goal

-- what is combined so far are the numbers of the rows so far
abbrev pub invariant-loop-at : goal.invariant-loop-at
invariant-loop-at g l = record {
  places : length l.out ≡ width_of l.sweep.span;
  combined_so_far : l.all
      ≡ fold (combined l.fn.how) l.fn.total
      (flat_map (λ (at : ℤ × ℤ). map (number_at l.sweep (g.R.Reads.numbers l.reads) (g.R.Reads.reductions l.reads))
      (row_indexes l.sweep.span at.0 at.1)) l.yielded);
}
