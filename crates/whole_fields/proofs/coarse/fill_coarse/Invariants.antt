use Rattle.std.proofs.Common.{◌≡◌, ◌<◌, ℕ, pos, ◌+ℤ◌, slice_index_or}
use Rattle.std.specs.Int.{int_div_euclid}
use Rattle.whole_fields.specs.Views.{number_along}
use Rattle.whole_fields.proofs.coarse.fill_coarse.Given as goal

abbrev pub invariant-loop-place : goal.invariant-loop-place
invariant-loop-place l = record {
  next : l.x ≡ l.fn.row.low +ℤ pos l.place-index;
  written : (k : ℕ) → k < l.place-index → slice_index_or l.out k (pos 0)
      ≡ number_along l.along.low l.along.numbers.now l.along.outside (int_div_euclid (l.fn.row.low +ℤ pos k) (pos l.ratio) +ℤ l.by);
}
