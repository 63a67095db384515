use Rattle.std.proofs.Common.{◌≡◌, ◌<◌, ◌≤◌, ℕ, pos, ◌+ℤ◌, length, map, fold, slice_index_or}
use Rattle.reductions.specs.Folding.{combined}
use Rattle.whole_fields.specs.Children.{children_on_x}
use Rattle.whole_fields.specs.Views.{number_along}
use Rattle.whole_fields.proofs.fine.FineFold.add_row.Given as goal

abbrev pub invariant-loop-number : goal.invariant-loop-number
invariant-loop-number l = record {
  next : l.x ≡ l.fn.row.low +ℤ pos l.number-index;
  done : (k : ℕ) → k < l.number-index → slice_index_or l.out k (pos 0)
      ≡ fold (combined l.self.fold) (slice_index_or l.initial.out k (pos 0))
      (map (number_along l.along.low l.along.numbers.now l.along.outside) (children_on_x l.self.ratio l.self.centring l.self.field.space (l.fn.row.low +ℤ pos k)));
  left : (k : ℕ) → l.number-index ≤ k → slice_index_or l.out k (pos 0) ≡ slice_index_or l.initial.out k (pos 0);
}
