use Rattle.std.proofs.Common.{◌≡◌, replicate, None}
use Rattle.whole_fields.proofs.warehouse.no_fields.Given as goal

abbrev pub invariant-loop-place : goal.invariant-loop-place
invariant-loop-place l = l.fields ≡ replicate l._place None
