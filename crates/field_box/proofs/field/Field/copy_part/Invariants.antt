use Rattle.std.proofs.Common.{◌≡◌, ◌++◌}
use Rattle.uts_geom.specs.Rows.{rows_left}
use Rattle.uts_geom.specs.Spans.{rows_of}
use Rattle.field_box.proofs.PartRows.{IsCopied}
use Rattle.field_box.proofs.field.Field.copy_part.Given as goal

-- the rows so far are copied, and the others are left
abbrev pub invariant-loop-at : goal.invariant-loop-at
invariant-loop-at l = record {
  split : l.yielded ++ rows_left l.at-iterator ≡ rows_of l.part;
  copied : IsCopied l.fn.self l.from l.part l.yielded l.self;
}
