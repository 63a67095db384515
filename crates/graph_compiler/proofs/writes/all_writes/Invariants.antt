use Rattle.std.proofs.Common.{◌≡◌, take}
use Rattle.std.specs.List.{flat_map}
use Rattle.graph_compiler.specs.Layouts.{rows_of}
use Rattle.graph_compiler.proofs.writes.all_writes.Given as goal

abbrev pub invariant-loop-layout : goal.invariant-loop-layout
invariant-loop-layout l = l.all ≡ flat_map rows_of (take l.layout-index l.layouts)
