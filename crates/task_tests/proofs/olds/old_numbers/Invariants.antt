use Rattle.uts_geom.specs.Spans.{counted}
use Rattle.unified_scheduler.specs.Fitting.{AreFitting}
use Rattle.slot_contents.specs.Contents.{contents_of}
use Rattle.slot_contents.specs.Values.{Fits}
use Rattle.task_tests.proofs.olds.old_numbers.Given as goal

-- one value for each slot so far
abbrev pub invariant-loop-k : goal.invariant-loop-k
invariant-loop-k l = record { fitting : AreFitting Fits (contents_of l.c l.step) (counted 0 l.k) l.values.items }
