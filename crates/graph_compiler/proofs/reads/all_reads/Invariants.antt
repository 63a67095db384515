use Rattle.std.proofs.Common.{◌≡◌, map}
use Rattle.std.specs.List.{flat_map}
use Rattle.uts_geom.specs.Spans.{counted}
use Rattle.graph_compiler.specs.Reading.{places_read}
use Rattle.graph_compiler.specs.Searched.{AreSearched}
use Rattle.graph_compiler.proofs.Laying.{details_at}
use Rattle.graph_compiler.proofs.reads.all_reads.Given as goal

abbrev pub invariant-loop-task : goal.invariant-loop-task
invariant-loop-task l = record {
  searched : AreSearched l.problem l.searches.made;
  reads : l.all ≡ map (places_read l.problem l.tasks) (flat_map (details_at l.problem l.tasks) (counted 0 l.task));
}
