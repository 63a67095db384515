use Rattle.std.proofs.Common.{◌≡◌, ◌++◌, map, take}
use Rattle.std.specs.List.{flat_map}
use Rattle.graph_compiler.specs.Reading.{details_on, places_read}
use Rattle.graph_compiler.specs.Searched.{AreSearched}
use Rattle.graph_compiler.proofs.reads.put_level.Given as goal

abbrev pub invariant-loop-material : goal.invariant-loop-material
invariant-loop-material l = record {
  searched : AreSearched l.s.problem.now l.searches.made;
  reads : l.all ≡ l.initial.all ++ map (places_read l.s.problem.now l.s.tasks.now) (flat_map (details_on l.s.problem.now l.task l.level) (take l.material-index l.t.materials));
}
