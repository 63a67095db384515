use Rattle.std.proofs.Common.{◌≡◌, ◌++◌, map, take}
use Rattle.std.specs.List.{flat_map}
use Rattle.graph_compiler.specs.Reading.{details_on, places_read}
use Rattle.graph_compiler.specs.Searched.{AreSearched}
use Rattle.graph_compiler.proofs.reads.put_levels.Given as goal

abbrev pub invariant-loop-level : goal.invariant-loop-level
invariant-loop-level l = record {
  searched : AreSearched l.s.problem.now l.searches.made;
  reads : l.all ≡ l.initial.all ++ map (places_read l.s.problem.now l.s.tasks.now) (flat_map (λ level. flat_map (details_on l.s.problem.now l.task level) l.t.materials) (take l.level-index l.t.levels));
}
