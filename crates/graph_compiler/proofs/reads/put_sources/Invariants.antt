use Rattle.std.proofs.Common.{◌≡◌, take}
use Rattle.std.specs.List.{flat_map}
use Rattle.graph_compiler.specs.Sources.{slots_from}
use Rattle.graph_compiler.proofs.reads.put_sources.Given as goal

abbrev pub invariant-loop-source : goal.invariant-loop-source
invariant-loop-source l = l.reads.items ≡ flat_map (slots_from l.searches.made l.places l.patch) (take l.source-index l.sources)
