use Rattle.std.proofs.Common.{take}
use Rattle.graph_compiler.proofs.Joining.{AreSoFar}
use Rattle.graph_compiler.proofs.sources.Sources.sources.Given as goal

abbrev pub invariant-loop-r : goal.invariant-loop-r
invariant-loop-r l = AreSoFar l.self.problem.now l.self.tasks.now l.task l.t l.level l.material (take l.r-index l.t.requirements) l.initial.searches.made l.searches.made
    l.self.old.now.variables.items l.sources
