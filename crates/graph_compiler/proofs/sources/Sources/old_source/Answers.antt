use Rattle.std.proofs.Common.{sym}
use Rattle.graph_compiler.proofs.Asked.{old_source_found, once_from}
use Rattle.graph_compiler.proofs.Wanting.{no_old}
use Rattle.graph_compiler.proofs.sources.Sources.old_source.Goals as goal

pub returns-in-Some : goal.returns-in-Some
returns-in-Some c =
    let s = c.args.self.now in
    old_source_found s.problem.now s.tasks.now (once_from s c.requires.from) s.old.now c.requires.from.old c.args.search c.args.name c.args.level c.args.material c.in-Some.var
    c.old_place.result c.in-Some.ensures c.old_place.ensures.place

pub returns-in-None : goal.returns-in-None
returns-in-None c =
    let s = c.args.self.now in
    λ task. no_old s.problem.now s.tasks.now (once_from s c.requires.from) task c.args.name c.args.level c.args.material c.args.search s.old.now.variables.items (sym c.in-None.ensures)
