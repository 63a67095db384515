use Rattle.graph_compiler.proofs.Asked.{once_from}
use Rattle.graph_compiler.proofs.Wanting.{no_new, of_writer}
use Rattle.graph_compiler.proofs.sources.Sources.new_source.Goals as goal

pub returns-in-Some : goal.returns-in-Some
returns-in-Some c =
    let s = c.args.self.now in
    of_writer s.problem.now s.tasks.now (once_from s c.requires.from) c.args.task c.args.name c.args.level c.args.material c.args.search s.old.now.variables.items c.in-Some.writer
    c.in-Some.ensures c.writer_source.result c.writer_source.ensures

pub returns-in-None : goal.returns-in-None
returns-in-None c =
    let s = c.args.self.now in
    no_new s.problem.now s.tasks.now (once_from s c.requires.from) c.args.task c.args.name c.args.level c.args.material c.args.search s.old.now.variables.items c.in-None.ensures
