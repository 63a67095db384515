use Rattle.std.proofs.Common.{sym}
use Rattle.std.specs.Prelude.{◌==◌}
use Rattle.problem_types.specs.declared.problem.Reduction.{Reduction}
use Rattle.graph_compiler.proofs.Asked.{declared, old_number_found, once_from}
use Rattle.graph_compiler.proofs.sources.Sources.old_number.Goals as goal

pub returns-in-Some : goal.returns-in-Some
returns-in-Some c =
    let s = c.args.self.now in
    old_number_found s.problem.now s.tasks.now s.old.now c.requires.from.old c.args.name c.in-Some.place (once_from s c.requires.from) c.index.result.now
    (sym c.in-Some.ensures) c.index.ensures c.requires.read

pub returns-in-None : goal.returns-in-None
returns-in-None c = absurd (declared (λ (q : Reduction). q.name == c.args.name) c.args.self.now.problem.now.reductions (sym c.in-None.ensures) c.requires.known)
