use Rattle.std.proofs.Common.{sym, subst}
use Rattle.kernel_ast.specs.declared.expression.Store.{Store}
use Rattle.task_check.specs.Plan.{has_variable}
use Rattle.graph_compiler.specs.Sources.{IsSourceOf}
use Rattle.graph_compiler.proofs.sources.Sources.variable_source.Goals as goal

pub returns-in-Old : goal.returns-in-Old
returns-in-Old c =
    let s = c.args.self.now in
    let P : Store → Type 0 = λ at. IsSourceOf s.problem.now s.tasks.now (has_variable s.tasks.now c.args.task at c.args.name c.args.material c.args.level) c.args.level c.args.search
    s.old.now.variables.items c.old_source.result in
    subst P (sym c.in-Old.is) (c.old_source.ensures c.args.task)

pub returns-in-New : goal.returns-in-New
returns-in-New c =
    let s = c.args.self.now in
    let P : Store → Type 0 = λ at. IsSourceOf s.problem.now s.tasks.now (has_variable s.tasks.now c.args.task at c.args.name c.args.material c.args.level) c.args.level c.args.search
    s.old.now.variables.items c.new_source.result in
    subst P (sym c.in-New.is) c.new_source.ensures
