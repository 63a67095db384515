use Rattle.std.proofs.Common.{sym, arith}
use Rattle.std.proofs.lemmas.Option.{slice_get_within}
use Rattle.graph_compiler.proofs.Asked.{asked, bounded_at, none_reached, number_read, once_from, reached_source}
use Rattle.task_check.specs.Reached.{reached_by}
use Rattle.graph_compiler.proofs.sources.Sources.source.Goals as goal

pub number-requires-clause-read : goal.number-requires-clause-read
number-requires-clause-read c =
    let s = c.args.self.now in
    let facts = asked s.problem.now c.args.t.now c.args.level c.args.material c.args.r (bounded_at s.problem.now s.tasks.now c.args.task c.args.t.now c.requires.from.tasks c.requires.task)
    c.requires.level c.requires.material c.requires.requirement in
    number_read s.problem.now s.tasks.now (once_from s c.requires.from) c.requires.from.form c.args.task c.args.t.now c.requires.task c.args.level c.args.material c.requires.level
    c.requires.material c.args.r c.requires.requirement facts c.in-None.ensures c.wanted_name-name.result c.wanted_name-name.ensures

pub place_of-requires-clause-few : goal.place_of-requires-clause-few
place_of-requires-clause-few c =
    let s = c.args.self.now in
    let facts = asked s.problem.now c.args.t.now c.args.level c.args.material c.args.r (bounded_at s.problem.now s.tasks.now c.args.task c.args.t.now c.requires.from.tasks c.requires.task)
    c.requires.level c.requires.material c.requires.requirement in
    (reached_by s.problem.now c.args.t.now c.args.r.store c.args.r.what c.in-Some.reach (sym c.in-Some.ensures)).few facts.requirement.few

pub place_of-requires-clause-level : goal.place_of-requires-clause-level
place_of-requires-clause-level c =
    let s = c.args.self.now in
    let facts = asked s.problem.now c.args.t.now c.args.level c.args.material c.args.r (bounded_at s.problem.now s.tasks.now c.args.task c.args.t.now c.requires.from.tasks c.requires.task)
    c.requires.level c.requires.material c.requires.requirement in
    facts.of_levels

pub place_of-requires-clause-reached : goal.place_of-requires-clause-reached
place_of-requires-clause-reached c =
    let s = c.args.self.now in
    let facts = asked s.problem.now c.args.t.now c.args.level c.args.material c.args.r (bounded_at s.problem.now s.tasks.now c.args.task c.args.t.now c.requires.from.tasks c.requires.task)
    c.requires.level c.requires.material c.requires.requirement in
    omega (
      arith,
      (reached_by s.problem.now c.args.t.now c.args.r.store c.args.r.what c.in-Some.reach (sym c.in-Some.ensures)).level_is c.args.level,
      facts.of_wanted,
    )

pub reached_level-wanted-requires : goal.reached_level-wanted-requires
reached_level-wanted-requires c =
    let s = c.args.self.now in
    let facts = asked s.problem.now c.args.t.now c.args.level c.args.material c.args.r (bounded_at s.problem.now s.tasks.now c.args.task c.args.t.now c.requires.from.tasks c.requires.task)
    c.requires.level c.requires.material c.requires.requirement in
    omega (arith, facts.of_levels, c.requires.from.limits.few_levels)

pub variable_source-requires-clause-task : goal.variable_source-requires-clause-task
variable_source-requires-clause-task c =
    let s = c.args.self.now in
    let facts = asked s.problem.now c.args.t.now c.args.level c.args.material c.args.r (bounded_at s.problem.now s.tasks.now c.args.task c.args.t.now c.requires.from.tasks c.requires.task)
    c.requires.level c.requires.material c.requires.requirement in
    omega (arith, slice_get_within s.tasks.now c.args.task c.args.t.now c.requires.task)

pub variable_source-requires-clause-level : goal.variable_source-requires-clause-level
variable_source-requires-clause-level c =
    let s = c.args.self.now in
    let facts = asked s.problem.now c.args.t.now c.args.level c.args.material c.args.r (bounded_at s.problem.now s.tasks.now c.args.task c.args.t.now c.requires.from.tasks c.requires.task)
    c.requires.level c.requires.material c.requires.requirement in
    omega (
      arith,
      (reached_by s.problem.now c.args.t.now c.args.r.store c.args.r.what c.in-Some.reach (sym c.in-Some.ensures)).level_is c.args.level,
      facts.of_wanted,
      c.reached_level-wanted.ensures,
    )

pub variable_source-requires-clause-material : goal.variable_source-requires-clause-material
variable_source-requires-clause-material c =
    let s = c.args.self.now in
    let facts = asked s.problem.now c.args.t.now c.args.level c.args.material c.args.r (bounded_at s.problem.now s.tasks.now c.args.task c.args.t.now c.requires.from.tasks c.requires.task)
    c.requires.level c.requires.material c.requires.requirement in
    facts.of_materials

pub returns-in-None-clause-source : goal.returns-in-None-clause-source
returns-in-None-clause-source c =
    let s = c.args.self.now in
    none_reached s.problem.now s.tasks.now (once_from s c.requires.from) c.args.task c.args.t.now c.requires.task c.args.level c.args.material c.requires.level c.requires.material c.args.r
    c.requires.requirement c.args.searches.now.made s.old.now.variables.items c.in-None.ensures c.wanted_name-name.result c.wanted_name-name.ensures c.number.result c.number.ensures
    c.number_source.result c.number_source.ensures

pub returns-in_ok-search-in-Some-clause-source : goal.returns-in_ok-search-in-Some-clause-source
returns-in_ok-search-in-Some-clause-source c =
    let s = c.args.self.now in
    let facts = asked s.problem.now c.args.t.now c.args.level c.args.material c.args.r (bounded_at s.problem.now s.tasks.now c.args.task c.args.t.now c.requires.from.tasks c.requires.task)
    c.requires.level c.requires.material c.requires.requirement in
    reached_source s.problem.now s.tasks.now (once_from s c.requires.from) c.args.task c.args.t.now c.requires.task c.args.level c.args.material c.requires.level c.requires.material
    c.args.r c.requires.requirement facts c.place_of.new.self.made s.old.now.variables.items c.in_ok-search-in-Some.search c.in-Some.reach c.in-Some.ensures c.wanted_name-name.result
    c.reached_level-wanted.result c.centring_of-c.result c.wanted_name-name.ensures c.reached_level-wanted.ensures c.centring_of-c.ensures c.in_ok-search-in-Some.ensures.searched
    c.in_ok-search-in-Some.ensures.found c.variable_source.result c.variable_source.ensures
