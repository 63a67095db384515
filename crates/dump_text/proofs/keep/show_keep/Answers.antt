use Rattle.std.proofs.Common.{◌≡◌, false, rules}
use Rattle.std.specs.Option.{is_some}
use Rattle.problem_types.specs.Lists.{variable_named}
use Rattle.dump_text.proofs.Shown.{shows_plain}
use Rattle.dump_text.proofs.keep.show_keep.Goals as goal

pub show_variable-requires-clause-has : goal.show_variable-requires-clause-has
show_variable-requires-clause-has g c = c.requires.variable (search rules)

pub returns-else-is_variable : goal.returns-else-is_variable
returns-else-is_variable g c =
    let none : is_some (variable_named c.args.kept.now.problem.now c.args.kept.now.name) ≡ false = search rules in
    rw none (shows_plain g.O.Sink.after g.met.O.Sink.after_none _ _ _ _ _ c.write_number.ensures)
