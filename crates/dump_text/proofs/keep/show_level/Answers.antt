use Rattle.std.proofs.Common.{[]}
use Rattle.dump_text.specs.Fields.{field_at, level_fields}
use Rattle.dump_text.specs.Supplies.{HasField}
use Rattle.dump_text.proofs.FieldRows.{all_at}
use Rattle.dump_text.proofs.Shown.{shows_none}
use Rattle.dump_text.proofs.keep.show_level.Goals as goal

pub show_field-requires-clause-has : goal.show_field-requires-clause-has
show_field-requires-clause-has g c =
    let kept = c.args.kept.now in
    all_at (HasField (g.F.Rows.rows c.args.fields.now) kept.name) (level_fields kept c.args.material c.args.level) [] []
    (field_at c.in-Some.place) c.in-Some.ensures.field c.requires.has

pub returns-in-None : goal.returns-in-None
returns-in-None g c = rw c.in-None.ensures.field (shows_none g.O.Sink.after g.met.O.Sink.after_none _ tt)
