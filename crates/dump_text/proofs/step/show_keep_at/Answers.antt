use Rattle.std.proofs.Common.{◌<◌, All, IsTrue, IsFalse, length, sym, subst}
use Rattle.std.specs.Prelude.{IsSome}
use Rattle.std.specs.Option.{is_some}
use Rattle.problem_types.specs.Lists.{variable_named}
use Rattle.uts_model.specs.Dump.{shown_fields}
use Rattle.dump_text.specs.Lines.{keep_lines}
use Rattle.dump_text.specs.Supplies.{HasField, HasKept, shown_by}
use Rattle.dump_text.proofs.KeptNames.{all_kept, kept_here}
use Rattle.dump_text.proofs.step.show_keep_at.Goals as goal

pub show_keep-requires-clause-kept : goal.show_keep-requires-clause-kept
show_keep-requires-clause-kept g c =
    let p = c.args.problem.now in
    let (keep, at, is) = c.kept_name-name.ensures in
    record {
      named = subst (λ n. n < length p.names) (sym is) (all_kept (λ k. k.name < length p.names) p.keeps c.args.place keep at c.requires.form.keeps);
      bounded = c.requires.bounded;
    }

pub show_keep-requires-clause-variable : goal.show_keep-requires-clause-variable
show_keep-requires-clause-variable g c =
    let p = c.args.problem.now in
    let rows = g.F.Rows.rows c.args.fields.now in
    let (keep, at, is) = c.kept_name-name.ensures in
    subst (λ n. IsTrue (is_some (variable_named p n)) → All (HasField rows n) (shown_fields p c.args.step n)) (sym is)
    (all_kept (HasKept p c.args.step rows (g.F.Rows.numbers c.args.fields.now)) p.keeps c.args.place keep at c.requires.has).variable

pub show_keep-requires-clause-reduction : goal.show_keep-requires-clause-reduction
show_keep-requires-clause-reduction g c =
    let p = c.args.problem.now in
    let numbers = g.F.Rows.numbers c.args.fields.now in
    let (keep, at, is) = c.kept_name-name.ensures in
    subst (λ n. IsFalse (is_some (variable_named p n)) → IsSome (numbers n)) (sym is)
    (all_kept (HasKept p c.args.step (g.F.Rows.rows c.args.fields.now) numbers) p.keeps c.args.place keep at c.requires.has).reduction

pub returns : goal.returns
returns g c =
    let p = c.args.problem.now in
    let shown = shown_by (g.F.Rows.rows c.args.fields.now) (g.F.Rows.numbers c.args.fields.now) in
    let (keep, at, is) = c.kept_name-name.ensures in
    rw (← kept_here p (keep_lines p shown c.args.step) c.args.place c.kept_name-name.result keep at is) c.show_keep.ensures
