use Rattle.std.proofs.Common.{arith}
use Rattle.dump_text.specs.Lines.{bytes_of_step, rows_of_step, step_lines}
use Rattle.dump_text.specs.Supplies.{shown_by}
use Rattle.dump_text.proofs.Seen.{as_many, noted_at_ok}
use Rattle.dump_text.proofs.step.dump_step.Goals as goal

pub returns-clause-written : goal.returns-clause-written
returns-clause-written g c =
    let shown = shown_by (g.F.Rows.rows c.args.fields.now) (g.F.Rows.numbers c.args.fields.now) in
    rw (← bytes_of_step c.args.c.now shown c.args.step) (rw c.problem.ensures.problem at c.show_step.ensures.written)

pub returns-clause-all_noted : goal.returns-clause-all_noted
returns-clause-all_noted g c =
    let shown = shown_by (g.F.Rows.rows c.args.fields.now) (g.F.Rows.numbers c.args.fields.now) in
    let seen = rw c.problem.ensures.problem at c.show_step.ensures.seen in
    noted_at_ok _ (step_lines c.args.c.now shown c.args.step) c.args.probes.now.items c.show_step.new.probes.items c.show_step.result seen
    _ (rows_of_step c.args.c.now shown c.args.step)

pub returns-clause-some_noted : goal.returns-clause-some_noted
returns-clause-some_noted g c =
    let seen = rw c.problem.ensures.problem at c.show_step.ensures.seen in seen.some

pub returns-clause-same_count : goal.returns-clause-same_count
returns-clause-same_count g c =
    omega (arith, as_many _ _ c.args.probes.now.items c.show_step.new.probes.items c.show_step.result c.show_step.ensures.seen)
