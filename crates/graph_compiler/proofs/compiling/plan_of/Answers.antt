use Rattle.std.proofs.Common.{◌∙◌, ◌≤◌, ◌+◌, ◌*◌, ap, sym, subst, arith}
use Rattle.std.specs.Prelude.{All}
use Rattle.graph_types.specs.Linked.{IsLinkable, linked}
use Rattle.graph_compiler.proofs.Compiled.{are_few, few_olds, is_compiled, old_counted, old_found, same_unlinked, slots_found}
use Rattle.graph_compiler.proofs.compiling.plan_of.Goals as goal

pub detailed_tasks-requires-clause-tasks : goal.detailed_tasks-requires-clause-tasks
detailed_tasks-requires-clause-tasks c = (is_compiled c.args.p.now c.args.kind c.args.tasks.now c.requires.form c.requires.accepted c.requires.limits c.requires.tasks).bounded

pub detailed_tasks-requires-clause-few_lines : goal.detailed_tasks-requires-clause-few_lines
detailed_tasks-requires-clause-few_lines c = (is_compiled c.args.p.now c.args.kind c.args.tasks.now c.requires.form c.requires.accepted c.requires.limits c.requires.tasks).short

pub overflow_cast-old : goal.overflow_cast-old
overflow_cast-old c =
    let p = c.args.p.now in
    let k = c.args.kind in
    let tasks = c.args.tasks.now in
    let compiled = is_compiled p k tasks c.requires.form c.requires.accepted c.requires.limits c.requires.tasks in
    omega (arith, c.len-old.ensures, few_olds p k tasks compiled c.in_ok-before.before c.in_ok-before.ensures)

pub layouts-requires-clause-tasks : goal.layouts-requires-clause-tasks
layouts-requires-clause-tasks c = (is_compiled c.args.p.now c.args.kind c.args.tasks.now c.requires.form c.requires.accepted c.requires.limits c.requires.tasks).bounded

pub layouts-requires-clause-list : goal.layouts-requires-clause-list
layouts-requires-clause-list c = (is_compiled c.args.p.now c.args.kind c.args.tasks.now c.requires.form c.requires.accepted c.requires.limits c.requires.tasks).list

pub layouts-requires-clause-old : goal.layouts-requires-clause-old
layouts-requires-clause-old c =
    let p = c.args.p.now in
    let k = c.args.kind in
    let tasks = c.args.tasks.now in
    let compiled = is_compiled p k tasks c.requires.form c.requires.accepted c.requires.limits c.requires.tasks in
    c.len-old.ensures ∙ old_counted p k tasks compiled c.in_ok-before.before c.in_ok-before.ensures

pub layouts-requires-clause-few : goal.layouts-requires-clause-few
layouts-requires-clause-few c = (is_compiled c.args.p.now c.args.kind c.args.tasks.now c.requires.form c.requires.accepted c.requires.limits c.requires.tasks).few_slots

pub all_reads-requires-clause-tasks : goal.all_reads-requires-clause-tasks
all_reads-requires-clause-tasks c = (is_compiled c.args.p.now c.args.kind c.args.tasks.now c.requires.form c.requires.accepted c.requires.limits c.requires.tasks).bounded

pub all_reads-requires-clause-list : goal.all_reads-requires-clause-list
all_reads-requires-clause-list c = (is_compiled c.args.p.now c.args.kind c.args.tasks.now c.requires.form c.requires.accepted c.requires.limits c.requires.tasks).list

pub all_reads-requires-clause-old : goal.all_reads-requires-clause-old
all_reads-requires-clause-old c =
    let p = c.args.p.now in
    let k = c.args.kind in
    let tasks = c.args.tasks.now in
    let compiled = is_compiled p k tasks c.requires.form c.requires.accepted c.requires.limits c.requires.tasks in
    old_found p k tasks compiled c.in_ok-before.before c.in_ok-before.ensures

pub all_writes-requires : goal.all_writes-requires
all_writes-requires c =
    record {
      few = subst (All (λ layout. layout.first + (layout.parts * layout.lines + layout.numbers) ≤ 262144)) (sym c.as_slice-2.ensures)
          (are_few c.args.p.now c.args.tasks.now c.in_ok-layouts.layouts c.in_ok-layouts.ensures);
    }

pub put_written-requires-clause-tasks : goal.put_written-requires-clause-tasks
put_written-requires-clause-tasks c = (is_compiled c.args.p.now c.args.kind c.args.tasks.now c.requires.form c.requires.accepted c.requires.limits c.requires.tasks).bounded

pub kept_slots-requires-clause-slots : goal.kept_slots-requires-clause-slots
kept_slots-requires-clause-slots c =
    let p = c.args.p.now in
    let k = c.args.kind in
    let tasks = c.args.tasks.now in
    let compiled = is_compiled p k tasks c.requires.form c.requires.accepted c.requires.limits c.requires.tasks in
    c.as_slice-3.ensures ∙ slots_found p k tasks compiled c.in_ok-before.before c.in_ok-before.ensures c.put_written.new.slots c.in_ok-put_written.ensures

pub graph_of-requires : goal.graph_of-requires
graph_of-requires c =
    let p = c.args.p.now in
    let k = c.args.kind in
    let tasks = c.args.tasks.now in
    let compiled = is_compiled p k tasks c.requires.form c.requires.accepted c.requires.limits c.requires.tasks in
    let same = same_unlinked p k tasks compiled c.in_ok-before.before c.in_ok-before.ensures c.in_ok-layouts.ensures c.as_slice-2.ensures c.in_ok-put_written.ensures c.as_slice-3.ensures
    c.len-old.ensures c.in_ok-reads.ensures c.in_ok-writes.ensures c.in_ok-kept.ensures in
    subst IsLinkable (sym same) compiled.linkable

pub returns : goal.returns
returns c =
    let p = c.args.p.now in
    let k = c.args.kind in
    let tasks = c.args.tasks.now in
    let compiled = is_compiled p k tasks c.requires.form c.requires.accepted c.requires.limits c.requires.tasks in
    let same = same_unlinked p k tasks compiled c.in_ok-before.before c.in_ok-before.ensures c.in_ok-layouts.ensures c.as_slice-2.ensures c.in_ok-put_written.ensures c.as_slice-3.ensures
    c.len-old.ensures c.in_ok-reads.ensures c.in_ok-writes.ensures c.in_ok-kept.ensures in
    compiled.plan c.in_ok-graph.graph c.in_ok-details.details c.put_written.new.slots (c.in_ok-graph.ensures ∙ ap linked same) c.in_ok-details.ensures
    (slots_found p k tasks compiled c.in_ok-before.before c.in_ok-before.ensures c.put_written.new.slots c.in_ok-put_written.ensures)
