use Rattle.std.proofs.Common.{◌≡◌, ◌∙◌, ◌<◌, ◌≤◌, ◌+◌, ◌*◌, ℕ, List, None, Some, length, sym, refl, ap, arith}
use Rattle.std.specs.Prelude.{slice_get}
use Rattle.std.proofs.lemmas.List.Elements.{All-contains}
use Rattle.std.proofs.lemmas.Option.{slice_get_within}
use Rattle.problem_types.specs.declared.problem.Task.{Task}
use Rattle.graph_compiler.proofs.Asked.{bounded_at, few_lines, runs_there, writing_line, writing_place, writing_within, written_from}
use Rattle.graph_compiler.proofs.ValidPlans.{task_in_form}
use Rattle.graph_compiler.proofs.sources.Sources.writer_source.Goals as goal

pub returns-in_err-line : goal.returns-in_err-line
returns-in_err-line c =
    let none : writing_place c.args.name c.args.t.now.writes ≡ None = ap (writing_place c.args.name) (sym c.as_slice.ensures) ∙ sym c.field_line.ensures ∙ c.in_err-line.was in
    absurd (writing_line c.args.t.now c.args.name c.args.level c.args.material c.requires.writes none)

pub layout_at-layout-requires : goal.layout_at-layout-requires
layout_at-layout-requires c = omega (arith, slice_get_within c.args.self.now.tasks.now c.args.writer c.args.t.now c.requires.task, c.requires.from.layouts.count)

pub parts_before-before-requires-clause-task : goal.parts_before-before-requires-clause-task
parts_before-before-requires-clause-task c =
    bounded_at c.args.self.now.problem.now c.args.self.now.tasks.now c.args.writer c.args.t.now c.requires.from.tasks c.requires.task

pub parts_before-before-requires-clause-form : goal.parts_before-before-requires-clause-form
parts_before-before-requires-clause-form c =
    let list = c.requires.from.list in
    task_in_form c.args.self.now.problem.now c.requires.from.form list.0 list.1 c.args.writer c.args.t.now (ap (λ (tasks : List Task). slice_get tasks c.args.writer) (sym list.2) ∙ c.requires.task)

pub parts_before-before-requires-clause-level : goal.parts_before-before-requires-clause-level
parts_before-before-requires-clause-level c =
    let p = c.args.self.now.problem.now in
    let bounded = bounded_at p c.args.self.now.tasks.now c.args.writer c.args.t.now c.requires.from.tasks c.requires.task in
    All-contains (λ l. l < length p.levels) c.args.t.now.levels c.args.level bounded.levels (runs_there c.args.t.now c.args.name c.args.level c.args.material c.requires.writes).0

pub line_slot-requires : goal.line_slot-requires
line_slot-requires c =
    let s = c.args.self.now in
    let laid = c.requires.from.layouts.each c.args.writer c.args.t.now c.layout_at-layout.result c.requires.task c.layout_at-layout.ensures in
    let bounded = bounded_at s.problem.now s.tasks.now c.args.writer c.args.t.now c.requires.from.tasks c.requires.task in
    let few : length c.args.t.now.writes ≤ 64 = omega (arith, bounded.few_lines) in
    let two = few_lines s.problem.now s.tasks.now c.args.writer c.args.t.now c.requires.task c.layout_at-layout.result laid few in
    let some : writing_place c.args.name c.args.t.now.writes ≡ Some c.in_ok-line.line = ap (writing_place c.args.name) (sym c.as_slice.ensures) ∙ sym c.field_line.ensures ∙ c.in_ok-line.was in
    record {
      first = two.0;
      lines = two.1;
      before = c.parts_before-before.ensures.few;
      line = omega (arith, writing_within c.args.name c.in_ok-line.line c.args.t.now.writes some, few);
    }

pub returns : goal.returns
returns c =
    let s = c.args.self.now in
    let layout = c.layout_at-layout.result in
    let laid = c.requires.from.layouts.each c.args.writer c.args.t.now layout c.requires.task c.layout_at-layout.ensures in
    let some : writing_place c.args.name c.args.t.now.writes ≡ Some c.in_ok-line.line = ap (writing_place c.args.name) (sym c.as_slice.ensures) ∙ sym c.field_line.ensures ∙ c.in_ok-line.was in (
      refl,
      written_from s.problem.now s.tasks.now c.args.writer c.args.t.now c.requires.task layout laid c.args.name c.args.level c.args.material c.in_ok-line.line c.line_slot.result
          c.requires.writes some (c.line_slot.ensures ∙ ap (λ (k : ℕ). layout.first + k * layout.lines + c.in_ok-line.line) c.parts_before-before.ensures.count),
    )
