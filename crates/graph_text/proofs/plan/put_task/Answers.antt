use Rattle.std.proofs.Common.{◌≡◌, ◌∙◌, ℕ, List, [], Some, length, ap, subst, zero-add}
use Rattle.std.specs.Prelude.{slice_get, slice_index_or}
use Rattle.std.proofs.lemmas.List.FromFn.{get_or-map-range_with_len}
use Rattle.graph_compiler.specs.declared.plan.Detail.{Detail}
use Rattle.graph_text.specs.Listing.{task_line}
use Rattle.graph_text.specs.Predecessors.{predecessors_of}
use Rattle.graph_text.proofs.Lines.{put_numbered}
use Rattle.graph_text.proofs.plan.put_task.Goals as goal

pub put_task_line-requires-clause-predecessors : goal.put_task_line-requires-clause-predecessors
put_task_line-requires-clause-predecessors c =
    let number = c.args.number in
    let plan = c.args.plan.now in
    c.list_at.ensures
    ∙ ap (λ (lists : List (List ℕ)). slice_index_or lists number []) c.requires.predecessors
    ∙ get_or-map-range_with_len (predecessors_of plan.graph) 0 (length plan.tasks) number number [] c.requires.within (zero-add number)

pub returns : goal.returns
returns c =
    let P : List Detail → Type 0 = λ tasks. slice_get tasks c.args.number ≡ Some c.item_at-d.result in
    put_numbered (task_line c.args.p.now c.args.list c.args.plan.now.graph) c.args.plan.now.tasks c.args.number c.item_at-d.result
    c.put_task_line.result c.put_task_line.new.line.items (subst P c.as_slice-tasks.ensures c.item_at-d.ensures) c.put_task_line.ensures
