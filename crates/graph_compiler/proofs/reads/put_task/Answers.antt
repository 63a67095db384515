use Rattle.std.proofs.Common.{◌∙◌, ◌++◌, ℕ, List, map, ap, sym, arith, append_assoc}
use Rattle.std.proofs.lemmas.List.{map-append}
use Rattle.std.proofs.lemmas.Option.{slice_get_within}
use Rattle.task_check.specs.Plan.{combining, on_patches}
use Rattle.graph_compiler.specs.Reading.{part_slots, places_read, reducing_lines}
use Rattle.graph_compiler.proofs.ReadingParts.{lines_are}
use Rattle.graph_compiler.proofs.reads.put_task.Goals as goal

pub layout_at-requires : goal.layout_at-requires
layout_at-requires c = omega (arith, slice_get_within c.args.s.now.tasks.now c.args.task c.args.t.now c.requires.task, c.requires.from.layouts.count)

pub put_lines-requires-clause-few : goal.put_lines-requires-clause-few
put_lines-requires-clause-few c = (c.requires.from.layouts.each c.args.task c.args.t.now c.layout_at.result c.requires.task c.layout_at.ensures).few

pub put_lines-requires-clause-lines : goal.put_lines-requires-clause-lines
put_lines-requires-clause-lines c = (c.requires.from.layouts.each c.args.task c.args.t.now c.layout_at.result c.requires.task c.layout_at.ensures).lines

pub returns-clause-reads : goal.returns-clause-reads
returns-clause-reads c =
    let s = c.args.s.now in
    let p = s.problem.now in
    let tasks = s.tasks.now in
    let t = c.args.t.now in
    let layout = c.layout_at.result in
    let front = map (places_read p tasks) (on_patches p c.args.task t) in
    let laid = c.requires.from.layouts.each c.args.task t layout c.requires.task c.layout_at.ensures in
    c.in_ok-put_lines.ensures
    ∙ ap (λ (xs : List (List ℕ)). xs ++ map (part_slots layout) (reducing_lines t)) c.in_ok-put_levels.ensures.reads
    ∙ append_assoc c.args.all.now front (map (part_slots layout) (reducing_lines t))
    ∙ ap (λ (xs : List (List ℕ)). c.args.all.now ++ (front ++ xs)) (lines_are p c.requires.from.form c.requires.from.accepted tasks c.requires.from.list c.args.task t c.requires.task layout laid)
    ∙ ap (λ (xs : List (List ℕ)). c.args.all.now ++ xs) (sym (map-append (places_read p tasks) (on_patches p c.args.task t) (combining c.args.task t)))
