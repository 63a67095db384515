use Rattle.std.proofs.Common.{◌≡◌, ◌∙◌, ℕ, ◌+◌, ◌<◌, List, ◌++◌, All, length, drop, take, ap, subst, sym, arith}
use Rattle.std.proofs.lemmas.List.{take_at}
use Rattle.graph_types.specs.Graph.{successors_of}
use Rattle.graph_text.specs.Predecessors.{IsNotedAt}
use Rattle.graph_text.proofs.Noting.{AreNotedBefore, noted_all, noted_below, noted_next}
use Rattle.graph_text.proofs.predecessors.predecessors.Goals as goal

pub note-requires : goal.note-requires
note-requires c =
    let task = c.loop-task.task in
    let P : List (List ℕ) → Type 0 = λ lists. All (All (λ n. n < task)) lists in
    subst P (sym c.deref_mut.ensures.value) (noted_below c.args.g.now c.args.count task c.loop-task.lists.items c.loop-task.invariant)

pub loop-task-preserved : goal.loop-task-preserved
loop-task-preserved c =
    let g = c.args.g.now in
    let task = c.loop-task.task in
    let old = c.loop-task.lists in
    let now = c.note.new.lists in
    let size : length now ≡ length old.items = c.note.auto.lists ∙ ap length c.deref_mut.ensures.value in
    let whole : take old.len (now ++ drop (length now) old.items) ≡ now = take_at now (drop (length now) old.items) old.len (c.note.auto.lists ∙ c.deref_mut.ensures.len) in
    let P : List (List ℕ) → Type 0 = λ lists. IsNotedAt task (successors_of g task) lists now in
    let Q : List ℕ → Type 0 = λ successors. IsNotedAt task successors c.deref_mut.result.now now in
    subst (AreNotedBefore g (task + 1) c.args.count) (sym whole)
    (noted_next g c.args.count task old.items now c.loop-task.invariant
    (subst P c.deref_mut.ensures.value (subst Q c.list_at.ensures c.in_ok-note.ensures)))

pub returns : goal.returns
returns c =
    let g = c.args.g.now in
    let end : c.loop-task.task ≡ g.tasks = omega (arith, c.loop-task.auto.task-end, c.loop-task-test.false) in
    let P : ℕ → Type 0 = λ before. AreNotedBefore g before c.args.count c.loop-task.lists.items in
    c.from_vec.ensures ∙ noted_all g c.args.count c.loop-task.lists.items (subst P end c.loop-task.invariant)
