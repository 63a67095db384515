use Rattle.std.proofs.Common.{◌≡◌, ◌∙◌, ◌+◌, ◌<◌, ◌++◌, [], ℕ, length, drop, take, ap, subst, sym, arith}
use Rattle.std.proofs.lemmas.List.{take_at}
use Rattle.graph_types.specs.Graph.{IsSlotList, writes_of}
use Rattle.graph_types.proofs.Owning.{AreOwnersBefore, owners_all, owners_more}
use Rattle.graph_types.proofs.Writing.{owned_as}
use Rattle.graph_types.proofs.owners.owners_of.Goals as goal

pub list_at-requires : goal.list_at-requires
list_at-requires c = omega (arith, c.requires.writes_count)

pub own-requires : goal.own-requires
own-requires c = λ k d below.
    let task = c.loop-task.task in
    let there : task < length c.args.g.now.writes = omega (arith, c.requires.writes_count) in
    let here = subst (IsSlotList c.args.g.now.slots) (sym c.list_at.ensures) (c.requires.writes task [] there) in
    let size : length c.deref_mut.result.now ≡ c.args.g.now.slots = ap length c.deref_mut.ensures.value ∙ c.loop-task.invariant.size in
    omega (arith, here.below k d below, size)

pub loop-task-preserved : goal.loop-task-preserved
loop-task-preserved c =
    let task = c.loop-task.task in
    let old = c.loop-task.owners in
    let now = c.own.new.owners in
    let size : length now ≡ length old.items = c.own.auto.owners ∙ ap length c.deref_mut.ensures.value in
    let whole : take old.len (now ++ drop (length now) old.items) ≡ now = take_at now (drop (length now) old.items) old.len (c.own.auto.owners ∙ c.deref_mut.ensures.len) in
    subst (AreOwnersBefore c.args.g.now (task + 1)) (sym whole)
    (owners_more c.args.g.now c.requires task c.loop-task-test.true old.items now size c.loop-task.invariant
    (owned_as c.deref_mut.result.now old.items now c.list_at.result.now (writes_of c.args.g.now task) task c.deref_mut.ensures.value c.list_at.ensures c.own.ensures))

pub returns : goal.returns
returns c =
    let end : c.loop-task.task ≡ c.args.g.now.tasks = omega (arith, c.loop-task.auto.task-end, c.loop-task-test.false) in
    owners_all c.args.g.now c.loop-task.owners.items (subst (λ (t : ℕ). AreOwnersBefore c.args.g.now t c.loop-task.owners.items) end c.loop-task.invariant)
