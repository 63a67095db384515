use Rattle.std.proofs.Common.{◌∙◌, ◌<◌, ◌+◌, [], ℕ, List, length, ap, refl, sym, subst, arith}
use Rattle.std.specs.Prelude.{◌==◌, slice_index}
use Rattle.std.specs.List.{list_any}
use Rattle.std.proofs.lemmas.List.{take_all}
use Rattle.graph_types.specs.Graph.{IsSlotList, reads_of}
use Rattle.graph_types.proofs.Owning.{leaders_from}
use Rattle.graph_types.proofs.order.leaders_of.Goals as goal

pub bounds-owners-slot : goal.bounds-owners-slot
bounds-owners-slot c =
    let there : c.args.task < length c.args.g.now.reads = omega (arith, c.requires.linkable.reads_count, c.requires.task) in
    let here = subst (IsSlotList c.args.g.now.slots) (sym c.list_at-slot-items.ensures) (c.requires.linkable.reads c.args.task [] there) in
    let below = here.below c.loop-slot.slot-index 0 c.loop-slot-test.true in
    omega (arith, below, c.requires.owners.size)

pub returns-clause-leaders : goal.returns-clause-leaders
returns-clause-leaders c =
    let g = c.args.g.now in
    leaders_from g c.requires.linkable c.args.owners.now c.requires.owners c.args.task c.requires.task c.loop-slot.seen (c.args.task + 1) c.loop-slot.found.items (reads_of g c.args.task)
    c.loop-slot.invariant.noted (c.loop-slot.auto.seen ∙ c.requires.size) refl
    (λ first there.
    c.loop-slot.invariant.found first (omega (arith, c.requires.size))
    ∙ ap (λ (xs : List ℕ). list_any (λ slot. slice_index c.args.owners.now slot == first) xs)
    (take_all c.loop-slot.slot-index (reads_of g c.args.task) (omega (arith, c.loop-slot-test.false, ap length c.list_at-slot-items.ensures))))
