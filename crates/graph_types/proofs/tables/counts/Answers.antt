use Rattle.std.proofs.Common.{◌≡◌, ◌∙◌, ◌+◌, ◌≤◌, ◌++◌, List, ℕ, length, get_or, drop, take, ap, subst, sym, arith}
use Rattle.std.specs.Prelude.{All}
use Rattle.std.proofs.lemmas.List.{take_all, take_at}
use Rattle.graph_types.specs.Counting.{ascending_once}
use Rattle.graph_types.specs.Graph.{IsSlotList}
use Rattle.graph_types.specs.Parts.{AreCounts}
use Rattle.graph_types.proofs.Counted.{counts_few, counts_more}
use Rattle.graph_types.proofs.Writing.{raised_as}
use Rattle.graph_types.proofs.tables.counts.Goals as goal

pub raise-requires-clause-once : goal.raise-requires-clause-once
raise-requires-clause-once c =
    let here = subst (IsSlotList c.args.slots) (sym (c.as_slice.ensures ∙ c.numbers-item.is)) (c.requires.listed c.loop-numbers.numbers-index c.numbers-item.result c.loop-numbers-test.true) in
    ascending_once c.as_slice.result.now here.ascending

pub raise-requires-clause-within : goal.raise-requires-clause-within
raise-requires-clause-within c = λ k d below.
    let here = subst (IsSlotList c.args.slots) (sym (c.as_slice.ensures ∙ c.numbers-item.is)) (c.requires.listed c.loop-numbers.numbers-index c.numbers-item.result c.loop-numbers-test.true) in
    let size : length c.deref_mut.result.now ≡ c.args.slots = ap length c.deref_mut.ensures.value ∙ c.loop-numbers.invariant.size in
    omega (arith, here.below k d below, size)

pub raise-requires-clause-few : goal.raise-requires-clause-few
raise-requires-clause-few c =
    subst (All (λ n. n ≤ 65536)) (sym c.deref_mut.ensures.value)
    (counts_few c.args.slots c.args.lists.now c.loop-numbers.numbers-index c.numbers-item.result c.loop-numbers-test.true c.loop-numbers.counts.items c.requires.few c.loop-numbers.invariant)

pub loop-numbers-preserved : goal.loop-numbers-preserved
loop-numbers-preserved c =
    let i = c.loop-numbers.numbers-index in
    let old = c.loop-numbers.counts in
    let now = c.raise.new.counts in
    let size : length now ≡ length old.items = c.raise.auto.counts ∙ ap length c.deref_mut.ensures.value in
    let whole : take old.len (now ++ drop (length now) old.items) ≡ now = take_at now (drop (length now) old.items) old.len (c.raise.auto.counts ∙ c.deref_mut.ensures.len) in
    subst (AreCounts c.args.slots (take (i + 1) c.args.lists.now)) (sym whole)
    (counts_more c.args.slots c.args.lists.now i c.numbers-item.result c.loop-numbers-test.true old.items now size c.loop-numbers.invariant
    (raised_as c.deref_mut.result.now old.items now c.as_slice.result.now (get_or c.args.lists.now i c.numbers-item.result) c.deref_mut.ensures.value (c.as_slice.ensures ∙ c.numbers-item.is) c.raise.ensures))

pub returns : goal.returns
returns c = subst (λ (xs : List (List ℕ)). AreCounts c.args.slots xs c.loop-numbers.counts.items) (take_all c.loop-numbers.numbers-index c.args.lists.now c.loop-numbers-test.false) c.loop-numbers.invariant
