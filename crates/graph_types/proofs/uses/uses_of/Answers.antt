use Rattle.std.proofs.Common.{◌≡◌, ◌∙◌, ◌+◌, ◌++◌, ◌∷◌, [], ℕ, Bool, false, cond, List, get_or, ap, sym, subst, arith}
use Rattle.graph_types.specs.Graph.{is_kept, readers, writers}
use Rattle.graph_types.specs.Parts.{AreCounts}
use Rattle.graph_types.proofs.Linking.{count_readers, count_writers, few_counted, uses_before, uses_next}
use Rattle.graph_types.proofs.uses.uses_of.Goals as goal

pub use_count-requires-clause-read : goal.use_count-requires-clause-read
use_count-requires-clause-read c =
    let g = c.args.g.now in
    let counted = subst (λ (lists : List (List ℕ)). AreCounts g.slots lists c.in_ok-readers.readers.items) c.as_slice.ensures c.in_ok-readers.ensures in
    let few = few_counted g.slots g.reads c.in_ok-readers.readers.items c.loop-slot.slot c.index.result.now c.loop-slot-test.true
    (omega (arith, c.requires.reads_count, c.requires.tasks)) counted in
    omega (arith, few, c.index.ensures)

pub use_count-requires-clause-written : goal.use_count-requires-clause-written
use_count-requires-clause-written c =
    let g = c.args.g.now in
    let counted = subst (λ (lists : List (List ℕ)). AreCounts g.slots lists c.in_ok-writers.writers.items) c.as_slice-2.ensures c.in_ok-writers.ensures in
    let few = few_counted g.slots g.writes c.in_ok-writers.writers.items c.loop-slot.slot c.index-in-loop-slot.result.now c.loop-slot-test.true
    (omega (arith, c.requires.writes_count, c.requires.tasks)) counted in
    omega (arith, few, c.index-in-loop-slot.ensures)

pub loop-slot-preserved : goal.loop-slot-preserved
loop-slot-preserved c =
    let g = c.args.g.now in
    let slot = c.loop-slot.slot in
    let readers_counted = subst (λ (lists : List (List ℕ)). AreCounts g.slots lists c.in_ok-readers.readers.items) c.as_slice.ensures c.in_ok-readers.ensures in
    let writers_counted = subst (λ (lists : List (List ℕ)). AreCounts g.slots lists c.in_ok-writers.writers.items) c.as_slice-2.ensures c.in_ok-writers.ensures in
    let read : c.index.result.now ≡ readers g slot =
    c.index.ensures ∙ count_readers g c.requires c.in_ok-readers.readers.items slot c.loop-slot-test.true c.index.result.now readers_counted in
    let written : c.index-in-loop-slot.result.now ≡ writers g slot =
    c.index-in-loop-slot.ensures ∙ count_writers g c.requires c.in_ok-writers.writers.items slot c.loop-slot-test.true c.index-in-loop-slot.result.now writers_counted in
    let counts_same : c.index.result.now + (c.index-in-loop-slot.result.now + cond (get_or c.as_slice-in-loop-slot.result.now slot false) 1 0)
    ≡ readers g slot + (writers g slot + cond (is_kept g slot) 1 0) =
    ap (λ (n : ℕ). n + (c.index-in-loop-slot.result.now + cond (get_or c.as_slice-in-loop-slot.result.now slot false) 1 0)) read
    ∙ ap (λ (n : ℕ). readers g slot + (n + cond (get_or c.as_slice-in-loop-slot.result.now slot false) 1 0)) written
    ∙ ap (λ (kept : List Bool). readers g slot + (writers g slot + cond (get_or kept slot false) 1 0)) c.as_slice-in-loop-slot.ensures in
    c.in_ok-push.ensures.ok
    ∙ ap (λ (xs : List ℕ). xs ++ c.use_count.result ∷ []) c.loop-slot.invariant
    ∙ ap (λ (n : ℕ). uses_before g slot ++ n ∷ []) (c.use_count.ensures ∙ counts_same)
    ∙ sym (uses_next g slot)
