use Rattle.std.proofs.Common.{◌≡◌, ◌∙◌, ◌+◌, ℕ, Bool, true, false, cond, ap, sym, arith}
use Rattle.std.specs.Prelude.{nat_lt}
use Rattle.graph_types.specs.Facts.{few_readers, few_writers}
use Rattle.graph_types.specs.Graph.{is_kept, readers, writers}
use Rattle.graph_types.proofs.Counted.{placed_as, placed_of, valid_from}
use Rattle.graph_types.proofs.slots.is_slot_valid.Goals as goal

pub use_count-uses-requires-clause-read : goal.use_count-uses-requires-clause-read
use_count-uses-requires-clause-read c = omega (arith, c.requires.read, few_readers c.args.g.now c.args.slot, c.requires.lists.limits.tasks)

pub use_count-uses-requires-clause-written : goal.use_count-uses-requires-clause-written
use_count-uses-requires-clause-written c = omega (arith, c.requires.written, few_writers c.args.g.now c.args.slot, c.requires.lists.limits.tasks)

pub returns-then-not-is_placed : goal.returns-then-not-is_placed
returns-then-not-is_placed c = (
  λ t. absurd cc,
  λ valid.
      let g = c.args.g.now in
      let slot = c.args.slot in
      let good : c.is_placed.result ≡ true =
      c.is_placed.ensures.1 (placed_as (nat_lt slot g.old) (readers g slot) c.args.read (writers g slot) c.args.written (is_kept g slot) c.is_kept-kept.result
      (sym c.requires.read) (sym c.requires.written) (sym c.is_kept-kept.ensures) (placed_of g slot valid)) in
      let none : c.is_placed.result ≡ false = c.if-not-is_placed.true in
      absurd cc,
)

pub returns : goal.returns
returns c =
    let g = c.args.g.now in
    let slot = c.args.slot in
    let same : c.use_count-uses.result ≡ readers g slot + (writers g slot + cond (is_kept g slot) 1 0) =
    c.use_count-uses.ensures
    ∙ ap (λ (n : ℕ). n + (c.args.written + cond c.is_kept-kept.result 1 0)) c.requires.read
    ∙ ap (λ (n : ℕ). readers g slot + (n + cond c.is_kept-kept.result 1 0)) c.requires.written
    ∙ ap (λ (b : Bool). readers g slot + (writers g slot + cond b 1 0)) c.is_kept-kept.ensures in (
      λ t. valid_from g slot
          (placed_as (nat_lt slot g.old) c.args.read (readers g slot) c.args.written (writers g slot) c.is_kept-kept.result (is_kept g slot)
          c.requires.read c.requires.written c.is_kept-kept.ensures (c.is_placed.ensures.0 c.if-not-is_placed.false))
          (c.has_uses.ensures.0 t ∙ same),
      λ valid. c.has_uses.ensures.1 (valid.uses ∙ sym same),
    )
