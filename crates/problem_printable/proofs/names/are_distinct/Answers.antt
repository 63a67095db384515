use Rattle.std.proofs.Common.{◌≡◌, get_or, sym, ◌∙◌}
use Rattle.std.proofs.lemmas.Bool.{false≢true}
use Rattle.problem_printable.proofs.Distinct.{seen_more, not_distinct}
use Rattle.problem_printable.proofs.names.are_distinct.Goals as goal

pub returns-then-not-branch : goal.returns-then-not-branch
returns-then-not-branch c =
    let word = c.bytes.result in
    let is : word.now ≡ get_or c.args.names.now c.loop-name.name-index word.now = rw c.bytes.ensures c.name-item.is in (
      λ no. absurd (false≢true no),
      λ distinct. absurd (not_distinct c.args.names.now c.loop-name.name-index word c.loop-name.seen c.loop-name-test.true is c.loop-name.invariant
          (sym c.if-not-branch.true ∙ c.in_ok-insert.ensures.added) distinct),
    )

pub loop-name-preserved : goal.loop-name-preserved
loop-name-preserved c =
    let word = c.bytes.result in
    let is : word.now ≡ get_or c.args.names.now c.loop-name.name-index word.now = rw c.bytes.ensures c.name-item.is in
    seen_more c.args.names.now c.loop-name.name-index word c.loop-name.seen c.loop-name-test.true is c.loop-name.invariant c.insert.new.self
    (sym c.if-not-branch.false ∙ c.in_ok-insert.ensures.added) c.in_ok-insert.ensures.updates
