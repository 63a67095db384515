use Rattle.std.proofs.Common.{◌∙◌, sym}
use Rattle.task_rules.proofs.ReadLemmas.{allowed_in_leaf, allowed-Read, allowed-Number, allowed-Neg, allowed-Binary, allowed-Select}
use Rattle.task_rules.proofs.reads.+allows_all.Goals as goal
use Rattle.task_rules.proofs.reads.+allows_all.Goals.{then-allows_all-2, else-allows_all-2}

pub returns-in-Read : goal.returns-in-Read
returns-in-Read g t c =
    let whole = allowed-Read (g.R.ReadRule.allows c.args.rule.now) (g.R.ReadRule.allows_number c.args.rule.now) c.args.e.now _ c.in-Read.is in
    (λ yes. whole.1 (c.allows.ensures.0 yes), λ all. c.allows.ensures.1 (whole.0 all))

pub returns-in-Number : goal.returns-in-Number
returns-in-Number g t c =
    let whole = allowed-Number (g.R.ReadRule.allows c.args.rule.now) (g.R.ReadRule.allows_number c.args.rule.now) c.args.e.now _ _ c.in-Number.is in
    (λ yes. whole.1 (c.allows_number.ensures.0 yes), λ all. c.allows_number.ensures.1 (whole.0 all))

pub returns-in-Neg : goal.returns-in-Neg
returns-in-Neg g t c =
    let whole = allowed-Neg (g.R.ReadRule.allows c.args.rule.now) (g.R.ReadRule.allows_number c.args.rule.now) c.args.e.now _ c.in-Neg.is in
    let part = rw c.get.ensures at c.allows_all.ensures in
    (λ yes. whole.1 (part.0 yes), λ all. part.1 (whole.0 all))

pub returns-then-allows_all : goal.returns-then-allows_all
returns-then-allows_all g t c =
    let whole = allowed-Binary (g.R.ReadRule.allows c.args.rule.now) (g.R.ReadRule.allows_number c.args.rule.now) c.args.e.now _ _ _ c.in-Binary.is in
    let first = rw c.get-in-Binary.ensures at c.allows_all-in-Binary.ensures in
    let second = rw c.get-then-allows_all.ensures at c.allows_all-then-allows_all.ensures in
    (λ yes. whole.1 (first.0 c.if-allows_all.true, second.0 yes), λ all. second.1 (whole.0 all).1)

pub returns-else-allows_all : goal.returns-else-allows_all
returns-else-allows_all g t c =
    let whole = allowed-Binary (g.R.ReadRule.allows c.args.rule.now) (g.R.ReadRule.allows_number c.args.rule.now) c.args.e.now _ _ _ c.in-Binary.is in
    let first = rw c.get-in-Binary.ensures at c.allows_all-in-Binary.ensures in
    (λ yes. absurd (cc (yes, c.if-allows_all.false)), λ all. first.1 (whole.0 all).0)

pub returns-then-allows_all-3 : goal.returns-then-allows_all-3
returns-then-allows_all-3 g t c =
    let whole = allowed-Select (g.R.ReadRule.allows c.args.rule.now) (g.R.ReadRule.allows_number c.args.rule.now) c.args.e.now _ _ _ c.in-Select.is in
    let first = rw c.get-in-Select.ensures at c.allows_all-in-Select.ensures in
    let last = rw c.get-then-allows_all-3.ensures at c.allows_all-then-allows_all-3.ensures in
    elim c.if-allows_all-2.branch [
      | then-allows_all-2 w ↦
          let second = rw w.get-then-allows_all-2.ensures at w.allows_all-then-allows_all-2.ensures in
          (λ yes. whole.1 (first.0 w.if-allows_all-2.true, second.0 (sym w.value-is ∙ c.if-allows_all-3.true), last.0 yes), λ all. last.1 (whole.0 all).2)
      | else-allows_all-2 w ↦ absurd (cc (w.value-is, w.if-allows_all-2.false, c.if-allows_all-3.true))
    ]

pub returns-else-allows_all-3 : goal.returns-else-allows_all-3
returns-else-allows_all-3 g t c =
    let whole = allowed-Select (g.R.ReadRule.allows c.args.rule.now) (g.R.ReadRule.allows_number c.args.rule.now) c.args.e.now _ _ _ c.in-Select.is in
    let first = rw c.get-in-Select.ensures at c.allows_all-in-Select.ensures in
    elim c.if-allows_all-2.branch [
      | then-allows_all-2 w ↦
          let second = rw w.get-then-allows_all-2.ensures at w.allows_all-then-allows_all-2.ensures in
          (λ yes. absurd (cc (yes, c.if-allows_all-3.false)), λ all. w.value-is ∙ second.1 (whole.0 all).1)
      | else-allows_all-2 w ↦
          (λ yes. absurd (cc (yes, c.if-allows_all-3.false)), λ all. w.value-is ∙ first.1 (whole.0 all).0)
    ]

pub returns-in_default : goal.returns-in_default
returns-in_default g t c =
    allowed_in_leaf (g.R.ReadRule.allows c.args.rule.now) (g.R.ReadRule.allows_number c.args.rule.now) c.args.e.now
    c.in_default.not-Read c.in_default.not-Number c.in_default.not-Neg c.in_default.not-Binary c.in_default.not-Select
