use Rattle.std.proofs.Common.{ℕ, List, sym, ap, ◌∙◌}
use Rattle.kernel_parse.specs.Source.{lexemes}
use Rattle.statement_parse.specs.Reading.{numbers_from}
use Rattle.statement_parse.proofs.Lists.{numbers_step, numbers_end}
use Rattle.statement_parse.proofs.pieces.numbers.Goals as goal

pub loop-n-preserved : goal.loop-n-preserved
loop-n-preserved c = record {
  read = c.loop-n.invariant.read
      ∙ numbers_step c.loop-n.numbers (lexemes c.args.text.now c.loop-n.rest.now) c.in-Some.n (lexemes c.args.text.now c.in-Some.behind.now) (sym c.in-Some.ensures.read)
      ∙ ap (λ (w : List ℕ). numbers_from w (lexemes c.args.text.now c.in-Some.behind.now)) (sym c.in_ok-push.ensures.ok);
  inside = c.in-Some.ensures.rest.inside;
}

pub returns-clause-read : goal.returns-clause-read
returns-clause-read c =
    c.loop-n.invariant.read ∙ numbers_end c.loop-n.numbers (lexemes c.args.text.now c.loop-n.rest.now) (sym c.in_default.ensures.read)
