use Rattle.uts_lex.proofs.Appending.{all_tokens}
use Rattle.uts_lex.proofs.line.push_tokens.Goals as goal

pub returns-clause-ok : goal.returns-clause-ok
returns-clause-ok c = all_tokens _ _ _ _ _ _ _ c.loop-token.invariant (rw c.in_default.is at c.in_ok-token.ensures.first)
