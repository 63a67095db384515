use Rattle.uts_lex.proofs.Longest.{longest_first}
use Rattle.uts_lex.proofs.laws.token_is_the_longest.Goals as goal

pub returns : goal.returns
returns c = longest_first
