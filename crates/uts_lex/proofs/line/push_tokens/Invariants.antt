use Rattle.std.proofs.Common.{◌-◌}
use Rattle.uts_lex.proofs.Appending.{HasTokensTo}
use Rattle.uts_lex.proofs.line.push_tokens.Given as goal

abbrev pub invariant-loop-token : goal.invariant-loop-token
invariant-loop-token l = HasTokensTo l.text l.start l.place l.end l.line l.initial.out.items l.out.items

abbrev pub decreases-loop-token : goal.decreases-loop-token
decreases-loop-token l = l.end - l.place
