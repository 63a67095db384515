use Rattle.std.proofs.Common.{◌≡◌}
use Rattle.uts_lex.specs.Tokens.{lexeme_at}
use Rattle.kernel_parse.specs.Signs.{entry_of}
use Rattle.kernel_parse.proofs.Tables.{meaning_from}
use Rattle.kernel_parse.proofs.lexeme.meaning_of.Given as goal

abbrev pub invariant-loop-bytes : goal.invariant-loop-bytes
invariant-loop-bytes g l = meaning_from entry_of l.kind (lexeme_at l.text l.token) l.table 0 ≡ meaning_from entry_of l.kind (lexeme_at l.text l.token) l.table l.bytes-index
