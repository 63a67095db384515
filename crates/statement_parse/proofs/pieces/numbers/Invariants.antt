use Rattle.std.proofs.Common.{◌≡◌, [], length}
use Rattle.std.specs.Prelude.{All}
use Rattle.kernel_parse.specs.Source.{LiesIn, lexemes}
use Rattle.statement_parse.specs.Reading.{numbers_from}
use Rattle.statement_parse.proofs.pieces.numbers.Given as goal

abbrev pub invariant-loop-n : goal.invariant-loop-n
invariant-loop-n l = record {
  read : numbers_from [] (lexemes l.text l.tokens) ≡ numbers_from l.numbers (lexemes l.text l.rest);
  inside : All (LiesIn l.text) l.rest;
}

abbrev pub decreases-loop-n : goal.decreases-loop-n
decreases-loop-n l = length l.rest
