use Rattle.std.proofs.Common.{sym}
use Rattle.kernel_parse.specs.Source.{lexemes}
use Rattle.statement_parse.proofs.Once.{write_found, write_refused, found, not_found}
use Rattle.statement_parse.proofs.parse.parse_statement.Goals as goal

pub returns-in-Some-clause-found : goal.returns-in-Some-clause-found
returns-in-Some-clause-found c =
    write_found c.args.names.now c.write.new.names (lexemes c.args.text.now c.args.tokens.now) (lexemes c.args.text.now c.in-Some.rest.now)
    c.in-Some.name.now c.in-Some.kind c.write.result (sym c.in-Some.ensures.read) c.write.ensures.found

pub returns-in-Some-clause-bad_statement : goal.returns-in-Some-clause-bad_statement
returns-in-Some-clause-bad_statement c = λ is.
    write_refused c.args.names.now (lexemes c.args.text.now c.args.tokens.now) (lexemes c.args.text.now c.in-Some.rest.now)
    c.in-Some.name.now c.in-Some.kind (sym c.in-Some.ensures.read) (c.write.ensures.bad_statement is)

pub returns-clause-found : goal.returns-clause-found
returns-clause-found c =
    found c.args.names.now c.statement.new.names (lexemes c.args.text.now c.args.tokens.now) c.statement.result c.statement.ensures.read

pub returns-clause-bad_statement : goal.returns-clause-bad_statement
returns-clause-bad_statement c =
    not_found c.args.names.now c.statement.new.names (lexemes c.args.text.now c.args.tokens.now) c.statement.result
    (sym c.in_default.ensures.read) c.statement.ensures.read
