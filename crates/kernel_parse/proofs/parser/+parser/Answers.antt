use Rattle.std.proofs.Common.{sym}
use Rattle.std.proofs.lemmas.Result.{err_from_is_err_and}
use Rattle.kernel_parse.specs.Signs.{op_of}
use Rattle.kernel_parse.specs.Reading.{parsed, chain_of, operand_at, expression_at}
use Rattle.kernel_parse.specs.Source.{lexemes}
use Rattle.kernel_parse.proofs.Chains.{ends, runs_out, fails_at_operand, fails_at_limits, goes_on, expression_at_inner}
use Rattle.kernel_parse.specs.SourceLaws.{Extends_trans}
use Rattle.kernel_parse.proofs.parser.+parser.Goals as goal

pub expression-returns-in-Some-clause-read : goal.expression-returns-in-Some-clause-read
expression-returns-in-Some-clause-read t c =
    let inner = c.in-Some.ensures in
    rw (expression_at_inner c.args.levels c.in-Some.inner inner.0 inner.1 c.args.depth c.args.names.now (lexemes c.args.text.now c.args.tokens.now))
    c.comparison.ensures.read

pub chain-returns-in_default-clause-read : goal.chain-returns-in_default-clause-read
chain-returns-in_default-clause-read t c =
    let left = parsed c.loop.left.expr c.loop.names (lexemes c.args.text.now c.loop.rest.now) in
    ends (op_of c.args.kind) (operand_at c.args.kind (expression_at c.args.levels)) c.args.depth c.loop.counter left _ c.loop-test.true (sym c.in_default.ensures.read) c.loop.invariant.read

pub chain-returns-in_err-right-clause-read : goal.chain-returns-in_err-right-clause-read
chain-returns-in_err-right-clause-read t c =
    let left = parsed c.loop.left.expr c.loop.names (lexemes c.args.text.now c.loop.rest.now) in
    let p = err_from_is_err_and c.from_residual-in_err-right.result c.from_residual-in_err-right.ensures.1 in
    rw (p.1, p.2) (fails_at_operand (op_of c.args.kind) (operand_at c.args.kind (expression_at c.args.levels)) c.args.depth c.loop.counter left (chain_of c.args.kind (expression_at c.args.levels) c.args.depth c.args.names.now (lexemes c.args.text.now c.args.tokens.now)) c.in_err-right.field-0.0
    c.in-Some.op (lexemes c.args.text.now c.in-Some.behind.now) c.loop-test.true (sym c.in-Some.ensures.read) c.in_err-right.ensures.read c.loop.invariant.read)

pub chain-returns-in_err-left-2-clause-read : goal.chain-returns-in_err-left-2-clause-read
chain-returns-in_err-left-2-clause-read t c =
    let left = parsed c.loop.left.expr c.loop.names (lexemes c.args.text.now c.loop.rest.now) in
    let right = parsed c.in_ok-right.right.expr c.operand-in-loop.new.names (lexemes c.args.text.now c.in_ok-right.after.now) in
    let p = err_from_is_err_and c.from_residual-in_err-left-2.result c.from_residual-in_err-left-2.ensures.1 in
    rw (p.1, p.2) (fails_at_limits (op_of c.args.kind) (operand_at c.args.kind (expression_at c.args.levels)) c.args.depth c.loop.counter left (chain_of c.args.kind (expression_at c.args.levels) c.args.depth c.args.names.now (lexemes c.args.text.now c.args.tokens.now)) c.in_err-left-2.field-0.0
    c.in-Some.op (lexemes c.args.text.now c.in-Some.behind.now) right c.loop-test.true (sym c.in-Some.ensures.read) c.in_ok-right.ensures.read c.in_err-left-2.ensures c.loop.invariant.read)

pub chain-loop-preserved : goal.chain-loop-preserved
chain-loop-preserved t c =
    let left = parsed c.loop.left.expr c.loop.names (lexemes c.args.text.now c.loop.rest.now) in
    let right = parsed c.in_ok-right.right.expr c.operand-in-loop.new.names (lexemes c.args.text.now c.in_ok-right.after.now) in
    record {
      read = goes_on (op_of c.args.kind) (operand_at c.args.kind (expression_at c.args.levels)) c.args.depth c.loop.counter left _
          c.in-Some.op (lexemes c.args.text.now c.in-Some.behind.now) right c.in_ok-left-2.left.expr c.loop-test.true (sym c.in-Some.ensures.read) c.in_ok-right.ensures.read c.in_ok-left-2.ensures c.loop.invariant.read;
      readable = c.in_ok-right.ensures.rest;
      kept = Extends_trans _ _ _ c.loop.invariant.kept c.in_ok-right.ensures.kept;
    }

pub chain-returns-clause-read : goal.chain-returns-clause-read
chain-returns-clause-read t c =
    let left = parsed c.loop.left.expr c.loop.names (lexemes c.args.text.now c.loop.rest.now) in
    λ _. runs_out (op_of c.args.kind) (operand_at c.args.kind (expression_at c.args.levels)) c.args.depth c.loop.counter left _ c.loop-test.false c.loop.invariant.read
