use Rattle.std.proofs.Common.{◌≡◌, ◌++◌, codes, ap, ◌∙◌}
use Rattle.problem_print.specs.Printed.{expression_text}
use Rattle.problem_print.proofs.Joining.{two_pieces, five_pieces, seven_pieces}
use Rattle.problem_print.proofs.Pieces.{text-Neg, text-Binary, text-Select}
use Rattle.problem_print.proofs.expression.+put_expression.Goals as goal

pub returns-in_ok-put_word-in-Neg : goal.returns-in_ok-put_word-in-Neg
returns-in_ok-put_word-in-Neg t c =
    let names = c.args.names.now in
    let text = ap (expression_text names) c.in-Neg.is ∙ text-Neg names c.in-Neg.a in
    let total : expression_text names c.args.e.now ≡ codes "-" ++ expression_text names c.get.result.now = cc in
    two_pieces c.put_expression.result c.args.out.now.items (expression_text names c.args.e.now) c.put_expression.new.out.items _ _ _
    c.in_ok-put_word-in-Neg.ensures c.put_expression.ensures total

pub returns-in_ok-put_expression-in-Binary-2 : goal.returns-in_ok-put_expression-in-Binary-2
returns-in_ok-put_expression-in-Binary-2 t c =
    let names = c.args.names.now in
    let text = ap (expression_text names) c.in-Binary.is ∙ text-Binary names c.in-Binary.op c.in-Binary.a c.in-Binary.b in
    let total : expression_text names c.args.e.now ≡ c.opening.result.now ++ (expression_text names c.get-in-Binary.result.now ++ (c.middle.result.now ++ (expression_text names c.get-in-Binary-2.result.now ++ codes ")"))) = cc in
    five_pieces c.put_word-in-Binary-3.result c.args.out.now.items (expression_text names c.args.e.now) c.put_word-in-Binary-3.new.out.items _ _ _ _ _ _ _ _ _
    c.in_ok-put_word-in-Binary.ensures c.in_ok-put_expression-in-Binary.ensures c.in_ok-put_word-in-Binary-2.ensures c.in_ok-put_expression-in-Binary-2.ensures
    c.put_word-in-Binary-3.ensures total

pub returns-in_ok-put_expression-in-Select-3 : goal.returns-in_ok-put_expression-in-Select-3
returns-in_ok-put_expression-in-Select-3 t c =
    let names = c.args.names.now in
    let text = ap (expression_text names) c.in-Select.is ∙ text-Select names c.in-Select.c c.in-Select.a c.in-Select.b in
    let total : expression_text names c.args.e.now ≡ codes "select(" ++ (expression_text names c.get-in-Select.result.now ++ (codes ", " ++ (expression_text names c.get-in-Select-2.result.now
    ++ (codes ", " ++ (expression_text names c.get-in-Select-3.result.now ++ codes ")"))))) = cc in
    seven_pieces c.put_word-in-Select-4.result c.args.out.now.items (expression_text names c.args.e.now) c.put_word-in-Select-4.new.out.items _ _ _ _ _ _ _ _ _ _ _ _ _
    c.in_ok-put_word-in-Select.ensures c.in_ok-put_expression-in-Select.ensures c.in_ok-put_word-in-Select-2.ensures c.in_ok-put_expression-in-Select-2.ensures
    c.in_ok-put_word-in-Select-3.ensures c.in_ok-put_expression-in-Select-3.ensures
    c.put_word-in-Select-4.ensures total
