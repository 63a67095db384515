use Rattle.std.proofs.Common.{arith, rules}
use Rattle.kernel_ast.proofs.Limits.{not_within_no_depth, not_within_no_nodes, left_after_Binary, second_beyond-Select}
use Rattle.kernel_ast.proofs.form.+nodes_left.Goals as goal
use Rattle.kernel_ast.proofs.form.+nodes_left.Goals.{then-depth-eq0-via-then-depth-eq0, then-depth-eq0-via-else-depth-eq0+then-nodes-eq0}

pub returns-then-depth-eq0 : goal.returns-then-depth-eq0
returns-then-depth-eq0 t c =
    elim c.then-depth-eq0.branch [
      | then-depth-eq0-via-then-depth-eq0 w ↦ not_within_no_depth c.args.names c.args.depth c.args.nodes c.args.e.now (omega arith)
      | then-depth-eq0-via-else-depth-eq0+then-nodes-eq0 w ↦ not_within_no_nodes c.args.names c.args.depth c.args.nodes c.args.e.now (omega arith)
    ]

pub returns-in_ok-left-in-Binary : goal.returns-in_ok-left-in-Binary
returns-in_ok-left-in-Binary t c = search (rules, left_after_Binary)

pub returns-in_err-left-in-Select-2 : goal.returns-in_err-left-in-Select-2
returns-in_err-left-in-Select-2 t c =
    let first = rw c.get-in-Select.ensures at c.in_ok-left-in-Select.ensures in
    let beyond = rw c.get-in-Select-2.ensures at c.in_err-left-in-Select-2.ensures in
    rw c.from_residual-in_err-left-in-Select-2.ensures
    (second_beyond-Select c.args.names c.args.depth c.args.nodes c.if-depth-eq0.false c.if-nodes-eq0.false c.args.e.now
    c.in-Select.c c.in-Select.a c.in-Select.b c.in_ok-left-in-Select.left c.in-Select.is first.1 beyond)
