use Rattle.std.proofs.Common.{arith, ap, ◌<◌, ◌≤◌, length, drop, ◌+◌}
use Rattle.std.proofs.lemmas.List.{drop_all}
use Rattle.uts_geom.specs.Spans.{rows_of}
use Rattle.uts_geom.specs.Rows.{rows_left}
use Rattle.uts_geom.proofs.Walking.{rest_more}
use Rattle.uts_geom.proofs.walks.RowsIterator.next.Goals as goal

pub returns-then-self-clause-steps : goal.returns-then-self-clause-steps
unfolding rows_left
returns-then-self-clause-steps c =
    let over : length (rows_of c.args.self.now.span) ≤ c.args.self.now.done = omega (arith, c.args.self.now.total_is) in
    let none = drop_all c.args.self.now.done (rows_of c.args.self.now.span) over in
    (none, none)

pub returns-clause-steps : goal.returns-clause-steps
unfolding rows_left
returns-clause-steps c = rest_more (rows_of c.args.self.now.span) c.args.self.now.done c.row_at-row.result c.row_at-row.ensures

pub returns-clause-goes : goal.returns-clause-goes
unfolding rows_left
returns-clause-goes c =
    let more = rest_more (rows_of c.args.self.now.span) c.args.self.now.done c.row_at-row.result c.row_at-row.ensures in
    let fewer : length (drop (c.args.self.now.done + 1) (rows_of c.args.self.now.span)) < length (drop c.args.self.now.done (rows_of c.args.self.now.span)) = omega (arith, ap length more) in
    record {
      on = λ finite. (tt, tt, fewer);
      keeps = tt;
      rests = λ finite. tt;
    }
