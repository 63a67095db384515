use Rattle.std.proofs.Common.{◌∙◌, ap}
use Rattle.uts_geom.specs.Rows.{rows_left}
use Rattle.kernel_sweeps.specs.Sweeps.{number_at}
use Rattle.kernel_sweeps.specs.JoinedRows.{walked}
use Rattle.plain_engine.proofs.sweeping.numbers_by_rows.Goals as goal

pub returns : goal.returns
returns g c =
    let sweep = c.args.sweep.now in
    c.from_vec.ensures ∙ c.loop-at.invariant.numbers
    ∙ walked (number_at sweep (g.R.Reads.numbers c.args.reads.now) (g.R.Reads.reductions c.args.reads.now)) sweep.span _ _ _ c.loop-at.yielded _
    (ap rows_left c.into_iter-at-iterator.ensures.into_iter_gives ∙ c.rows-at-items.ensures) c.loop-at.yielded_by c.in-None.is c.next.ensures.steps
