use Rattle.grid_levels.proofs.Beside.{apart_unless_met}
use Rattle.grid_levels.proofs.spans.are_apart.Goals as goal

pub returns : goal.returns
returns c = apart_unless_met c.spans_meet_in_indexes.ensures c.args.a c.args.b c.do_meet.result c.do_meet.ensures
