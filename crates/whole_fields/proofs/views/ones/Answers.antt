use Rattle.whole_fields.proofs.RowViews.{number_of_none}
use Rattle.whole_fields.proofs.views.ones.Goals as goal

pub returns-clause-ones : goal.returns-clause-ones
returns-clause-ones c = number_of_none c.args.space (c.spans_hold_their_indexes.ensures c.args.space) _
