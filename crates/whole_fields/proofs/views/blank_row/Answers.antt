use Rattle.std.proofs.Common.{◌∙◌, pos, w64}
use Rattle.std.proofs.lemmas.Int.{to_z-of_z}
use Rattle.whole_fields.proofs.RowViews.{along_none}
use Rattle.whole_fields.proofs.views.blank_row.Goals as goal

pub returns : goal.returns
returns c = λ x. along_none (pos 0) _ x ∙ to_z-of_z w64 c.args.outside c.ranges.outside
