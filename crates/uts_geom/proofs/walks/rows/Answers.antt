use Rattle.std.proofs.Common.{refl}
use Rattle.uts_geom.specs.Rows.{rows_left}
use Rattle.uts_geom.proofs.walks.rows.Goals as goal

pub returns : goal.returns
unfolding rows_left
returns c = refl
