use Rattle.kernel_parse.proofs.Judged.{all_judged}
use Rattle.kernel_parse.proofs.laws.expressions_are_judged.Goals as goal

pub returns : goal.returns
returns c = all_judged
