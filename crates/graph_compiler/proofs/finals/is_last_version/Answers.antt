use Rattle.graph_compiler.proofs.LastVersions.{last_version_is}
use Rattle.graph_compiler.proofs.finals.is_last_version.Goals as goal

pub returns : goal.returns
returns c = λ p form bounded. last_version_is p c.args.s c.args.tasks.now c.is_newest.result c.is_newest.ensures c.requires.new form bounded
