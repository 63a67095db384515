use Rattle.dump_text.proofs.WholeRun.{run_seen}
use Rattle.dump_text.proofs.laws.probes_see_the_dump.Goals as goal

pub returns : goal.returns
returns c = run_seen
