use Rattle.std.proofs.Common.{rules, append_assoc}
use Rattle.uts_model.specs.Dump.{step_line}
use Rattle.dump_text.proofs.lines.put_step_line.Goals as goal

pub returns : goal.returns
unfolding step_line
returns c = search (rules, append_assoc)
