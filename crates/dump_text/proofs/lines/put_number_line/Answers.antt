use Rattle.std.proofs.Common.{rules, append_assoc}
use Rattle.uts_model.specs.Dump.{number_line}
use Rattle.dump_text.proofs.lines.put_number_line.Goals as goal

pub returns : goal.returns
unfolding number_line
returns c = search (rules, append_assoc)
