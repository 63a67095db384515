use Rattle.std.proofs.Common.{rules, append_assoc}
use Rattle.uts_model.specs.Dump.{field_line}
use Rattle.dump_text.proofs.lines.put_field_line.Goals as goal

pub returns : goal.returns
unfolding field_line
returns c = search (rules, append_assoc)
