-- What a printed text spells.
use Rattle.problem_types.specs.declared.problem.Problem.{Problem}
use Rattle.problem_file.specs.Grammar.{Spells}
use Rattle.problem_printable.specs.Printable.{IsPrintable}
use Rattle.problem_print.specs.Printed.{printed_text}

-- the printed text of a problem that can be printed spells it
abbrev pub PrintedTextIsRead : Type 0
PrintedTextIsRead = (p : Problem) → IsPrintable p → Spells (printed_text p) p
