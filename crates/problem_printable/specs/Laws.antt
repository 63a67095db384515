-- What can be printed.
use Rattle.problem_types.specs.declared.problem.Problem.{Problem}
use Rattle.problem_file.specs.Grammar.{IsWellFormed}
use Rattle.problem_printable.specs.Printable.{IsPrintable}

-- a problem that some text spells can be printed
abbrev pub SpelledCanBePrinted : Type 0
SpelledCanBePrinted = (p : Problem) → IsWellFormed p → IsPrintable p
