-- How far a text was read.
use Rattle.std.specs.Prelude.{◌≡◌, ℕ, ◌≤◌, List, length, Some}
use Rattle.kernel_parse.specs.Grammar.{Words}
use Rattle.problem_file.specs.Statements.{Placed}
use Rattle.problem_file.specs.Grammar.{BeginsWith}
use Rattle.problem_file.specs.Drafts.{draft_of}
use Rattle.problem_file.specs.declared.draft.Draft.{Draft}
use Rattle.problem_file.specs.declared.fault.ParseFault.{ParseFault}
use Rattle.problem_file.specs.declared.fault.ParseFault.TheVariants.{BadText, NoMemory}

-- the text up to `start`, which is so many whole lines, gave these names and this draft
pub record IsReadTo (text : List ℕ) (start lines : ℕ) (names : Words) (d : Draft) : Type 0 where
  pub statements : List Placed
  pub begins : BeginsWith text start lines d.place statements names
  pub drafts : draft_of statements ≡ Some d
  pub few_names : length names ≤ start
  pub few_lines : lines ≤ start
  pub inside : start ≤ length text

-- the fault is want of memory, or a bad line of this kind
abbrev pub Blames : (ℕ → Type 0) → ParseFault → Type 0
Blames P (BadText line) = P line
Blames P NoMemory = Unit {0}
