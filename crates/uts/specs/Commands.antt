-- What each command is called and writes.
use Rattle.std.specs.Prelude.{◌≡◌, ℕ, List, [], codes, Option, Some, None, String}
use Rattle.std.specs.declared.alloc.Global.{Global}
use Rattle.uts_model.specs.Dump.{line, dump_bytes}
use Rattle.graph_text.specs.Listing.{listing_bytes}
use Rattle.problem_types.specs.declared.problem.Problem.{Problem}
use Rattle.uts.specs.Answer.{IsPlain, IsCheck, IsGraph, IsCommand}
use Rattle.uts.specs.declared.command.Command.{Command}
use Rattle.uts.specs.declared.command.Command.TheVariants.{Plain, Check, Graph}

abbrev pub name_of : Command → List ℕ
name_of Plain = codes "plain"
name_of Check = codes "check"
name_of Graph = codes "graph"

-- the command of this name, if there is one
abbrev pub IsNamed : List ℕ → Option Command → Type 0
IsNamed word (Some command) = word ≡ name_of command
IsNamed word None = (word ≡ codes "plain" → ⊥) × (word ≡ codes "check" → ⊥) × (word ≡ codes "graph" → ⊥)

-- the words are this command
abbrev pub Asks : List (String Global) → Command → Type 0
Asks words Plain = IsPlain words
Asks words Check = IsCheck words
Asks words Graph = IsGraph words

-- the command that the words are, if they are one
abbrev pub AsksFor : List (String Global) → Option Command → Type 0
AsksFor words (Some command) = Asks words command
AsksFor words None = IsCommand words → ⊥

-- what the command writes for a problem without faults
abbrev pub bytes_of : Command → Problem → List ℕ
bytes_of Plain p = dump_bytes p []
bytes_of Check p = line (codes "accepted")
bytes_of Graph p = listing_bytes p
