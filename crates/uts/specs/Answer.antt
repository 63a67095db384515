-- What the program answers to its words and to the text that its source has.
use Rattle.std.specs.Prelude.{◌≡◌, ◌⊎◌, ◌<◌, ◌≤◌, ◌^◌, ℕ, List, [], ◌∷◌, map, length, codes, decimal, ◌++◌, Option, IfSome, String, string_bytes}
use Rattle.std.specs.declared.alloc.Global.{Global}
use Rattle.uts_model.specs.Dump.{line, dump_bytes}
use Rattle.problem_types.specs.declared.problem.Problem.{Problem}
use Rattle.problem_file.specs.Grammar.{Spells, IsBadLine}
use Rattle.graph_text.specs.Listing.{listing_bytes}
use Rattle.task_check.specs.First.{IsFirstFault, IsAccepted}
use Rattle.task_check.specs.declared.fault.FaultKind.{FaultKind}
use Rattle.uts.specs.Words.{fault_words}

-- the words are the command that writes the dump of the source's problem
abbrev pub IsPlain : List (String Global) → Type 0
IsPlain words = map string_bytes words ≡ codes "plain" ∷ []

-- the words are the command that tells whether the source's problem has a fault
abbrev pub IsCheck : List (String Global) → Type 0
IsCheck words = map string_bytes words ≡ codes "check" ∷ []

-- the words are the command that writes the listing of its task graphs
abbrev pub IsGraph : List (String Global) → Type 0
IsGraph words = map string_bytes words ≡ codes "graph" ∷ []

-- the words are one of the commands
abbrev pub IsCommand : List (String Global) → Type 0
IsCommand words = IsPlain words ⊎ (IsCheck words ⊎ IsGraph words)

abbrev pub IsTooLong : List ℕ → Type 0
IsTooLong text = 2 ^ 20 < length text

-- the text is short enough, and this is its first bad line
pub record IsBadText (text : List ℕ) (bad : ℕ) : Type 0 where
  pub short : length text ≤ 2 ^ 20
  pub first_bad : IsBadLine text bad

-- the text is short enough, and spells a problem whose first fault is of this kind and stands on this line
pub record IsFaulty (text : List ℕ) (fault_line : ℕ) (k : FaultKind) : Type 0 where
  pub short : length text ≤ 2 ^ 20
  pub problem : Problem
  pub spelled : Spells text problem
  pub first_fault : IsFirstFault problem fault_line k

-- too long, of a bad line, or with a fault: what the commands refuse
abbrev pub IsRefused : List ℕ → Type 0
IsRefused text = IsTooLong text ⊎ (((bad : ℕ) × IsBadText text bad) ⊎ ((fault_line : ℕ) × (k : FaultKind) × IsFaulty text fault_line k))

-- the status for these words and this text, and the bytes for standard output
pub data Answers (words : List (String Global)) (text : List ℕ) : ℕ → List ℕ → Type 0 where
  usage : (IsCommand words → ⊥) → Answers words text 2 []
  refusal : IsCommand words → IsRefused text → Answers words text 1 []
  accepted : IsCheck words → length text ≤ 2 ^ 20 → (p : Problem) → Spells text p → IsAccepted p
      → Answers words text 0 (line (codes "accepted"))
  dump : IsPlain words → length text ≤ 2 ^ 20 → (p : Problem) → Spells text p → IsAccepted p → Answers words text 0 (dump_bytes p [])
  listing : IsGraph words → length text ≤ 2 ^ 20 → (p : Problem) → Spells text p → IsAccepted p → Answers words text 0 (listing_bytes p)

-- the line of a refusal by these words, which stands on a line of the text
abbrev pub refusal_line : List ℕ → ℕ → List ℕ
refusal_line why at_line = line (codes "refused: " ++ (why ++ (codes ", line " ++ decimal at_line)))

-- the line on standard error for a status, for these words and where the source has this text
pub data ErrorLine (words : List (String Global)) (text : Option (List ℕ)) : ℕ → List ℕ → Type 0 where
  none : ErrorLine words text 0 []
  too_long : IfSome text IsTooLong → ErrorLine words text 1 (line (codes "refused: too long"))
  bad_text : (bad : ℕ) → IfSome text (λ t. IsBadText t bad) → ErrorLine words text 1 (refusal_line (codes "bad text") bad)
  fault : (fault_line : ℕ) (k : FaultKind) → IfSome text (λ t. IsFaulty t fault_line k)
      → ErrorLine words text 1 (refusal_line (fault_words k) fault_line)
  usage_line : (IsCommand words → ⊥) → ErrorLine words text 2 (line (codes "usage: plain, check, graph, make N, run W, mill N W"))
  read_fault : ErrorLine words text 3 (line (codes "read fault"))
  write_fault : ErrorLine words text 4 (line (codes "write fault"))
  no_memory : ErrorLine words text 5 (line (codes "no memory"))
