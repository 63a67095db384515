-- The answers to a text of one command.
use Rattle.std.proofs.Common.{◌≡◌, ◌∙◌, inl, inr, ◌≤◌, ◌^◌, ℕ, List, [], ◌∷◌, length, map, codes, string_bytes, String, ap, arith, sym}
use Rattle.std.specs.declared.alloc.Global.{Global}
use Rattle.problem_types.specs.declared.problem.Problem.{Problem}
use Rattle.problem_file.specs.Grammar.{Spells}
use Rattle.task_check.specs.First.{IsAccepted}
use Rattle.uts.specs.Answer.{IsPlain, IsCheck, IsGraph, IsCommand, IsRefused, Answers, usage, refusal, accepted, dump, listing}
use Rattle.uts.specs.Commands.{Asks, bytes_of}
use Rattle.uts.specs.declared.command.Command.{Command}
use Rattle.uts.specs.declared.command.Command.TheVariants.{Plain, Check, Graph}

-- the status and the bytes for standard output
pub data Outcome (command : Command) (text : List ℕ) : ℕ → List ℕ → Type 0 where
  refused : IsRefused text → Outcome command text 1 []
  done : length text ≤ 2 ^ 20 → (p : Problem) → Spells text p → IsAccepted p → Outcome command text 0 (bytes_of command p)

abbrev first_letter : List (List ℕ) → ℕ
first_letter [] = 0
first_letter ([] ∷ words) = 0
first_letter ((letter ∷ letters) ∷ words) = letter

-- words are one command at most: the names differ in their first letters
one_letter : (words : List (String Global)) (a b : List ℕ) → map string_bytes words ≡ a ∷ [] → map string_bytes words ≡ b ∷ [] → first_letter (a ∷ []) ≡ first_letter (b ∷ [])
one_letter words a b one other = ap first_letter (sym one ∙ other)

not_plain_and_check : (words : List (String Global)) → IsPlain words → IsCheck words → ⊥
not_plain_and_check words plain check = let same : ◌≡◌ {A = ℕ} 112 99 = one_letter words (codes "plain") (codes "check") plain check in absurd (omega arith)

not_plain_and_graph : (words : List (String Global)) → IsPlain words → IsGraph words → ⊥
not_plain_and_graph words plain graph = let same : ◌≡◌ {A = ℕ} 112 103 = one_letter words (codes "plain") (codes "graph") plain graph in absurd (omega arith)

not_check_and_graph : (words : List (String Global)) → IsCheck words → IsGraph words → ⊥
not_check_and_graph words check graph = let same : ◌≡◌ {A = ℕ} 99 103 = one_letter words (codes "check") (codes "graph") check graph in absurd (omega arith)

pub is_command : (words : List (String Global)) (command : Command) → Asks words command → IsCommand words
is_command words Plain asks = inl asks
is_command words Check asks = inr (inl asks)
is_command words Graph asks = inr (inr asks)

module _ (words : List (String Global)) (text : List ℕ) where
  pub outcome_of : (command : Command) (status : ℕ) (bytes : List ℕ) → Asks words command → Answers words text status bytes → Outcome command text status bytes
  outcome_of command status bytes asks (usage other) = absurd (other (is_command words command asks))
  outcome_of command status bytes asks (refusal is why) = refused why
  outcome_of Plain status bytes asks (accepted check short p spelled fine) = absurd (not_plain_and_check words asks check)
  outcome_of Check status bytes asks (accepted check short p spelled fine) = done short p spelled fine
  outcome_of Graph status bytes asks (accepted check short p spelled fine) = absurd (not_check_and_graph words check asks)
  outcome_of Plain status bytes asks (dump plain short p spelled fine) = done short p spelled fine
  outcome_of Check status bytes asks (dump plain short p spelled fine) = absurd (not_plain_and_check words plain asks)
  outcome_of Graph status bytes asks (dump plain short p spelled fine) = absurd (not_plain_and_graph words plain asks)
  outcome_of Plain status bytes asks (listing graph short p spelled fine) = absurd (not_plain_and_graph words asks graph)
  outcome_of Check status bytes asks (listing graph short p spelled fine) = absurd (not_check_and_graph words asks graph)
  outcome_of Graph status bytes asks (listing graph short p spelled fine) = done short p spelled fine

  pub answer_of : (command : Command) (status : ℕ) (bytes : List ℕ) → Asks words command → Outcome command text status bytes → Answers words text status bytes
  answer_of command status bytes asks (refused why) = refusal (is_command words command asks) why
  answer_of Plain status bytes asks (done short p spelled fine) = dump asks short p spelled fine
  answer_of Check status bytes asks (done short p spelled fine) = accepted asks short p spelled fine
  answer_of Graph status bytes asks (done short p spelled fine) = listing asks short p spelled fine
