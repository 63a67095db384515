-- What is read as tokens that spell it, with the names that are known before it and behind it.
use Rattle.std.proofs.Common.{◌≡◌, ℕ, ◌≤◌, List, [], ◌∷◌, length, take, Some, subst, arith}
use Rattle.uts_lex.specs.Lexemes.{Lexeme}
use Rattle.uts_lex.specs.Names.{number_of, with_name}
use Rattle.kernel_parse.specs.Grammar.{Words}
use Rattle.problem_printable.specs.Numbering.{known_behind}
use Rattle.problem_printable.specs.Printable.{IsName, AreNames}
use Rattle.problem_print.specs.Printed.{name_text}
use Rattle.problem_print.proofs.Phrases.{Reads}
use Rattle.problem_print.proofs.Counting.{named, none_behind}

-- The text is read as tokens that spell x, where the first k of the names are known before it and the first j behind it.
pub record Said {T : Type 0} (Spelled : List Lexeme → Words → T → Words → Type 0) (names : Words) (k j : ℕ) (text : List ℕ) (x : T) : Type 0 where
  pub tokens : List Lexeme
  pub reads : Reads text tokens
  pub spelled : Spelled tokens (take k names) x (take j names)

module _ {T : Type 0} (Spelled : List Lexeme → Words → T → Words → Type 0) (names : Words) where
  -- what has no name
  pub said_nameless : (k j : ℕ) (text : List ℕ) (x : T) (ts : List Lexeme) → known_behind k [] ≡ Some j → Reads text ts
      → Spelled ts (take k names) x (take k names) → Said Spelled names k j text x
  said_nameless k j text x ts known reads spelled = record {
    tokens = ts;
    reads = reads;
    spelled = subst (λ (n : ℕ). Spelled ts (take k names) x (take n names)) (none_behind k j known) spelled;
  }

  -- what has one name, from what it is with the number that the word of the name gets
  pub said_named : (are : AreNames names) (k j name : ℕ) (text : List ℕ) (f : ℕ → T) (ts : List Lexeme) → known_behind k (name ∷ []) ≡ Some j → j ≤ length names
      → Reads text ts → Spelled ts (take k names) (f (number_of (take k names) (name_text names name))) (with_name (take k names) (name_text names name))
      → Said Spelled names k j text (f name)
  said_named are k j name text f ts known within reads spelled =
      let n = named names are.distinct k j name known within in
      let numbered = subst (λ (m : ℕ). Spelled ts (take k names) (f m) (with_name (take k names) (name_text names name))) n.number spelled in
      record { tokens = ts; reads = reads; spelled = subst (λ (after : Words). Spelled ts (take k names) (f name) after) n.words numbered }

-- the word of a name may be one
pub name_said : (names : Words) (are : AreNames names) (k j name : ℕ) → known_behind k (name ∷ []) ≡ Some j → j ≤ length names → IsName (name_text names name)
name_said names are k j name known within =
    let n = named names are.distinct k j name known within in
    are.words name [] (omega (arith, n.below, within))
