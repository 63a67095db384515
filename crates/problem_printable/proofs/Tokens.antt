-- The tokens of a line are well spelled, by what holds of the token at the front of some bytes.
use Rattle.std.proofs.Common.{◌≡◌, ℕ, zero, suc, ◌-◌, Bool, true, false, refl, subst, List, [], ◌∷◌, length, Option, Some, None, All, if◌then◌else◌, option_and_then}
use Rattle.std.proofs.lemmas.List.Elements.{All-nil, All-cons}
use Rattle.uts_lex.specs.Lexemes.{Lexeme, is_blank, begins_comment, front_lexeme, put_before, lexemes_behind, lexemes_of}
use Rattle.uts_lex.specs.Spelling.{IsLexeme, IsLongest}

-- the token at the front of some bytes is the longest that is well spelled there
abbrev pub LongestAtFront : Type 0
LongestAtFront = (bytes : List ℕ) (token : Lexeme) → front_lexeme bytes ≡ Some token → IsLongest token bytes

-- a token, and the well spelled tokens behind it
put : (first : Lexeme) (more : Option (List Lexeme)) (ts : List Lexeme) → IsLexeme first → ((us : List Lexeme) → more ≡ Some us → All IsLexeme us)
    → put_before first more ≡ Some ts → All IsLexeme ts
put first None ts is rest e = absurd cc
put first (Some us) ts is rest e =
    let same : first ∷ us ≡ ts = cc in subst (All IsLexeme) same (All-cons IsLexeme first us is (rest us refl))

module _ (longest : LongestAtFront) where
  front : (bytes tail : List ℕ) (ts : List Lexeme) (token : Option Lexeme) → front_lexeme bytes ≡ token
      → ((skipped : ℕ) (us : List Lexeme) → lexemes_behind tail skipped ≡ Some us → All IsLexeme us)
      → option_and_then (λ first. put_before first (lexemes_behind tail (length first.bytes - 1))) token ≡ Some ts → All IsLexeme ts
  front bytes tail ts None is rest e = absurd cc
  front bytes tail ts (Some first) is rest e =
      put first (lexemes_behind tail (length first.bytes - 1)) ts (longest bytes first is).spelled (rest (length first.bytes - 1)) e

  by : (byte : ℕ) (bytes : List ℕ) (ts : List Lexeme) (blank comment : Bool)
      → ((skipped : ℕ) (us : List Lexeme) → lexemes_behind bytes skipped ≡ Some us → All IsLexeme us)
      → (if blank then lexemes_behind bytes 0 else (if comment then Some []
      else option_and_then (λ first. put_before first (lexemes_behind bytes (length first.bytes - 1))) (front_lexeme (byte ∷ bytes)))) ≡ Some ts
      → All IsLexeme ts
  by byte bytes ts true comment rest e = rest 0 ts e
  by byte bytes ts false true rest e = let none : [] ≡ ts = cc in subst (All IsLexeme) none (All-nil IsLexeme)
  by byte bytes ts false false rest e = front (byte ∷ bytes) bytes ts (front_lexeme (byte ∷ bytes)) refl rest e

  behind_spelled : (bytes : List ℕ) (skipped : ℕ) (ts : List Lexeme) → lexemes_behind bytes skipped ≡ Some ts → All IsLexeme ts
  behind_spelled [] skipped ts e = let none : [] ≡ ts = cc in subst (All IsLexeme) none (All-nil IsLexeme)
  behind_spelled (byte ∷ bytes) (suc skipped) ts e = behind_spelled bytes skipped ts e
  behind_spelled (byte ∷ bytes) zero ts e = by byte bytes ts (is_blank byte) (begins_comment byte) (λ k us. behind_spelled bytes k us) e

  pub tokens_spelled : (line : List ℕ) (ts : List Lexeme) → lexemes_of line ≡ Some ts → All IsLexeme ts
  tokens_spelled line ts e = behind_spelled line 0 ts e
