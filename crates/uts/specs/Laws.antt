-- What holds of the answers to all words and texts.
use Rattle.std.specs.Prelude.{◌≡◌, ℕ, List, Some, String}
use Rattle.std.specs.declared.alloc.Global.{Global}
use Rattle.uts.specs.Answer.{Answers, ErrorLine}

-- one status, one list of bytes and one line on standard error answer the words and the text, and no others
pub record HasOneAnswer (words : List (String Global)) (text : List ℕ) : Type 0 where
  pub status : ℕ
  pub bytes : List ℕ
  pub answers : Answers words text status bytes
  pub only : (other : ℕ) (others : List ℕ) → Answers words text other others → (other ≡ status) × (others ≡ bytes)
  pub line : List ℕ
  pub told : ErrorLine words (Some text) status line
  pub only_line : (other : List ℕ) → ErrorLine words (Some text) status other → other ≡ line

abbrev pub OneAnswer : Type 0
OneAnswer = (words : List (String Global)) (text : List ℕ) → HasOneAnswer words text
