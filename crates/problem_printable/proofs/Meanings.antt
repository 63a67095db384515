-- What holds of each meaning in a table of words holds of what a token means by it.
use Rattle.std.proofs.Common.{◌≡◌, ℕ, Bool, true, false, List, [], ◌∷◌, Option, Some, ◌⊎◌, inl, inr, subst}
use Rattle.std.specs.Prelude.{if◌then◌else◌}
use Rattle.uts_lex.specs.Lexemes.{Lexeme}
use Rattle.kernel_parse.specs.Signs.{is_word, meaning_in}

abbrev pub EachMeaning : {A : Type 0} → (A → Type 0) → List (List ℕ × A) → Type 0
EachMeaning P [] = Unit {0}
EachMeaning P (entry ∷ table) = P entry.1 × EachMeaning P table

pick : {A : Type 0} (b : Bool) (x : A) (o : Option A) (y : A) → (if b then Some x else o) ≡ Some y → (x ≡ y) ⊎ (o ≡ Some y)
pick true x o y e = inl cc
pick false x o y e = inr e

pub meaning_case : {A : Type 0} (P : A → Type 0) (table : List (List ℕ × A)) (t : Lexeme) (x : A) → meaning_in table t ≡ Some x → EachMeaning P table → P x
meaning_case P [] t x e each = absurd cc
meaning_case P (entry ∷ table) t x e each =
    elim (pick (is_word entry.0 t) entry.1 (meaning_in table t) x e) [
      | inl is ↦ subst P is each.0
      | inr further ↦ meaning_case P table t x further each.1
    ]
