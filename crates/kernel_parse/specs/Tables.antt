-- Reading by a table.
use Rattle.std.proofs.Common.{◌≡◌, ℕ, Bool, true, false, List, [], ◌∷◌, Some, refl, sym, subst}
use Rattle.std.specs.Prelude.{if◌then◌else◌}
use Rattle.uts_lex.specs.declared.token.Kind.{Kind}
use Rattle.uts_lex.specs.Lexemes.{Lexeme, lexeme}
use Rattle.kernel_parse.specs.Signs.{is_lexeme, meaning_of}
use Rattle.kernel_parse.specs.Firsts.{is_lexeme_true}

-- what holds of each entry, in turn
abbrev pub Each : {A : Type 0} → Kind → (Lexeme → A → Type 0) → List (List ℕ × A) → Type 0
Each kind P [] = Unit {0}
Each kind P (entry ∷ table) = P (lexeme kind entry.0) entry.1 × Each kind P table

-- what holds of each entry holds of a token that has a meaning
pub meaning_case : {A : Type 0} (kind : Kind) (P : Lexeme → A → Type 0) (table : List (List ℕ × A)) (t : Lexeme) (a : A)
    → meaning_of kind table t ≡ Some a → Each kind P table → P t a
meaning_case kind P [] t a is each = absurd cc
meaning_case {A} kind P (entry ∷ table) t a is each = by (is_lexeme kind entry.0 t) refl is (λ also. meaning_case kind P table t a also each.1)
  where
    by : (b : Bool) → is_lexeme kind entry.0 t ≡ b → (if b then Some entry.1 else meaning_of kind table t) ≡ Some a → (meaning_of kind table t ≡ Some a → P t a) → P t a
    by true here e other =
        let a-is : entry.1 ≡ a = cc (e) in
        subst (λ (x : A). P t x) a-is (subst (λ (l : Lexeme). P l entry.1) (sym (is_lexeme_true kind entry.0 t here)) each.0)
    by false here e other = other e
