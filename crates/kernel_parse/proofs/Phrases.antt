-- Phrases with tokens between them.
use Rattle.std.proofs.Common.{◌≡◌, List, [], ◌∷◌, ◌++◌, ap, ◌∙◌, append_assoc}
use Rattle.uts_lex.specs.Lexemes.{Lexeme}

pub joined_two : (a b d : Lexeme) (xs ys rest r s ts : List Lexeme) → ts ≡ a ∷ xs ++ r → r ≡ b ∷ ys ++ s → s ≡ d ∷ rest
    → ts ≡ (a ∷ xs ++ b ∷ ys ++ d ∷ []) ++ rest
joined_two a b d xs ys rest r s ts first second last =
    first ∙ ap (λ (w : List Lexeme). a ∷ xs ++ w) (second ∙ ap (λ (w : List Lexeme). b ∷ ys ++ w) last) ∙ simp append_assoc

pub joined_three : (a b c d : Lexeme) (xs ys zs rest r s t ts : List Lexeme) → ts ≡ a ∷ xs ++ r → r ≡ b ∷ ys ++ s → s ≡ c ∷ zs ++ t → t ≡ d ∷ rest
    → ts ≡ (a ∷ xs ++ b ∷ ys ++ c ∷ zs ++ d ∷ []) ++ rest
joined_three a b c d xs ys zs rest r s t ts first second third last =
    first ∙ ap (λ (w : List Lexeme). a ∷ xs ++ w) (second ∙ ap (λ (w : List Lexeme). b ∷ ys ++ w) (third ∙ ap (λ (w : List Lexeme). c ∷ zs ++ w) last)) ∙ simp append_assoc
