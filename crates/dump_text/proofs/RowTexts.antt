-- One more number of a row, and its text.
use Rattle.std.proofs.Common.{◌≡◌, ◌∙◌, ℕ, ◌<◌, ℤ, List, [], ◌∷◌, ◌++◌, length, ap, sym, refl, arith, append_assoc, append-nil}
use Rattle.std.specs.Fmt.{signed_decimal}
use Rattle.std.specs.List.{flat_map}
use Rattle.std.proofs.lemmas.Grind.{flat_map-append}
use Rattle.uts_model.specs.Dump.{row_text}

-- a row has no text before its first number
pub row_text-none : row_text [] ≡ []
unfolding row_text
row_text-none = refl

row_text-first : (n : ℤ) → row_text (n ∷ []) ≡ signed_decimal n
unfolding row_text
row_text-first n = append-nil (signed_decimal n)

-- the text of a row of at least one number, and one more
row_text-more : (m : ℤ) (row : List ℤ) (n : ℤ) →
    row_text ((m ∷ row) ++ n ∷ []) ≡ row_text (m ∷ row) ++ (32 ∷ signed_decimal n)
unfolding row_text
row_text-more m row n =
    let after : ℤ → List ℕ = λ y. 32 ∷ signed_decimal y in
    ap (λ t. signed_decimal m ++ t) (flat_map-append after row (n ∷ []))
    ∙ ap (λ t. signed_decimal m ++ (flat_map after row ++ t)) (append-nil (after n))
    ∙ sym (append_assoc (signed_decimal m) (flat_map after row) (after n))

-- the first number of a row
pub text_of_first : (row : List ℤ) (n : ℤ) (old new : List ℕ) → length row ≡ 0 → old ≡ row_text row →
    new ≡ old ++ signed_decimal n → new ≡ row_text (row ++ n ∷ [])
text_of_first [] n old new none is put =
    put ∙ ap (λ t. t ++ signed_decimal n) (is ∙ row_text-none) ∙ sym (row_text-first n)
text_of_first (m ∷ row) n old new none is put = absurd (omega arith)

-- each later one, after a space
pub text_of_next : (row : List ℤ) (n : ℤ) (old mid new : List ℕ) → 0 < length row → old ≡ row_text row →
    mid ≡ old ++ 32 ∷ [] → new ≡ mid ++ signed_decimal n → new ≡ row_text (row ++ n ∷ [])
text_of_next [] n old mid new some is space put = absurd (omega arith)
text_of_next (m ∷ row) n old mid new some is space put =
    put ∙ ap (λ t. t ++ signed_decimal n) (space ∙ ap (λ t. t ++ 32 ∷ []) is)
    ∙ append_assoc (row_text (m ∷ row)) (32 ∷ []) (signed_decimal n)
    ∙ sym (row_text-more m row n)
