-- Reading a table entry by entry.
use Rattle.std.proofs.Common.{◌≡◌, ℕ, suc, ◌+◌, ◌<◌, Bool, true, false, List, ◌∷◌, length, map, get_or, drop, drop-cons, Option, Some, sym, ap, ◌∙◌, add-one}
use Rattle.std.specs.Prelude.{if◌then◌else◌}
use Rattle.uts_lex.specs.declared.token.Kind.{Kind}
use Rattle.uts_lex.specs.Lexemes.{Lexeme}
use Rattle.kernel_parse.specs.Signs.{is_lexeme, meaning_of}

-- what a token means by the entries of a table from the ith on
abbrev pub meaning_from : {X A : Type 0} → (X → List ℕ × A) → Kind → Lexeme → List X → ℕ → Option A
meaning_from entry kind t table i = meaning_of kind (map entry (drop i table)) t

module _ {X A : Type 0} (entry : X → List ℕ × A) (kind : Kind) (t : Lexeme) (table : List X) (i : ℕ) (x : X) (lt : i < length table) (is : x ≡ get_or table i x) where
  first : meaning_from entry kind t table i ≡ (if is_lexeme kind (entry x).0 t then Some (entry x).1 else meaning_from entry kind t table (i + 1))
  first =
      let e : drop i table ≡ x ∷ drop (i + 1) table =
      drop-cons table i x lt ∙ ap (λ (y : X). y ∷ drop (suc i) table) (sym is) ∙ ap (λ (n : ℕ). x ∷ drop n table) (sym (add-one i)) in
      ap (λ (w : List X). meaning_of kind (map entry w) t) e

  pub meaning_here : is_lexeme kind (entry x).0 t ≡ true → meaning_from entry kind t table i ≡ Some (entry x).1
  meaning_here here = first ∙ ap (λ (b : Bool). if b then Some (entry x).1 else meaning_from entry kind t table (i + 1)) here

  pub meaning_further : is_lexeme kind (entry x).0 t ≡ false → meaning_from entry kind t table i ≡ meaning_from entry kind t table (i + 1)
  meaning_further other = first ∙ ap (λ (b : Bool). if b then Some (entry x).1 else meaning_from entry kind t table (i + 1)) other
