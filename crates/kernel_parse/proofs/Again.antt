-- Reads that are spelled are read, whatever stands behind them that does not go on with them.
use Rattle.std.proofs.Common.{◌≡◌, ℕ, Bool, true, false, List, [], ◌∷◌, ◌++◌, Some, None, refl, ap, ◌∙◌, append_assoc, codes, ℤ}
use Rattle.std.specs.Prelude.{◌||◌}
use Rattle.std.specs.Str.{bytes_eq}
use Rattle.uts_lex.specs.declared.token.Kind.TheVariants.{Word}
use Rattle.uts_lex.specs.Lexemes.{Lexeme}
use Rattle.kernel_ast.specs.declared.expression.How.{How}
use Rattle.kernel_ast.specs.declared.expression.Expr.{Expr}
use Rattle.kernel_parse.specs.Signs.{sign, is_word, fine_words, is_reserved}
use Rattle.kernel_parse.specs.Grammar.{Words, SpellsOffset, offset, SpellsRead, own, coarse, fine, reduction}
use Rattle.kernel_parse.specs.Reading.{behind_sign, offset_at, parsed, dot_name_at, variable_at, read_at}
use Rattle.kernel_parse.specs.Signed.{signed_again}
use Rattle.kernel_parse.specs.Tables.{meaning_case}

offset_again : {ts : List Lexeme} {by : List ℤ} → SpellsOffset ts by → (rest : List Lexeme) → offset_at (ts ++ rest) ≡ Some (by, rest)
unfolding offset_at
offset_again (offset xs ys zs x y z sx sy sz) rest =
    let last = sign (codes "]") ∷ rest in
    let third = sign (codes ",") ∷ zs ++ last in
    let second = sign (codes ",") ∷ ys ++ third in
    let tokens : (sign (codes "[") ∷ xs ++ sign (codes ",") ∷ ys ++ sign (codes ",") ∷ zs ++ sign (codes "]") ∷ []) ++ rest ≡ sign (codes "[") ∷ xs ++ second = simp append_assoc in
    let read : offset_at (sign (codes "[") ∷ xs ++ second) ≡ Some (x ∷ y ∷ z ∷ [], rest) =
    rw (signed_again sx second, signed_again sy third, signed_again sz last) refl in
    ap offset_at tokens ∙ read

offset_begins : {ts : List Lexeme} {by : List ℤ} → SpellsOffset ts by → (rest : List Lexeme) → (w : List Lexeme) × (behind_sign (codes "[") (ts ++ rest) ≡ Some w)
offset_begins (offset xs ys zs x y z sx sy sz) rest = (_, refl)

-- a name is none of the words that are not
record IsFree (name : List ℕ) : Type 0 where
  not_coarse : bytes_eq name (codes "coarse") ≡ false
  not_fine : bytes_eq name (codes "fine") ≡ false
  not_sum : bytes_eq name (codes "fine_sum") ≡ false
  not_min : bytes_eq name (codes "fine_min") ≡ false
  not_max : bytes_eq name (codes "fine_max") ≡ false
  not_count : bytes_eq name (codes "fine_count") ≡ false

neither : (a b : Bool) → (a || b) ≡ false → (a ≡ false) × (b ≡ false)
neither true b e = absurd cc
neither false b e = (refl, e)

is_free : (name : List ℕ) → is_reserved name ≡ false → IsFree name
is_free name e =
    let a = neither _ _ e in
    let b = neither _ _ a.1 in
    let c = neither _ _ b.1 in
    let d = neither _ _ c.1 in
    let f = neither _ _ d.1 in
    let g = neither _ _ f.1 in
    record { not_coarse = a.0; not_fine = b.0; not_sum = c.0; not_min = d.0; not_max = f.0; not_count = g.0 }

pub read_again : {ts : List Lexeme} {names : Words} {e : Expr} {after : Words} → SpellsRead ts names e after
    → (rest : List Lexeme) → behind_sign (codes "[") rest ≡ None → read_at names (ts ++ rest) ≡ Some (parsed e after rest)
unfolding read_at variable_at dot_name_at
read_again (own names at store name ts by is_store free spelled) rest follows =
    let n = is_free name free in
    let begins = offset_begins spelled rest in
    rw (is_store, n.not_coarse, n.not_sum, n.not_min, n.not_max, n.not_count, n.not_fine, begins.1, offset_again spelled rest) refl
read_again (coarse names at store name ts by is_store free spelled) rest follows =
    rw (is_store, free, offset_again spelled rest) refl
read_again (fine names at kind store how name is_store is_fine free) rest follows =
    let not_coarse : is_word (codes "coarse") kind ≡ false = meaning_case Word (λ (t : Lexeme) (h : How). is_word (codes "coarse") t ≡ false) fine_words kind how is_fine (refl, (refl, (refl, (refl, tt)))) in
    rw (is_store, not_coarse, is_fine, free) refl
read_again (reduction names at store name is_store free) rest follows =
    let n = is_free name free in
    rw (is_store, n.not_coarse, n.not_sum, n.not_min, n.not_max, n.not_count, n.not_fine, follows) refl
