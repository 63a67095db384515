-- Signed numbers from tokens: what is read is spelled so, and what is spelled is read.
use Rattle.std.proofs.Common.{◌≡◌, ℕ, ◌<◌, ◌≤◌, ◌^◌, Bool, true, false, List, [], ◌∷◌, ◌++◌, Some, inl, inr, refl, ap, ◌∙◌, subst, codes, ℤ, pos, neg_ℤ, arith}
use Rattle.std.specs.Prelude.{nat_lt, nat_le}
use Rattle.std.specs.Option.{option_map}
use Rattle.std.proofs.lemmas.Bool.Decides.{nat_tests}
use Rattle.uts_lex.specs.Lexemes.{Lexeme}
use Rattle.kernel_parse.specs.Signs.{number, sign}
use Rattle.kernel_parse.specs.Grammar.{SpellsSigned, plain, below_zero}
use Rattle.kernel_parse.specs.Reading.{behind_sign, number_of_token, first_as, signed_in, signed_from, signed_at}
use Rattle.kernel_parse.specs.Firsts.{bind_some, branch_some, test_some, map_some, behind_sign_some, first_as_some, number_some}
use Rattle.kernel_parse.specs.Numbers.{is_number-decimal, digits_value-decimal}

-- the tokens at the front spell the number
pub record TakesSigned (ts : List Lexeme) (z : ℤ) (rest : List Lexeme) : Type 0 where
  pub phrase : List Lexeme
  pub parts : ts ≡ phrase ++ rest
  pub spelled : SpellsSigned phrase z

signed_in_true : (n : ℕ) (z : ℤ) → signed_in true n ≡ Some z → (n ≤ 2 ^ 63) × (neg_ℤ (pos n) ≡ z)
signed_in_true n z e = let p = test_some (nat_le n (2 ^ 63)) (neg_ℤ (pos n)) z e in (grind (arith, nat_tests, p.0), p.1)

signed_in_false : (n : ℕ) (z : ℤ) → signed_in false n ≡ Some z → (n < 2 ^ 63) × (pos n ≡ z)
signed_in_false n z e = let p = test_some (nat_lt n (2 ^ 63)) (pos n) z e in (grind (arith, nat_tests, p.0), p.1)

signed_from_some : (negative : Bool) (ts : List Lexeme) (z : ℤ) (rest : List Lexeme) → signed_from negative ts ≡ Some (z, rest)
    → (n : ℕ) × (ts ≡ number n ∷ rest) × (signed_in negative n ≡ Some z)
signed_from_some negative ts z rest e =
    let p = bind_some (first_as number_of_token ts) (λ n. option_map (λ (z : ℤ). (z, n.1)) (signed_in negative n.0)) (z, rest) e in
    let n = p.0 in
    let q = map_some (λ (z : ℤ). (z, n.1)) (signed_in negative n.0) (z, rest) p.2 in
    let t = first_as_some number_of_token ts n.0 n.1 p.1 in
    let s = number_some t.0 n.0 t.2 in
    let z-is : q.0 ≡ z = ap (λ (r : ℤ × List Lexeme). r.0) q.2 in
    let rest-is : n.1 ≡ rest = ap (λ (r : ℤ × List Lexeme). r.1) q.2 in
    let first : ts ≡ t.0 ∷ n.1 = t.1 in
    let token : t.0 ≡ number n.0 = s.0 in
    (n.0, first ∙ ap (λ (l : Lexeme). l ∷ n.1) token ∙ ap (λ (w : List Lexeme). number n.0 ∷ w) rest-is, q.1 ∙ ap (λ (w : ℤ). Some w) z-is)

pub signed_some : (ts : List Lexeme) (z : ℤ) (rest : List Lexeme) → signed_at ts ≡ Some (z, rest) → TakesSigned ts z rest
unfolding signed_at
signed_some ts z rest e =
    elim (branch_some (λ rest. signed_from true rest) (behind_sign (codes "-") ts) (signed_from false ts) (z, rest) e) [
      | inl b ↦
          let f = signed_from_some true b.0 z rest b.2 in
          let n = f.0 in
          let s = signed_in_true n z f.2 in
          let minus = behind_sign_some (codes "-") ts b.0 b.1 in
          record { phrase = sign (codes "-") ∷ number n ∷ []; parts = minus ∙ ap (λ (w : List Lexeme). sign (codes "-") ∷ w) f.1; spelled = subst (SpellsSigned (sign (codes "-") ∷ number n ∷ [])) s.1 (below_zero n s.0) }
      | inr b ↦
          let f = signed_from_some false ts z rest b.1 in
          let n = f.0 in
          let s = signed_in_false n z f.2 in
          record { phrase = number n ∷ []; parts = f.1; spelled = subst (SpellsSigned (number n ∷ [])) s.1 (plain n s.0) }
    ]

pub number_again : (n : ℕ) → n < 2 ^ 64 → number_of_token (number n) ≡ Some n
number_again n small = rw (is_number-decimal n small, digits_value-decimal n small) refl

pub signed_again : {xs : List Lexeme} {z : ℤ} → SpellsSigned xs z → (rest : List Lexeme) → signed_at (xs ++ rest) ≡ Some (z, rest)
unfolding signed_at
signed_again (plain n small) rest =
    let test : nat_lt n (2 ^ 63) ≡ true = grind (arith, nat_tests) in
    rw (is_number-decimal n (omega arith), digits_value-decimal n (omega arith), test) refl
signed_again (below_zero n small) rest =
    let test : nat_le n (2 ^ 63) ≡ true = grind (arith, nat_tests) in
    rw (is_number-decimal n (omega arith), digits_value-decimal n (omega arith), test) refl
