-- Signed numbers and offsets, as tokens.
use Rattle.std.proofs.Common.{◌≡◌, ℕ, suc, ◌<◌, ◌≤◌, ◌^◌, ◌==◌, ℤ, pos, negsuc, Bool, true, ◌&&◌, List, [], ◌∷◌, ◌++◌, length, codes, decimal, refl, subst, append_assoc, arith}
use Rattle.std.specs.Prelude.{neg_ℤ, int_le, int_lt}
use Rattle.std.specs.Fmt.{signed_decimal}
use Rattle.std.specs.List.{list_all}
use Rattle.std.specs.Ordering.{int_eq}
use Rattle.std.proofs.lemmas.Bool.{and_parts}
use Rattle.std.proofs.lemmas.Bool.Decides.{nat_tests, Decides-int_eq}
use Rattle.uts_lex.specs.Lexemes.{Lexeme}
use Rattle.kernel_parse.specs.Signs.{number, sign}
use Rattle.kernel_parse.specs.Grammar.{SpellsSigned, plain, below_zero, SpellsOffset, offset}
use Rattle.problem_print.specs.Printed.{offset_text}
use Rattle.problem_printable.specs.Printable.{is_offset}
use Rattle.problem_print.proofs.Phrases.{TokensAreReadAgain, Reads, reads_nothing, reads_both, reads_sign, reads_one}

-- a signed number of 64 bits
abbrev pub is_signed : ℤ → Bool
is_signed z = int_le (neg_ℤ (pos (2 ^ 63))) z && int_lt z (pos (2 ^ 63))

pub record SaidSigned (z : ℤ) : Type 0 where
  pub tokens : List Lexeme
  pub reads : Reads (signed_decimal z) tokens
  pub spelled : SpellsSigned tokens z

pub record SaidOffset (by : List ℤ) : Type 0 where
  pub tokens : List Lexeme
  pub reads : Reads (offset_text by) tokens
  pub spelled : SpellsOffset tokens by

below_high : (n : ℕ) → is_signed (pos n) ≡ true → n < 2 ^ 63
below_high n e = let high : int_lt (pos n) (pos (2 ^ 63)) ≡ true = (and_parts (int_le (neg_ℤ (pos (2 ^ 63))) (pos n)) (int_lt (pos n) (pos (2 ^ 63))) e).1 in grind (arith, nat_tests, high)

above_low : (n : ℕ) → is_signed (negsuc n) ≡ true → suc n ≤ 2 ^ 63
above_low n e = let low : int_le (neg_ℤ (pos (2 ^ 63))) (negsuc n) ≡ true = (and_parts (int_le (neg_ℤ (pos (2 ^ 63))) (negsuc n)) (int_lt (negsuc n) (pos (2 ^ 63))) e).0 in grind (arith, nat_tests, low)

not_three : (n : ℕ) → (suc (suc (suc (suc n))) == 3) ≡ true → ⊥
not_three n e = let is : suc (suc (suc (suc n))) ≡ 3 = grind (arith, nat_tests, e) in omega (arith, is)

module _ (law : TokensAreReadAgain) where
  pub reads_number : (n : ℕ) → n < 2 ^ 64 → Reads (decimal n) (number n ∷ [])
  reads_number n fits = reads_one law (number n) (n, fits, refl)

  pub said_signed : (z : ℤ) → is_signed z ≡ true → SaidSigned z
  said_signed (pos n) e =
      let high : n < 2 ^ 63 = below_high n e in
      record { tokens = number n ∷ []; reads = reads_number n (omega arith); spelled = plain n high }
  said_signed (negsuc n) e =
      let low : suc n ≤ 2 ^ 63 = above_low n e in
      record {
        tokens = sign (codes "-") ∷ number (suc n) ∷ [];
        reads = reads_sign law 45 refl refl (reads_number (suc n) (omega arith));
        spelled = below_zero (suc n) low;
      }

  said_three : (x y z : ℤ) → is_signed x ≡ true → is_signed y ≡ true → is_signed z ≡ true → SaidOffset (x ∷ y ∷ z ∷ [])
  said_three x y z ex ey ez =
      let a = said_signed x ex in
      let b = said_signed y ey in
      let c = said_signed z ez in
      let comma = sign (codes ",") in
      let close : List Lexeme = sign (codes "]") ∷ [] in
      let same : sign (codes "[") ∷ (a.tokens ++ (comma ∷ (b.tokens ++ (comma ∷ (c.tokens ++ close)))))
      ≡ sign (codes "[") ∷ a.tokens ++ comma ∷ b.tokens ++ comma ∷ c.tokens ++ close = simp append_assoc in
      let reads = reads_sign law 91 refl refl
      (reads_both a.reads refl (reads_sign law 44 refl refl
      (reads_both b.reads refl (reads_sign law 44 refl refl
      (reads_both c.reads refl (reads_sign law 93 refl refl reads_nothing)))))) in
      record {
        tokens = sign (codes "[") ∷ a.tokens ++ comma ∷ b.tokens ++ comma ∷ c.tokens ++ close;
        reads = subst (Reads (offset_text (x ∷ y ∷ z ∷ []))) same reads;
        spelled = offset a.tokens b.tokens c.tokens x y z a.spelled b.spelled c.spelled;
      }

  pub said_offset : (by : List ℤ) → is_offset by ≡ true → SaidOffset by
  said_offset [] e = absurd cc
  said_offset (x ∷ []) e = absurd cc
  said_offset (x ∷ y ∷ []) e = absurd cc
  said_offset (x ∷ y ∷ z ∷ []) e =
      let tests : (is_signed x && (is_signed y && (is_signed z && true))) ≡ true = e in
      let first = and_parts (is_signed x) (is_signed y && (is_signed z && true)) tests in
      let second = and_parts (is_signed y) (is_signed z && true) first.1 in
      let third = and_parts (is_signed z) true second.1 in
      said_three x y z first.0 second.0 third.0
  said_offset (x ∷ y ∷ z ∷ w ∷ more) e = absurd (not_three (length more) (and_parts (length (x ∷ y ∷ z ∷ w ∷ more) == 3) (list_all is_signed (x ∷ y ∷ z ∷ w ∷ more)) e).0)

-- an offset that is 0 on each axis
pub zero_offset : (by : List ℤ) → is_offset by ≡ true → list_all (λ (z : ℤ). int_eq z (pos 0)) by ≡ true → by ≡ pos 0 ∷ pos 0 ∷ pos 0 ∷ []
zero_offset [] e zero = absurd cc
zero_offset (x ∷ []) e zero = absurd cc
zero_offset (x ∷ y ∷ []) e zero = absurd cc
zero_offset (x ∷ y ∷ z ∷ []) e zero =
    let first = and_parts (int_eq x (pos 0)) (int_eq y (pos 0) && (int_eq z (pos 0) && true)) zero in
    let second = and_parts (int_eq y (pos 0)) (int_eq z (pos 0) && true) first.1 in
    let third = and_parts (int_eq z (pos 0)) true second.1 in
    let ex = (Decides-int_eq x (pos 0)).0 first.0 in
    let ey = (Decides-int_eq y (pos 0)).0 second.0 in
    let ez = (Decides-int_eq z (pos 0)).0 third.0 in
    rw (ex, ey, ez) refl
zero_offset (x ∷ y ∷ z ∷ w ∷ more) e zero = absurd (not_three (length more) (and_parts (length (x ∷ y ∷ z ∷ w ∷ more) == 3) (list_all is_signed (x ∷ y ∷ z ∷ w ∷ more)) e).0)
