-- Decimals, and the numbers that are read from them.
use Rattle.std.proofs.Common.{◌≡◌, ◌≢◌, ℕ, ◌^◌, ◌<◌, Bool, true, false, List, Option, Some, None, decimal, refl, arith}
use Rattle.std.specs.Prelude.{IfSome, IfNone, if◌then◌else◌}
use Rattle.std.specs.Str.Parse.{digits_value}
use Rattle.std.proofs.lemmas.Bool.Decides.{nat_tests}
use Rattle.std.proofs.lemmas.Fmt.{decimal_is_IsNumeral}
use Rattle.std.proofs.lemmas.Grind.{common_steps}
use Rattle.std.proofs.lemmas.Slice.Eq.{bytes_eq-Decides}
use Rattle.uts_lex.specs.Lexemes.{is_number}

-- the decimal of a number below 2 ^ 64 is a number, and spells it
pub is_number-decimal : (n : ℕ) → n < 2 ^ 64 → is_number (decimal n) ≡ true
is_number-decimal n small =
    let value = (decimal_is_IsNumeral n small).1 in
    grind (arith, common_steps, value, bytes_eq-Decides)

pub digits_value-decimal : (n : ℕ) → n < 2 ^ 64 → digits_value 10 (decimal n) ≡ n
digits_value-decimal n small = (decimal_is_IsNumeral n small).1

-- what is a number is the decimal of the number that it spells
pub number_is_decimal : (bytes : List ℕ) → is_number bytes ≡ true → (digits_value 10 bytes < 2 ^ 64) × (bytes ≡ decimal (digits_value 10 bytes))
number_is_decimal bytes is = (grind (arith, nat_tests, common_steps, bytes_eq-Decides), grind (arith, nat_tests, common_steps, bytes_eq-Decides))

pub number_read : (bytes : List ℕ) (r : Option ℕ) → IfSome r (λ n. bytes ≡ decimal n) → IfSome r (λ n. n < 2 ^ 64)
    → IfNone r ((n : ℕ) → n < 2 ^ 64 → bytes ≢ decimal n)
    → r ≡ (if is_number bytes then Some (digits_value 10 bytes) else None)
number_read bytes (Some n) is small other = rw (is, is_number-decimal n small, digits_value-decimal n small) refl
number_read bytes None found small other = by (is_number bytes) refl
  where
    by : (b : Bool) → is_number bytes ≡ b → None ≡ (if b then Some (digits_value 10 bytes) else None)
    by true is = let d = number_is_decimal bytes is in absurd (other (digits_value 10 bytes) d.0 d.1)
    by false is = refl
