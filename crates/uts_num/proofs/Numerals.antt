-- Decimal digits and the number that they spell.
use Rattle.std.proofs.Common.{◌≡◌, ◌≢◌, ℕ, zero, suc, ◌+◌, ◌*◌, ◌^◌, ◌<◌, List, length, get_or, take, decimal, ap, arith}
use Rattle.std.specs.Char.{IsAsciiDigit, digit_value}
use Rattle.std.specs.Str.Parse.{AllDigits, digits_value}
use Rattle.std.proofs.lemmas.Fmt.{decimal_injective, decimal_is_IsNumeral, decimal-digits_value, decimal_digit, decimal_nonempty, first_decimal}
use Rattle.std.proofs.lemmas.Int.Digits.{digits_more, digits_value_more}
use Rattle.std.proofs.lemmas.Str.Parse.{numerals_by_value, tells_digits, digit_at, digits_value-take-le}

-- no number below 2 ^ 64 is spelt where it cannot go on with the byte at i
pub cannot_go_on : (bs : List ℕ) (i number : ℕ) → i < length bs → number ≡ digits_value 10 (take i bs)
    → ¬ (IsAsciiDigit (get_or bs i 0) × (number * 10 + digit_value (get_or bs i 0) < 2 ^ 64))
    → AllDigits 10 bs × (digits_value 10 bs < 2 ^ 64) → ⊥
cannot_go_on bs i number inside so_far stops spelt =
    stops (
      digit_at bs i spelt.0 inside,
      omega (arith, digits_value_more 10 bs i inside, digits_value-take-le 10 bs (i + 1) (omega arith), spelt.1),
    )

-- digits with no leading 0 are the decimal of what they spell
pub decimal_from_digits : (bs : List ℕ) → AllDigits 10 bs → digits_value 10 bs < 2 ^ 64 → 0 < length bs → (get_or bs 0 0 ≡ 48 → length bs ≡ 1)
    → decimal (digits_value 10 bs) ≡ bs
decimal_from_digits bs digits small some front = decimal-digits_value (numerals_by_value (AllDigits 10) tells_digits) bs digits some front small

pub digits_of_decimal : (n : ℕ) → n < 2 ^ 64 → AllDigits 10 (decimal n) × (digits_value 10 (decimal n) ≡ n)
digits_of_decimal n small = let numeral = decimal_is_IsNumeral n small in (numeral.0.1, numeral.1)

-- a decimal of two digits or more has no leading 0
pub no_leading_zero : (n : ℕ) → n < 2 ^ 64 → 1 < length (decimal n) → get_or (decimal n) 0 0 ≢ 48
no_leading_zero zero small long front = absurd (omega (arith, ap length (decimal_digit 0 (omega arith))))
no_leading_zero (suc n) small long front = absurd (omega (arith, first_decimal (suc n) (omega arith) small))

-- what tells the bytes that a number is written in
pub ruleset canonical = (decimal_nonempty, no_leading_zero, decimal_from_digits, digits_of_decimal)

-- what the digits so far tell of the number
pub ruleset spelling = (digits_more, digits_value_more)
