-- The run of bytes at the front that pass a test, and the numbers that digits spell.
use Rattle.std.proofs.Common.{◌≡◌, ℕ, ◌^◌, ◌<◌, true, List, decimal, arith}
use Rattle.std.proofs.lemmas.Fmt.{decimal_is_IsNumeral}
use Rattle.std.proofs.lemmas.Grind.{common_steps}
use Rattle.std.proofs.lemmas.List.Sums.{prefix_len-le-length}
use Rattle.std.proofs.lemmas.Slice.Eq.{bytes_eq-Decides}
use Rattle.uts_lex.specs.Lexemes.{is_number}

-- the decimal of a number below 2 ^ 64 is a number
pub number_spelled : (run : List ℕ) (n : ℕ) → n < 2 ^ 64 → run ≡ decimal n → is_number run ≡ true
number_spelled run n small is =
    let value = (decimal_is_IsNumeral n small).1 in
    grind (arith, common_steps, value, bytes_eq-Decides)

-- what tells the length of a run
pub ruleset runs = (prefix_len-le-length, number_spelled)
