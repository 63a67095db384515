use Rattle.std.proofs.Common.{◌≡◌, ◌<◌, ◌^◌, take}
use Rattle.std.specs.Str.Parse.{AllDigits, digits_value}
use Rattle.uts_num.proofs.decimal.number_of_digits.Given as goal

-- the bytes so far are digits, which spell the number
abbrev pub invariant-loop-byte : goal.invariant-loop-byte
invariant-loop-byte l = AllDigits 10 (take l.byte-index l.bytes) × (l.number ≡ digits_value 10 (take l.byte-index l.bytes)) × (l.number < 2 ^ 64)
