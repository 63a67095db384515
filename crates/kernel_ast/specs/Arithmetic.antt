-- The arithmetic of kernels, on whole numbers from -2^63 to 2^63 - 1.
use Rattle.std.specs.Prelude.{ℤ, pos, ◌+ℤ◌, ◌-ℤ◌, ◌*ℤ◌, int_div, int_rem, if◌then◌else◌}
use Rattle.std.specs.Int.{w64, int_wrap}
use Rattle.std.specs.Ordering.{int_eq}

-- the number from -2^63 to 2^63 - 1 that differs from z by a multiple of 2^64
abbrev pub wrapped : ℤ → ℤ
wrapped z = int_wrap w64 z

abbrev pub sum_of : ℤ → ℤ → ℤ
sum_of a b = wrapped (a +ℤ b)

abbrev pub difference_of : ℤ → ℤ → ℤ
difference_of a b = wrapped (a -ℤ b)

abbrev pub product_of : ℤ → ℤ → ℤ
product_of a b = wrapped (a *ℤ b)

-- rounded toward zero, and 0 where the divisor is 0
abbrev pub quotient_of : ℤ → ℤ → ℤ
quotient_of a b = if int_eq b (pos 0) then pos 0 else wrapped (int_div a b)

-- with the sign of a, and 0 where the divisor is 0
abbrev pub remainder_of : ℤ → ℤ → ℤ
remainder_of a b = if int_eq b (pos 0) then pos 0 else int_rem a b
