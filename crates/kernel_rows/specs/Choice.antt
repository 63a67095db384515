-- What a selection takes.
use Rattle.std.specs.Prelude.{ℤ, pos, if◌then◌else◌}
use Rattle.std.specs.Ordering.{int_eq}

-- the first of two numbers where c is not 0, else the second
abbrev pub chosen : ℤ → ℤ × ℤ → ℤ
chosen c both = if int_eq c (pos 0) then both.1 else both.0
