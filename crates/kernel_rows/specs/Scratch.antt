-- The room that kernels are evaluated in.
use Rattle.std.specs.Prelude.{ℕ, ◌*◌}

-- the places of scratch for a kernel of this depth along a row of so many indexes
abbrev pub scratch_of : ℕ → ℕ → ℕ
scratch_of width depth = 2 * (width * depth)
