-- What a write did.
use Rattle.std.specs.Prelude.{ℕ}
use Rattle.uts_io.specs.declared.sink.Wrote.{Wrote}
use Rattle.uts_io.specs.declared.sink.Wrote.TheVariants.{Took, Failed}

-- a fact of how many bytes were taken, where some were
abbrev pub IfTook : Wrote → (ℕ → Type 0) → Type 0
IfTook (Took n) P = P n
IfTook Failed P = Unit {0}
