-- What a read did.
use Rattle.std.specs.Prelude.{ℕ}
use Rattle.uts_io.specs.declared.source.Read.{Read}
use Rattle.uts_io.specs.declared.source.Read.TheVariants.{Got, End, Failed}

-- a fact of how many bytes were read, where some were
abbrev pub IfGot : Read → (ℕ → Type 0) → Type 0
IfGot (Got n) P = P n
IfGot End P = Unit {0}
IfGot Failed P = Unit {0}
