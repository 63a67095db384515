-- What a source over a reader of the standard library holds, and a sink over a writer.
use Rattle.std.specs.Prelude.{ℕ, List, Option}

-- a stream of the standard library
pub record StdStream : Type 0 where
  -- the bytes that the reader has left or that the writer holds, where the standard library knows them
  pub known : Option (List ℕ)
  -- how often it failed
  pub faults : ℕ
