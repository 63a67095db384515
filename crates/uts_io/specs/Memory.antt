-- What sources and sinks in memory hold.
use Rattle.std.specs.Prelude.{ℕ, ◌+◌, ◌-◌, ◌^◌, List, nat_lt, if◌then◌else◌}

-- a source in memory
pub record SourceInMemory : Type 0 where
  -- the bytes not yet read
  pub left : List ℕ
  -- the number of calls so far, which is the number of the next call
  pub calls : ℕ
  -- the numbers of the calls that fail
  pub fails : List ℕ
  -- how many calls failed
  pub faults : ℕ

-- a sink in memory
pub record SinkInMemory : Type 0 where
  -- the bytes taken so far
  pub bytes : List ℕ
  -- how many bytes there is room for
  pub room : ℕ
  -- the number of calls so far, which is the number of the next call
  pub calls : ℕ
  -- the numbers of the calls that fail
  pub fails : List ℕ
  -- how many calls failed
  pub faults : ℕ

-- a count that is raised by one, and stands still at the greatest u64
abbrev pub counted : ℕ → ℕ
counted count = if nat_lt count (2 ^ 64 - 1) then count + 1 else count
