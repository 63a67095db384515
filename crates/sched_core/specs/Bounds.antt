-- How large the words of a sound state may grow.
use Rattle.std.specs.Prelude.{ℕ, ◌+◌, ◌^◌, ◌<◌, ◌≤◌, length, slice_index}
use Rattle.sched_core.specs.declared.state.Core.{Core}
use Rattle.sched_core.specs.Core.{script, view_of, gone_of, halted_of}

-- each word has room for one more, ring places have numbers of 32 bits, and so have tasks and places of scripts
pub record IsBounded (c : Core) : Type 0 where
  pub head : c.head + 1 < 2 ^ 64
  pub tail : c.tail < 2 ^ 32
  pub done : c.done + 1 < 2 ^ 64
  pub ring : (place : ℕ) → slice_index c.ring place ≤ 2 ^ 32
  pub places : (task : ℕ) → length (script c.graph task) < 2 ^ 32
  pub gone : (seat : ℕ) → gone_of (view_of c seat) ≤ 64
  pub halted : (seat : ℕ) → halted_of (view_of c seat) ≤ 64
