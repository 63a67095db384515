use Rattle.std.proofs.Common.{◌≡◌, ◌<◌, All, length, drop}
use Rattle.whole_fields.specs.Stored.{IsWarehouseOf, state_of}
use Rattle.plain_engine.specs.Changes.{with_numbers}
use Rattle.plain_engine.specs.declared.written.WrittenNumber.{WrittenNumber}
use Rattle.plain_engine.proofs.FromTheEnd.{IsFront}
use Rattle.plain_engine.proofs.putting.put_numbers.Given as goal

-- the numbers behind those that are left have been put
abbrev pub invariant-loop-number : goal.invariant-loop-number
invariant-loop-number l = record {
  warehouse : IsWarehouseOf l.c l.new;
  front : IsFront l.fn.numbers l.rest;
  each : All (λ (x : WrittenNumber). x.name < length l.c.names) l.rest;
  state : state_of l.c l.new ≡ with_numbers (state_of l.c l.fn.new) (drop (length l.rest) l.fn.numbers);
}

abbrev pub decreases-loop-number : goal.decreases-loop-number
decreases-loop-number l = length l.rest
