use Rattle.std.proofs.Common.{◌≡◌, List, All, map, length, drop}
use Rattle.whole_fields.specs.Stored.{IsWarehouseOf, state_of}
use Rattle.plain_engine.specs.Changes.{FieldChange, IsFieldOf, written_of, with_fields}
use Rattle.plain_engine.proofs.FromTheEnd.{IsFront}
use Rattle.plain_engine.proofs.putting.put_fields.Given as goal

-- the fields behind those that are left have been put
abbrev pub invariant-loop-field : goal.invariant-loop-field
invariant-loop-field l = record {
  warehouse : IsWarehouseOf l.c l.new;
  front : IsFront l.fn.fields l.rest;
  each : All (IsFieldOf l.c) l.rest;
  state : (changes : List FieldChange) → l.fn.fields ≡ map (written_of l.c) changes
      → state_of l.c l.new ≡ with_fields l.c (state_of l.c l.fn.new) (drop (length l.rest) changes);
}

abbrev pub decreases-loop-field : goal.decreases-loop-field
decreases-loop-field l = length l.rest
