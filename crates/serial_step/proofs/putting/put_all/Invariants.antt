use Rattle.std.proofs.Common.{length, take}
use Rattle.serial_step.specs.Put.{ArePut}
use Rattle.serial_step.proofs.putting.put_all.Given as goal

-- the values so far are put
abbrev pub invariant-loop-slot : goal.invariant-loop-slot
invariant-loop-slot g l = record {
  put : ArePut (take (length l.yielded) l.slots) (take (length l.yielded) l.fn.values.items) l.fn.places l.places;
}
