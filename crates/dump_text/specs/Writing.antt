-- What a call that writes some bytes did to its sink.
use Rattle.std.specs.Prelude.{◌≡◌, ◌≤◌, ℕ, List, Option, Result, OnOk, IsErrOf}
use Rattle.uts_io.specs.Streams.{Rose, grown, GrewByPrefix}
use Rattle.dump_text.specs.declared.fault.RunFault.{RunFault}
use Rattle.dump_text.specs.declared.fault.RunFault.TheVariants.{SinkFault}

-- At Ok all the bytes were taken, and the sink's count of faults stayed. Else a prefix was, and the sink's fault is told only
-- where that count rose.
pub record Writes {T : Type 0} (after : List ℕ → List ℕ → List ℕ) (old new : Option (List ℕ)) (before now : ℕ) (result : Result T RunFault) (text : List ℕ) : Type 0 where
  pub all : OnOk result (new ≡ grown after old text)
  pub prefix : GrewByPrefix after old new text
  pub calm : OnOk result (now ≡ before)
  pub fault : IsErrOf result SinkFault → Rose before now
  pub never_falls : before ≤ now
