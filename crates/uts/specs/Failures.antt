-- How a failure is told, and what each one means.
use Rattle.std.specs.Prelude.{◌≡◌, ◌⊎◌, ℕ, List, codes, Option, IfSome}
use Rattle.uts_io.specs.Streams.{Rose, grown, GrewByPrefix}
use Rattle.uts_io.specs.declared.whole.ReadAll.{ReadAll}
use Rattle.uts_io.specs.declared.whole.ReadAll.TheVariants as read
use Rattle.problem_file.specs.declared.fault.ParseFault.{ParseFault}
use Rattle.problem_file.specs.declared.fault.ParseFault.TheVariants as parsed
use Rattle.task_check.specs.declared.checking.Refusal.{Refusal}
use Rattle.task_check.specs.declared.checking.Refusal.TheVariants as checked
use Rattle.dump_text.specs.declared.fault.RunFault.{RunFault}
use Rattle.dump_text.specs.declared.fault.RunFault.TheVariants as run
use Rattle.uts_model.specs.Dump.{line}
use Rattle.uts.specs.Answer.{IsTooLong, IsBadText, IsFaulty, refusal_line}
use Rattle.uts.specs.Words.{fault_words}
use Rattle.uts.specs.declared.failure.Failure.{Failure}
use Rattle.uts.specs.declared.failure.Failure.TheVariants.{Usage, TooLong, BadText, Faulty, ReadFault, WriteFault, NoMemory}

abbrev pub of_run : RunFault → Failure
of_run run.SinkFault = WriteFault
of_run run.NoMemory = NoMemory

abbrev pub of_read : ReadAll → Failure
of_read read.Failed = ReadFault
of_read read.TooLong = TooLong
of_read read.NoMemory = NoMemory

abbrev pub of_parse : ParseFault → Failure
of_parse (parsed.BadText bad) = BadText bad
of_parse parsed.NoMemory = NoMemory

abbrev pub of_check : Refusal → Failure
of_check (checked.Fault f) = Faulty f
of_check checked.NoMemory = NoMemory

abbrev pub status_of : Failure → ℕ
status_of Usage = 2
status_of TooLong = 1
status_of (BadText bad) = 1
status_of (Faulty f) = 1
status_of ReadFault = 3
status_of WriteFault = 4
status_of NoMemory = 5

abbrev pub status_after_fault : Failure → ℕ
status_after_fault Usage = 4
status_after_fault TooLong = 4
status_after_fault (BadText bad) = 4
status_after_fault (Faulty f) = 4
status_after_fault ReadFault = 3
status_after_fault WriteFault = 4
status_after_fault NoMemory = 5

abbrev pub line_of : Failure → List ℕ
line_of Usage = line (codes "usage: plain, check, graph, make N, run W, mill N W")
line_of TooLong = line (codes "refused: too long")
line_of (BadText bad) = refusal_line (codes "bad text") bad
line_of (Faulty f) = refusal_line (fault_words f.kind) f.line
line_of ReadFault = line (codes "read fault")
line_of WriteFault = line (codes "write fault")
line_of NoMemory = line (codes "no memory")

-- A failure was told on standard error, which had no fault, or it failed on the way.
abbrev pub IsTold : Failure → (List ℕ → List ℕ → List ℕ) → Option (List ℕ) → Option (List ℕ) → ℕ → ℕ → ℕ → Type 0
IsTold failure after old new before now status =
    ((status ≡ status_of failure) × (new ≡ grown after old (line_of failure)) × (now ≡ before))
    ⊎ ((status ≡ status_after_fault failure) × Rose before now × GrewByPrefix after old new (line_of failure))

-- a failure whose line is put together in memory
abbrev pub IsBuilt : Failure → Type 0
IsBuilt Usage = ⊥
IsBuilt TooLong = ⊥
IsBuilt (BadText bad) = Unit {0}
IsBuilt (Faulty f) = Unit {0}
IsBuilt ReadFault = ⊥
IsBuilt WriteFault = ⊥
IsBuilt NoMemory = ⊥

-- A failure was told so, or its line had no room in memory, and that was told so.
abbrev pub IsReported : Failure → (List ℕ → List ℕ → List ℕ) → Option (List ℕ) → Option (List ℕ) → ℕ → ℕ → ℕ → Type 0
IsReported failure after old new before now status =
    IsTold failure after old new before now status ⊎ (IsBuilt failure × IsTold NoMemory after old new before now status)

-- why a failure of the command comes, where the source had this text
abbrev pub IsReason : Option (List ℕ) → (source_rose out_rose : Type 0) → Failure → Type 0
IsReason text source_rose out_rose Usage = ⊥
IsReason text source_rose out_rose TooLong = IfSome text IsTooLong
IsReason text source_rose out_rose (BadText bad) = IfSome text (λ t. IsBadText t bad)
IsReason text source_rose out_rose (Faulty f) = IfSome text (λ t. IsFaulty t f.line f.kind)
IsReason text source_rose out_rose ReadFault = source_rose
IsReason text source_rose out_rose WriteFault = out_rose
IsReason text source_rose out_rose NoMemory = Unit {0}

-- a failure that comes before anything is written
abbrev pub IsEarly : Failure → Type 0
IsEarly Usage = Unit {0}
IsEarly TooLong = Unit {0}
IsEarly (BadText bad) = Unit {0}
IsEarly (Faulty f) = Unit {0}
IsEarly ReadFault = Unit {0}
IsEarly WriteFault = ⊥
IsEarly NoMemory = ⊥
