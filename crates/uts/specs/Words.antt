-- The words of each fault in a refusal.
use Rattle.std.specs.Prelude.{ℕ, List, codes}
use Rattle.task_check.specs.declared.fault.FaultKind.{FaultKind}
use Rattle.task_check.specs.declared.fault.FaultKind.TheVariants.{TooLarge, BadGrid, Unknown, Twice, GhostTooWide, ReadBeyondGhost, MissingLevel, MissingCompute, DoubleCompute, UnorderedModify}
use Rattle.task_check.specs.declared.fault.Which.TheVariants as limit

abbrev pub fault_words : FaultKind → List ℕ
fault_words (TooLarge limit.Steps) = codes "too large (steps)"
fault_words (TooLarge limit.Dump) = codes "too large (dump)"
fault_words (TooLarge limit.Ghost) = codes "too large (ghost)"
fault_words (TooLarge limit.Materials) = codes "too large (materials)"
fault_words (TooLarge limit.Levels) = codes "too large (levels)"
fault_words (TooLarge limit.Bounds) = codes "too large (bounds)"
fault_words (TooLarge limit.Patches) = codes "too large (patches)"
fault_words (TooLarge limit.Cells) = codes "too large (cells)"
fault_words (TooLarge limit.Variables) = codes "too large (variables)"
fault_words (TooLarge limit.Reductions) = codes "too large (reductions)"
fault_words (TooLarge limit.Tasks) = codes "too large (tasks)"
fault_words (TooLarge limit.Lines) = codes "too large (lines)"
fault_words (TooLarge limit.Detailed) = codes "too large (detailed)"
fault_words (TooLarge limit.Slots) = codes "too large (slots)"
fault_words (TooLarge limit.Reads) = codes "too large (reads)"
fault_words (TooLarge limit.Stored) = codes "too large (stored)"
fault_words (TooLarge limit.Gathered) = codes "too large (gathered)"
fault_words BadGrid = codes "bad grid"
fault_words Unknown = codes "unknown name"
fault_words Twice = codes "twice"
fault_words GhostTooWide = codes "ghost too wide"
fault_words ReadBeyondGhost = codes "read beyond ghost"
fault_words MissingLevel = codes "missing level"
fault_words MissingCompute = codes "missing compute"
fault_words DoubleCompute = codes "double compute"
fault_words UnorderedModify = codes "unordered modify"
