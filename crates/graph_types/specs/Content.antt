-- What the slots of a graph have to hold.
use Rattle.std.specs.Prelude.{ℕ, ℤ, List, [], slice_index_or}

-- by a relation between lists of numbers and values, the value has the content of the slot
abbrev pub FitsSlot : {V : Type 0} → (fits : List ℤ → V → Type 0) → (content : List (List ℤ)) → (slot : ℕ) → V → Type 0
FitsSlot fits content slot value = fits (slice_index_or content slot []) value
