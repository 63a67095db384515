-- Which values fit some slots.
use Rattle.std.specs.Prelude.{◌≡◌, ℕ, ℤ, List, Some, length, slice_get}
use Rattle.graph_types.specs.Content.{FitsSlot}

-- one value for each of these slots, in their order, with the content of its slot
pub record AreFitting {V : Type 0} (fits : List ℤ → V → Type 0) (content : List (List ℤ)) (slots : List ℕ) (values : List V) : Type 0 where
  pub many : length values ≡ length slots
  pub each : (k slot : ℕ) (value : V) → slice_get slots k ≡ Some slot → slice_get values k ≡ Some value → FitsSlot fits content slot value
