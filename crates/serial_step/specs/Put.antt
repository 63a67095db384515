-- Values put in the places of slots.
use Rattle.std.specs.Prelude.{◌≡◌, ℕ, false, Option, Some, List, length, slice_get}
use Rattle.graph_types.specs.Graph.{has}

-- each value stands in the place of its slot, and the places of no such slot are as before
pub record ArePut {V : Type 0} (slots : List ℕ) (values : List V) (before after : List (Option V)) : Type 0 where
  pub many : length after ≡ length before
  pub put : (k slot : ℕ) (value : V) → slice_get slots k ≡ Some slot → slice_get values k ≡ Some value → slice_get after slot ≡ Some (Some value)
  pub others : (slot : ℕ) → has slots slot ≡ false → slice_get after slot ≡ slice_get before slot
