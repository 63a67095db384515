-- Which slots have values that fit.
use Rattle.std.specs.Prelude.{◌≡◌, ℕ, ℤ, ◌<◌, true, Option, Some, List, length, slice_get}
use Rattle.graph_types.specs.Content.{FitsSlot}
use Rattle.graph_types.specs.Graph.{writes}
use Rattle.graph_types.specs.declared.graph.Graph.{Graph}

-- a value stands in the place of the slot, and fits it
pub record IsFilled {V : Type 0} (fits : List ℤ → V → Type 0) (content : List (List ℤ)) (places : List (Option V)) (slot : ℕ) : Type 0 where
  pub value : V
  pub there : slice_get places slot ≡ Some (Some value)
  pub fit : FitsSlot fits content slot value

-- so many places, each with a value that fits the slot of its number
pub record AreAllFitting {V : Type 0} (fits : List ℤ → V → Type 0) (content : List (List ℤ)) (slots : ℕ) (places : List (Option V)) : Type 0 where
  pub many : length places ≡ slots
  pub each : (slot : ℕ) → slot < slots → IsFilled fits content places slot

-- a place for each slot, and the old slots and those that the tasks before one write are filled
pub record AreFilledBefore {V : Type 0} (fits : List ℤ → V → Type 0) (content : List (List ℤ)) (g : Graph) (before : ℕ) (places : List (Option V)) : Type 0 where
  pub many : length places ≡ g.slots
  pub old : (slot : ℕ) → slot < g.old → IsFilled fits content places slot
  pub written : (task slot : ℕ) → task < before → writes g task slot ≡ true → IsFilled fits content places slot
