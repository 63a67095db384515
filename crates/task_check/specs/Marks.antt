-- Marks for the patches of a level, by their numbers.
use Rattle.std.specs.Prelude.{◌≡◌, ℕ, ◌<◌, Bool, false, ◌||◌, List, slice_index_or}

abbrev pub is_marked : List Bool → ℕ → Bool
is_marked marks patch = slice_index_or marks patch false

-- of so many patches, those that pass the test are marked besides those that were
abbrev pub AreMarkedToo : (before after : List Bool) → (count : ℕ) → (test : ℕ → Bool) → Type 0
AreMarkedToo before after count test = (patch : ℕ) → patch < count → is_marked after patch ≡ (is_marked before patch || test patch)
