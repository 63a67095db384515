-- Sums over the places of a list.
use Rattle.std.specs.Prelude.{ℕ, List, length, slice_get}
use Rattle.std.specs.List.{sum_by}
use Rattle.std.specs.Option.{option_map_or}
use Rattle.uts_geom.specs.Spans.{counted}

-- a sum over the values of a list, each with its place
abbrev pub by_place : {X : Type 0} → List X → (ℕ → X → ℕ) → ℕ
by_place xs f = sum_by (λ k. option_map_or (f k) (slice_get xs k) 0) (counted 0 (length xs))
