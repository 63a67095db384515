-- Names: distinct words, each of which has its place as its number.
use Rattle.std.specs.Prelude.{ℕ, List, [], ◌∷◌, ◌++◌, if◌then◌else◌}
use Rattle.std.specs.List.{list_any, position_or_len}
use Rattle.std.specs.Str.{bytes_eq}

-- the names with the word behind them, if it is not among them
abbrev pub with_name : List (List ℕ) → List ℕ → List (List ℕ)
with_name names word = if list_any (bytes_eq word) names then names else names ++ word ∷ []

-- the place of the word among the names, or the place behind them
abbrev pub number_of : List (List ℕ) → List ℕ → ℕ
number_of names word = position_or_len (bytes_eq word) names
