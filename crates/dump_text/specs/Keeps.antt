-- What stands for one of a problem's kept names, by its place.
use Rattle.std.specs.Prelude.{ℕ, List, [], slice_get}
use Rattle.std.specs.Option.{option_map_or}
use Rattle.problem_types.specs.declared.problem.Problem.{Problem}

abbrev pub at_keep : {A : Type 0} → Problem → (ℕ → ℕ → List A) → ℕ → List A
at_keep p of place = option_map_or (λ keep. of place keep.name) (slice_get p.keeps place) []
