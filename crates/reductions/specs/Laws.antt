-- What holds of folds of numbers.
use Rattle.std.specs.Prelude.{◌≡◌, ℤ, List, ◌++◌, IsPermutation}
use Rattle.problem_types.specs.declared.problem.Fold.{Fold}
use Rattle.reductions.specs.Folding.{combined, all_combined}

-- the numbers of two parts, each combined by itself, and the two then combined
abbrev pub PartsFoldApart : Type 0
PartsFoldApart = (f : Fold) (a b : List ℤ) → all_combined f (a ++ b) ≡ combined f (all_combined f a) (all_combined f b)

-- the same numbers in another order
abbrev pub OrderDoesNotMatter : Type 0
OrderDoesNotMatter = (f : Fold) (a b : List ℤ) → IsPermutation a b → all_combined f a ≡ all_combined f b
