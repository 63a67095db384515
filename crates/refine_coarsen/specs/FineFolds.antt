-- What a kernel sees of the children of its index.
use Rattle.std.specs.Prelude.{ℤ, pos, List, length, map, fold, if◌then◌else◌}
use Rattle.std.specs.List.{filter}
use Rattle.uts_geom.specs.Spans.{is_inside}
use Rattle.uts_geom.specs.declared.index.Index.{Index}
use Rattle.kernel_ast.specs.declared.expression.How.{How}
use Rattle.kernel_ast.specs.declared.expression.How.TheVariants.{Same, Coarse, FineSum, FineMin, FineMax, FineCount}
use Rattle.problem_types.specs.declared.problem.Fold.{Fold}
use Rattle.problem_types.specs.declared.problem.Fold.TheVariants.{Sum, Min, Max}
use Rattle.reductions.specs.Folding.{all_combined, combined}
use Rattle.ghost_gather.specs.Windows.{WindowData, number_seen}

-- the numbers at some children: their wrapping sum, the least, the greatest, or how many they are
abbrev pub folded : How → List ℤ → ℤ
folded Same numbers = pos 0
folded Coarse numbers = pos 0
folded FineSum numbers = all_combined Sum numbers
folded FineMin numbers = all_combined Min numbers
folded FineMax numbers = all_combined Max numbers
folded FineCount numbers = pos (length numbers)

-- the number of an index in a window, and 0 where the window's span does not hold the index
abbrev pub number_within : WindowData → Index → ℤ
number_within w i = if is_inside w.span i then number_seen w i else pos 0

-- the fold over those of some indexes that the index space of a window holds
abbrev pub fine_fold_of : How → WindowData → List Index → ℤ
fine_fold_of how w indexes = folded how (map (number_within w) (filter (is_inside w.space) indexes))

-- how the numbers of a form are combined: a count adds up ones
abbrev pub fold_for : How → Fold
fold_for Same = Sum
fold_for Coarse = Sum
fold_for FineSum = Sum
fold_for FineMin = Min
fold_for FineMax = Max
fold_for FineCount = Sum

abbrev pub number_for : How → WindowData → Index → ℤ
number_for Same w i = number_within w i
number_for Coarse w i = number_within w i
number_for FineSum w i = number_within w i
number_for FineMin w i = number_within w i
number_for FineMax w i = number_within w i
number_for FineCount w i = pos 1

-- a number, combined with those of further indexes that the index space holds
unfoldable pub with_indexes : How → WindowData → ℤ → List Index → ℤ
with_indexes how w before indexes =
    fold (combined (fold_for how)) before (map (number_for how w) (filter (is_inside w.space) indexes))
