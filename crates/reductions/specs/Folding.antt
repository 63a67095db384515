-- How a reduction combines its numbers.
use Rattle.std.specs.Prelude.{ℤ, pos, negsuc, ◌-◌, ◌^◌, List, fold}
use Rattle.std.specs.Int.{int_min, int_max}
use Rattle.kernel_ast.specs.Arithmetic.{sum_of}
use Rattle.problem_types.specs.declared.problem.Fold.{Fold}
use Rattle.problem_types.specs.declared.problem.Fold.TheVariants.{Sum, Min, Max}

-- the number with which a fold begins
abbrev pub identity_of : Fold → ℤ
identity_of Sum = pos 0
identity_of Min = pos (2 ^ 63 - 1)
identity_of Max = negsuc (2 ^ 63 - 1)

-- two numbers combined: added up, wrapping, or the lesser, or the greater
abbrev pub combined : Fold → ℤ → ℤ → ℤ
combined Sum a b = sum_of a b
combined Min a b = int_min a b
combined Max a b = int_max a b

-- a list of numbers combined, from the left
abbrev pub all_combined : Fold → List ℤ → ℤ
all_combined f numbers = fold (combined f) (identity_of f) numbers
