-- What holds of each text.
use Rattle.std.specs.Prelude.{◌≡◌, ◌⊎◌, ◌<◌, ◌^◌, ℕ, List, length, Some}
use Rattle.problem_types.specs.Form.{IsProblemInForm}
use Rattle.problem_types.specs.declared.problem.Problem.{Problem}
use Rattle.problem_file.specs.Statements.{statements_of, IsWhole}
use Rattle.problem_file.specs.Order.{place_behind}
use Rattle.problem_file.specs.Grammar.{Spells, IsBadLine}
use Rattle.problem_file.specs.declared.order.Place.TheVariants as place

-- a text spells one problem at most
abbrev pub OneProblem : Type 0
OneProblem = (text : List ℕ) (p q : Problem) → Spells text p → Spells text q → p ≡ q

-- a text has one first bad line at most
abbrev pub OneBadLine : Type 0
OneBadLine = (text : List ℕ) (line other : ℕ) → IsBadLine text line → IsBadLine text other → line ≡ other

-- a text with a bad line spells no problem
abbrev pub NoProblemWithABadLine : Type 0
NoProblemWithABadLine = (text : List ℕ) (line : ℕ) (p : Problem) → IsBadLine text line → Spells text p → ⊥

-- a text spells a problem, or it has a first bad line
abbrev pub EveryTextIsJudged : Type 0
EveryTextIsJudged = (text : List ℕ) → ((p : Problem) × Spells text p) ⊎ ((line : ℕ) × IsBadLine text line)

-- a problem that a text shorter than 2^31 bytes spells is in form
abbrev pub ProblemsAreInForm : Type 0
ProblemsAreInForm = (text : List ℕ) (p : Problem) → Spells text p → length text < 2 ^ 31 → IsProblemInForm p

-- each statement of a whole problem may come at its place, and the last one ends it
abbrev pub WholeProblemsAreInOrder : Type 0
WholeProblemsAreInOrder = (p : Problem) → IsWhole p → place_behind (Some place.Start) (statements_of p) ≡ Some place.End
