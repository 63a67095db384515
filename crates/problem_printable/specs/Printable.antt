-- Problems that can be printed: what has to hold of a problem so that a text spells it.
use Rattle.std.specs.Prelude.{◌≡◌, ◌≢◌, ℕ, ◌≤◌, ◌^◌, ◌==◌, ◌&&◌, ℤ, pos, neg_ℤ, Bool, true, IsTrue, List, ◌∷◌, Some, length, map, int_le, int_lt, All, AllPairs, FitsSigned}
use Rattle.std.specs.Int.{w64}
use Rattle.std.specs.List.{flat_map, list_all}
use Rattle.std.specs.List.Sorted.{IsStrictlyIncreasing}
use Rattle.uts_lex.specs.Spelling.{IsWord}
use Rattle.kernel_ast.specs.Folds.{fold-at_form}
use Rattle.kernel_ast.specs.Form.{IsExpressionInForm}
use Rattle.kernel_ast.specs.declared.expression.Expr.{Expr}
use Rattle.kernel_ast.specs.declared.expression.Expr.TheOpen.{Expr-F, Literal, X, Y, Z, Level, Material, Step, Read as Reading, Number, Neg, Binary, Select}
use Rattle.kernel_ast.specs.declared.expression.Expr.TheViews.{roll-Expr}
use Rattle.kernel_ast.specs.declared.expression.Expr.TheFolds.{fold-Expr, map-Expr}
use Rattle.kernel_parse.specs.Grammar.{Words}
use Rattle.problem_types.specs.Form.{AreLayersInForm}
use Rattle.problem_types.specs.declared.problem.Problem.{Problem}
use Rattle.problem_types.specs.declared.problem.Ghost.{Ghost}
use Rattle.problem_types.specs.declared.problem.What.{What}
use Rattle.problem_types.specs.declared.problem.What.TheVariants as what
use Rattle.statement_parse.specs.Grammar.{Fits, IsFree, AreNumbers}
use Rattle.statement_parse.specs.declared.statement.Corners.{Corners}
use Rattle.statement_parse.specs.declared.statement.Statement.{Statement}
use Rattle.statement_parse.specs.declared.statement.Statement.TheVariants as statement
use Rattle.problem_file.specs.Statements.{Placed, statements_of, IsWhole}
use Rattle.problem_printable.specs.Numbering.{statement_names, known_behind}

-- three numbers of 64 bits
pub record IsCorner (numbers : List ℕ) : Type 0 where
  pub axes : length numbers ≡ 3
  pub fit : All Fits numbers

abbrev pub AreCorners : Corners → Type 0
AreCorners c = IsCorner c.lo × IsCorner c.hi

abbrev pub AreLayers : Ghost → Type 0
AreLayers g = AreLayersInForm g × Fits g.n

abbrev pub IsWhat : What → Type 0
IsWhat (what.Same name layers) = AreLayers layers
IsWhat (what.Coarse name layers) = AreLayers layers
IsWhat (what.Fine name) = Unit {0}
IsWhat (what.Number name) = Unit {0}

-- an offset has a signed number of 64 bits for each axis
abbrev pub is_offset : List ℤ → Bool
is_offset by = (length by == 3) && list_all (λ z. int_le (neg_ℤ (pos (2 ^ 63))) z && int_lt z (pos (2 ^ 63))) by

-- whether the numbers of an expression have 64 bits, over the same of its parts
abbrev pub fits_over : Expr-F Bool → Bool
fits_over (Literal n) = int_lt n (pos (2 ^ 63))
fits_over X = true
fits_over Y = true
fits_over Z = true
fits_over Level = true
fits_over Material = true
fits_over Step = true
fits_over (Reading r) = is_offset r.offset
fits_over (Number s name) = true
fits_over (Neg a) = a
fits_over (Binary o a b) = a && b
fits_over (Select c a b) = c && (a && b)

unfoldable pub expression_fits : Expr → Bool
expression_fits = fold-Expr Bool fits_over

-- the same at a form of expression
pub fits_at_form : {x : Expr} (d : Expr-F Expr) → roll-Expr d ≡ x → expression_fits x ≡ fits_over (map-Expr Expr Bool expression_fits d)
unfolding expression_fits
fits_at_form d made = fold-at_form fits_over d made

-- the numbers of a statement can be spelled, where so many names are known
abbrev pub IsSayable : ℕ → Statement → Type 0
IsSayable names (statement.Version n) = n ≡ 1
IsSayable names (statement.Steps n) = Fits n
IsSayable names (statement.Dump n) = (1 ≤ n) × Fits n
IsSayable names (statement.Ghost n) = Fits n
IsSayable names (statement.Materials n) = (1 ≤ n) × Fits n
IsSayable names (statement.Level ratio) = Fits ratio
IsSayable names (statement.Box c) = AreCorners c
IsSayable names (statement.Patch c) = AreCorners c
IsSayable names (statement.Var name c outside) = FitsSigned w64 outside
IsSayable names (statement.Reduction name f) = Unit {0}
IsSayable names statement.Init = Unit {0}
IsSayable names (statement.Task name levels materials) = AreNumbers levels × AreNumbers materials
IsSayable names (statement.Require s w) = IsWhat w
IsSayable names (statement.Write kind name e) = IsExpressionInForm names e × IsTrue (expression_fits e)
IsSayable names statement.Timestep = Unit {0}
IsSayable names (statement.Keep name) = Unit {0}
IsSayable names statement.End = Unit {0}

-- a word that may be a name
abbrev pub IsName : List ℕ → Type 0
IsName word = IsWord word × IsFree word

-- distinct words that may be names
pub record AreNames (names : Words) : Type 0 where
  pub words : All IsName names
  pub distinct : AllPairs ◌≢◌ names

-- each line comes after the one before it, and the first one after 0
abbrev pub AreInOrder : List Placed → Type 0
AreInOrder ss = IsStrictlyIncreasing (0 ∷ map (λ s. s.line) ss)

pub record IsPrintable (p : Problem) : Type 0 where
  pub whole : IsWhole p
  pub lines : AreInOrder (statements_of p)
  pub names : AreNames p.names
  pub numbered : known_behind 0 (flat_map (λ s. statement_names s.statement) (statements_of p)) ≡ Some (length p.names)
  pub statements : All (λ s. IsSayable (length p.names) s.statement) (statements_of p)
