-- What the expression of a kernel reads.
use Rattle.std.specs.Prelude.{ℕ, List, [], ◌∷◌, ◌++◌}
use Rattle.kernel_ast.specs.declared.expression.Store.{Store}
use Rattle.kernel_ast.specs.declared.expression.Read.{Read}
use Rattle.kernel_ast.specs.declared.expression.Expr.{Expr}
use Rattle.kernel_ast.specs.declared.expression.Expr.TheOpen.{Expr-F, Literal, X, Y, Z, Level, Material, Step, Read as Reading, Number, Neg, Binary, Select}
use Rattle.kernel_ast.specs.declared.expression.Expr.TheFolds.{fold-Expr}

-- the reads of variables, over those of an expression's parts
abbrev pub reads_over : Expr-F (List Read) → List Read
reads_over (Literal n) = []
reads_over X = []
reads_over Y = []
reads_over Z = []
reads_over Level = []
reads_over Material = []
reads_over Step = []
reads_over (Reading r) = r ∷ []
reads_over (Number store name) = []
reads_over (Neg a) = a
reads_over (Binary o a b) = a ++ b
reads_over (Select c a b) = c ++ a ++ b

unfoldable pub reads_of : Expr → List Read
reads_of = fold-Expr (List Read) reads_over

-- the reads of reductions, each as its store and its name, over those of an expression's parts
abbrev pub numbers_over : Expr-F (List (Store × ℕ)) → List (Store × ℕ)
numbers_over (Literal n) = []
numbers_over X = []
numbers_over Y = []
numbers_over Z = []
numbers_over Level = []
numbers_over Material = []
numbers_over Step = []
numbers_over (Reading r) = []
numbers_over (Number store name) = (store, name) ∷ []
numbers_over (Neg a) = a
numbers_over (Binary o a b) = a ++ b
numbers_over (Select c a b) = c ++ a ++ b

unfoldable pub numbers_of : Expr → List (Store × ℕ)
numbers_of = fold-Expr (List (Store × ℕ)) numbers_over
