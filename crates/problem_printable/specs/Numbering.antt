-- Names numbered in the order of their first appearance.
use Rattle.std.specs.Prelude.{◌≡◌, ℕ, ◌+◌, ◌==◌, List, [], ◌∷◌, ◌++◌, Option, Some, None, nat_lt, if◌then◌else◌}
use Rattle.kernel_ast.specs.Folds.{fold-at_form}
use Rattle.kernel_ast.specs.declared.expression.Expr.{Expr}
use Rattle.kernel_ast.specs.declared.expression.Expr.TheOpen.{Expr-F, Literal, X, Y, Z, Level, Material, Step, Read as Reading, Number, Neg, Binary, Select}
use Rattle.kernel_ast.specs.declared.expression.Expr.TheViews.{roll-Expr}
use Rattle.kernel_ast.specs.declared.expression.Expr.TheFolds.{fold-Expr, map-Expr}
use Rattle.problem_types.specs.declared.problem.What.{What}
use Rattle.problem_types.specs.declared.problem.What.TheVariants as what
use Rattle.statement_parse.specs.declared.statement.Statement.{Statement}
use Rattle.statement_parse.specs.declared.statement.Statement.TheVariants as statement

-- the names of an expression in the order of its text, over those of its parts
abbrev pub names_over : Expr-F (List ℕ) → List ℕ
names_over (Literal n) = []
names_over X = []
names_over Y = []
names_over Z = []
names_over Level = []
names_over Material = []
names_over Step = []
names_over (Reading r) = r.name ∷ []
names_over (Number s name) = name ∷ []
names_over (Neg a) = a
names_over (Binary o a b) = a ++ b
names_over (Select c a b) = c ++ (a ++ b)

unfoldable pub expression_names : Expr → List ℕ
expression_names = fold-Expr (List ℕ) names_over

-- the names at a form of expression, over those of its parts
pub names_at_form : {x : Expr} (d : Expr-F Expr) → roll-Expr d ≡ x → expression_names x ≡ names_over (map-Expr Expr (List ℕ) expression_names d)
unfolding expression_names
names_at_form d made = fold-at_form names_over d made

abbrev pub what_names : What → List ℕ
what_names (what.Same name layers) = name ∷ []
what_names (what.Coarse name layers) = name ∷ []
what_names (what.Fine name) = name ∷ []
what_names (what.Number name) = name ∷ []

-- the names of a statement in the order of its text
abbrev pub statement_names : Statement → List ℕ
statement_names (statement.Version n) = []
statement_names (statement.Steps n) = []
statement_names (statement.Dump n) = []
statement_names (statement.Ghost n) = []
statement_names (statement.Materials n) = []
statement_names (statement.Level ratio) = []
statement_names (statement.Box c) = []
statement_names (statement.Patch c) = []
statement_names (statement.Var name c outside) = name ∷ []
statement_names (statement.Reduction name f) = name ∷ []
statement_names statement.Init = []
statement_names (statement.Task name levels materials) = name ∷ []
statement_names (statement.Require s w) = what_names w
statement_names (statement.Write kind name e) = name ∷ expression_names e
statement_names statement.Timestep = []
statement_names (statement.Keep name) = name ∷ []
statement_names statement.End = []

-- how many names are known behind some names, if each is known by then or the next new one
abbrev pub known_behind : ℕ → List ℕ → Option ℕ
known_behind known [] = Some known
known_behind known (name ∷ names) =
    if nat_lt name known then known_behind known names
    else (if name == known then known_behind (known + 1) names else None)
