-- The printed form of a problem, as bytes.
use Rattle.std.specs.Prelude.{ℕ, suc, ◌-◌, ℤ, pos, List, [], ◌∷◌, ◌++◌, codes, decimal, replicate, slice_index_or}
use Rattle.std.specs.Fmt.{signed_decimal}
use Rattle.std.specs.List.{flat_map}
use Rattle.kernel_ast.specs.declared.expression.Store.{Store}
use Rattle.kernel_ast.specs.declared.expression.Store.TheVariants as store
use Rattle.kernel_ast.specs.declared.expression.How.{How}
use Rattle.kernel_ast.specs.declared.expression.How.TheVariants as how
use Rattle.kernel_ast.specs.declared.expression.Read.{Read}
use Rattle.kernel_ast.specs.declared.expression.Op.{Op}
use Rattle.kernel_ast.specs.declared.expression.Op.TheVariants as op
use Rattle.kernel_ast.specs.declared.expression.Expr.{Expr}
use Rattle.kernel_ast.specs.declared.expression.Expr.TheOpen.{Expr-F, Literal, X, Y, Z, Level, Material, Step, Read as Reading, Number, Neg, Binary, Select}
use Rattle.kernel_ast.specs.declared.expression.Expr.TheFolds.{fold-Expr}
use Rattle.problem_types.specs.declared.problem.Problem.{Problem}
use Rattle.uts_geom.specs.declared.centring.Centring.{Centring}
use Rattle.uts_geom.specs.declared.centring.Centring.TheVariants as centring
use Rattle.problem_types.specs.declared.problem.Fold.{Fold}
use Rattle.problem_types.specs.declared.problem.Fold.TheVariants as fold
use Rattle.problem_types.specs.declared.problem.Ghost.{Ghost}
use Rattle.problem_types.specs.declared.problem.GhostKind.{GhostKind}
use Rattle.problem_types.specs.declared.problem.GhostKind.TheVariants as ghosts
use Rattle.problem_types.specs.declared.problem.What.{What}
use Rattle.problem_types.specs.declared.problem.What.TheVariants as what
use Rattle.problem_types.specs.declared.problem.WriteKind.{WriteKind}
use Rattle.problem_types.specs.declared.problem.WriteKind.TheVariants as write
use Rattle.kernel_parse.specs.Grammar.{Words}
use Rattle.statement_parse.specs.declared.statement.Statement.{Statement}
use Rattle.statement_parse.specs.declared.statement.Statement.TheVariants as statement
use Rattle.problem_file.specs.Statements.{Placed, statements_of}

-- the word of a name
abbrev pub name_text : Words → ℕ → List ℕ
name_text names name = slice_index_or names name []

-- ---- expressions

abbrev pub store_text : Store → List ℕ
store_text store.Old = codes "old"
store_text store.New = codes "new"

-- `[x,y,z]`
abbrev pub offset_text : List ℤ → List ℕ
offset_text by =
    codes "[" ++ (signed_decimal (slice_index_or by 0 (pos 0)) ++ (codes "," ++ (signed_decimal (slice_index_or by 1 (pos 0))
    ++ (codes "," ++ (signed_decimal (slice_index_or by 2 (pos 0)) ++ codes "]")))))

-- what stands behind the store of a read, with no space
abbrev pub how_text : How → List ℕ → List ℤ → List ℕ
how_text how.Same name by = codes "." ++ (name ++ offset_text by)
how_text how.Coarse name by = codes ".coarse." ++ (name ++ offset_text by)
how_text how.FineSum name by = codes ".fine_sum." ++ name
how_text how.FineMin name by = codes ".fine_min." ++ name
how_text how.FineMax name by = codes ".fine_max." ++ name
how_text how.FineCount name by = codes ".fine_count." ++ name

abbrev pub read_text : Words → Read → List ℕ
read_text names r = store_text r.store ++ how_text r.how (name_text names r.name) r.offset

-- an operation between its operands, which have one space around it
abbrev pub infix_text : List ℕ → List ℕ → List ℕ → List ℕ
infix_text op a b = codes "(" ++ (a ++ (codes " " ++ (op ++ (codes " " ++ (b ++ codes ")")))))

-- a call of two arguments
abbrev pub call_text : List ℕ → List ℕ → List ℕ → List ℕ
call_text op a b = op ++ (codes "(" ++ (a ++ (codes ", " ++ (b ++ codes ")"))))

abbrev pub operation_text : Op → List ℕ → List ℕ → List ℕ
operation_text op.Add a b = infix_text (codes "+") a b
operation_text op.Sub a b = infix_text (codes "-") a b
operation_text op.Mul a b = infix_text (codes "*") a b
operation_text op.Div a b = infix_text (codes "/") a b
operation_text op.Rem a b = infix_text (codes "%") a b
operation_text op.Lt a b = infix_text (codes "<") a b
operation_text op.Le a b = infix_text (codes "<=") a b
operation_text op.Gt a b = infix_text (codes ">") a b
operation_text op.Ge a b = infix_text (codes ">=") a b
operation_text op.Eq a b = infix_text (codes "==") a b
operation_text op.Ne a b = infix_text (codes "!=") a b
operation_text op.Min a b = call_text (codes "min") a b
operation_text op.Max a b = call_text (codes "max") a b

-- an expression over the texts of its parts
abbrev pub text_over : Words → Expr-F (List ℕ) → List ℕ
text_over names (Literal n) = signed_decimal n
text_over names X = codes "x"
text_over names Y = codes "y"
text_over names Z = codes "z"
text_over names Level = codes "level"
text_over names Material = codes "material"
text_over names Step = codes "step"
text_over names (Reading r) = read_text names r
text_over names (Number s name) = store_text s ++ (codes "." ++ name_text names name)
text_over names (Neg a) = codes "-" ++ a
text_over names (Binary o a b) = operation_text o a b
text_over names (Select c a b) = codes "select(" ++ (c ++ (codes ", " ++ (a ++ (codes ", " ++ (b ++ codes ")")))))

unfoldable pub expression_text : Words → Expr → List ℕ
expression_text names = fold-Expr (List ℕ) (text_over names)

-- ---- statements

abbrev pub centring_text : Centring → List ℕ
centring_text centring.Cell = codes "cell"
centring_text centring.Node = codes "node"
centring_text centring.FaceX = codes "facex"
centring_text centring.FaceY = codes "facey"
centring_text centring.FaceZ = codes "facez"

abbrev pub fold_text : Fold → List ℕ
fold_text fold.Sum = codes "sum"
fold_text fold.Min = codes "min"
fold_text fold.Max = codes "max"

-- numbers, each behind a space
abbrev pub numbers_text : List ℕ → List ℕ
numbers_text numbers = flat_map (λ n. codes " " ++ decimal n) numbers

-- layers of ghost data, behind a space
abbrev pub layers_of : GhostKind → ℕ → List ℕ
layers_of ghosts.None n = codes " none"
layers_of ghosts.Cells n = codes " cells " ++ decimal n
layers_of ghosts.Nodes n = codes " nodes " ++ decimal n
layers_of ghosts.FaceX n = codes " facex " ++ decimal n
layers_of ghosts.FaceY n = codes " facey " ++ decimal n
layers_of ghosts.FaceZ n = codes " facez " ++ decimal n

abbrev pub layers_text : Ghost → List ℕ
layers_text g = layers_of g.kind g.n

-- what stands behind `requires` and the store
abbrev pub what_text : Words → What → List ℕ
what_text names (what.Same name layers) = name_text names name ++ layers_text layers
what_text names (what.Coarse name layers) = codes "coarse " ++ (name_text names name ++ layers_text layers)
what_text names (what.Fine name) = codes "fine " ++ name_text names name
what_text names (what.Number name) = name_text names name

-- what stands before the `=` of a line that writes
abbrev pub target_text : WriteKind → List ℕ → List ℕ
target_text write.Computes name = codes "computes " ++ name
target_text write.Modifies name = codes "modifies " ++ name
target_text (write.Reduces c) name = codes "reduces " ++ (name ++ (codes " " ++ centring_text c))

-- a statement, with one space between its tokens
abbrev pub statement_text : Words → Statement → List ℕ
statement_text names (statement.Version n) = codes "problem " ++ decimal n
statement_text names (statement.Steps n) = codes "steps " ++ decimal n
statement_text names (statement.Dump n) = codes "dump " ++ decimal n
statement_text names (statement.Ghost n) = codes "ghost " ++ decimal n
statement_text names (statement.Materials n) = codes "materials " ++ decimal n
statement_text names (statement.Level ratio) = codes "level ratio " ++ decimal ratio
statement_text names (statement.Box c) = codes "box" ++ (numbers_text c.lo ++ numbers_text c.hi)
statement_text names (statement.Patch c) = codes "patch" ++ (numbers_text c.lo ++ numbers_text c.hi)
statement_text names (statement.Var name c outside) =
    codes "var " ++ (name_text names name ++ (codes " " ++ (centring_text c ++ (codes " outside " ++ signed_decimal outside))))
statement_text names (statement.Reduction name f) = codes "reduction " ++ (name_text names name ++ (codes " " ++ fold_text f))
statement_text names statement.Init = codes "init"
statement_text names (statement.Task name levels materials) =
    codes "task " ++ (name_text names name ++ (codes " levels" ++ (numbers_text levels ++ (codes " materials" ++ numbers_text materials))))
statement_text names (statement.Require s w) = codes "requires " ++ (store_text s ++ (codes " " ++ what_text names w))
statement_text names (statement.Write kind name e) = target_text kind (name_text names name) ++ (codes " = " ++ expression_text names e)
statement_text names statement.Timestep = codes "timestep"
statement_text names (statement.Keep name) = codes "keep " ++ name_text names name
statement_text names statement.End = codes "end"

-- ---- problems

-- each statement on its line, with empty lines between, behind the line with the number `last`
abbrev pub lines_text : Words → ℕ → List Placed → List ℕ
lines_text names last [] = []
lines_text names last (s ∷ ss) =
    replicate (s.line - suc last) 10 ++ (statement_text names s.statement ++ (10 ∷ lines_text names s.line ss))

-- the text that is printed for a problem
unfoldable pub printed_text : Problem → List ℕ
printed_text p = lines_text p.names 0 (statements_of p)
