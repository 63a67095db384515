-- Reading a statement from the left, token by token.
use Rattle.std.specs.Prelude.{◌≡◌, ℕ, ◌==◌, ℤ, Bool, true, ◌&&◌, List, [], ◌∷◌, ◌++◌, length, Option, Some, None, nat_lt, nat_le, codes, if◌then◌else◌}
use Rattle.std.specs.Option.{option_map, option_map_or}
use Rattle.uts_lex.specs.Lexemes.{Lexeme}
use Rattle.uts_lex.specs.Names.{number_of, with_name}
use Rattle.kernel_ast.specs.declared.expression.Expr.{Expr}
use Rattle.kernel_parse.specs.Signs.{is_word, store_of}
use Rattle.kernel_parse.specs.Grammar.{Words, SpellsExpression}
use Rattle.kernel_parse.specs.Reading.{◌>>=◌, behind, behind_sign, number_of_token, name_of_token, first_as, signed_at, if_empty}
use Rattle.uts_geom.specs.declared.centring.Centring.{Centring}
use Rattle.problem_types.specs.declared.problem.Fold.{Fold}
use Rattle.problem_types.specs.declared.problem.Ghost.{Ghost}
use Rattle.problem_types.specs.declared.problem.GhostKind.{GhostKind}
use Rattle.problem_types.specs.declared.problem.GhostKind.TheVariants as ghosts
use Rattle.problem_types.specs.declared.problem.What.{What}
use Rattle.problem_types.specs.declared.problem.What.TheVariants as what
use Rattle.problem_types.specs.declared.problem.WriteKind.{WriteKind}
use Rattle.problem_types.specs.declared.problem.WriteKind.TheVariants as write
use Rattle.statement_parse.specs.declared.statement.Corners.{Corners}
use Rattle.statement_parse.specs.declared.statement.Statement.{Statement}
use Rattle.statement_parse.specs.declared.statement.Statement.TheVariants as statement
use Rattle.statement_parse.specs.declared.statement.StatementKind.{StatementKind}
use Rattle.statement_parse.specs.declared.statement.StatementKind.TheVariants as kind
use Rattle.statement_parse.specs.Tables.{statement_kind_of, centring_of, fold_of, ghosts_of, write_of}

-- a statement, and the words behind it
pub record Stated : Type 0 where
  pub statement : Statement
  pub names : Words

abbrev pub stated : Statement → Words → Stated
stated s names = record { statement = s; names = names }

-- ---- numbers

-- a number, and nothing behind it
unfoldable pub number_at : List Lexeme → Option ℕ
number_at ts = first_as number_of_token ts >>= λ n. if_empty n.1 n.0

-- the same, where it is at least 1
unfoldable pub some_number_at : List Lexeme → Option ℕ
some_number_at ts = number_at ts >>= λ n. if nat_le 1 n then Some n else None

abbrev pub corners_of : ℕ → ℕ → ℕ → ℕ → ℕ → ℕ → Corners
corners_of a b c d e f = record { lo = a ∷ b ∷ c ∷ []; hi = d ∷ e ∷ f ∷ [] }

-- three numbers, and the tokens behind them
unfoldable pub corner_at : List Lexeme → Option (List ℕ × List Lexeme)
corner_at ts = do
  a ← first_as number_of_token ts
  b ← first_as number_of_token a.1
  c ← first_as number_of_token b.1
  Some (a.0 ∷ b.0 ∷ c.0 ∷ [], c.1)

-- the two corners of a box
unfoldable pub corners_at : List Lexeme → Option Corners
corners_at ts = do
  lo ← corner_at ts
  hi ← corner_at lo.1
  if_empty hi.1 (record { lo = lo.0; hi = hi.0 })

-- the numbers so far with those at the front, and the tokens behind them
unfoldable pub numbers_from : List ℕ → List Lexeme → List ℕ × List Lexeme
numbers_from so_far [] = (so_far, [])
numbers_from so_far (t ∷ ts) = option_map_or (λ n. numbers_from (so_far ++ n ∷ []) ts) (number_of_token t) (so_far, t ∷ ts)

abbrev pub ascends_from : ℕ → List ℕ → Bool
ascends_from a [] = true
ascends_from a (b ∷ xs) = nat_lt a b && ascends_from b xs

abbrev pub ascends : List ℕ → Bool
ascends [] = true
ascends (a ∷ xs) = ascends_from a xs

-- at least one number, and each above the one before
unfoldable pub is_list : List ℕ → Bool
is_list numbers = nat_lt 0 (length numbers) && ascends numbers

abbrev pub if_list : List ℕ × List Lexeme → Option (List ℕ × List Lexeme)
if_list r = if is_list r.0 then Some r else None

unfoldable pub list_at : List Lexeme → Option (List ℕ × List Lexeme)
list_at ts = if_list (numbers_from [] ts)

-- the same, and nothing behind it
unfoldable pub last_list_at : List Lexeme → Option (List ℕ)
last_list_at ts = list_at ts >>= λ list. if_empty list.1 list.0

-- ---- statements without names

-- the version of the language
unfoldable pub version_at : List Lexeme → Option ℕ
version_at ts = number_at ts >>= λ n. if n == 1 then Some n else None

-- the refinement ratio of a level
unfoldable pub ratio_at : List Lexeme → Option ℕ
ratio_at ts = behind (is_word (codes "ratio")) ts >>= λ rest. number_at rest

-- what stands behind the first word of a statement without names
unfoldable pub unnamed_at : StatementKind → List Lexeme → Option Statement
unnamed_at kind.Version ts = option_map (λ n. statement.Version n) (version_at ts)
unnamed_at kind.Steps ts = option_map (λ n. statement.Steps n) (number_at ts)
unnamed_at kind.Dump ts = option_map (λ n. statement.Dump n) (some_number_at ts)
unnamed_at kind.Ghost ts = option_map (λ n. statement.Ghost n) (number_at ts)
unnamed_at kind.Materials ts = option_map (λ n. statement.Materials n) (some_number_at ts)
unnamed_at kind.Level ts = option_map (λ n. statement.Level n) (ratio_at ts)
unnamed_at kind.Box ts = option_map (λ c. statement.Box c) (corners_at ts)
unnamed_at kind.Patch ts = option_map (λ c. statement.Patch c) (corners_at ts)
unnamed_at kind.Init ts = if_empty ts statement.Init
unnamed_at kind.Timestep ts = if_empty ts statement.Timestep
unnamed_at kind.End ts = if_empty ts statement.End
unnamed_at kind ts = None

-- ---- statements with a name

-- a name, and nothing behind it
unfoldable pub name_at : List Lexeme → Option (List ℕ)
name_at ts = first_as name_of_token ts >>= λ name. if_empty name.1 name.0

-- the name, the centring and the number outside of a variable
unfoldable pub var_parts_at : List Lexeme → Option (List ℕ × Centring × ℤ)
var_parts_at ts = do
  name ← first_as name_of_token ts
  at ← first_as centring_of name.1
  rest ← behind (is_word (codes "outside")) at.1
  z ← signed_at rest
  if_empty z.1 (name.0, at.0, z.0)

unfoldable pub var_at : Words → List Lexeme → Option Stated
var_at names ts =
    option_map (λ p. stated (statement.Var (number_of names p.0) p.1 p.2) (with_name names p.0)) (var_parts_at ts)

-- the name and the fold of a reduction
unfoldable pub fold_parts_at : List Lexeme → Option (List ℕ × Fold)
fold_parts_at ts = do
  name ← first_as name_of_token ts
  f ← first_as fold_of name.1
  if_empty f.1 (name.0, f.0)

unfoldable pub fold_at : Words → List Lexeme → Option Stated
fold_at names ts =
    option_map (λ p. stated (statement.Reduction (number_of names p.0) p.1) (with_name names p.0)) (fold_parts_at ts)

unfoldable pub keep_at : Words → List Lexeme → Option Stated
keep_at names ts =
    option_map (λ name. stated (statement.Keep (number_of names name)) (with_name names name)) (name_at ts)

unfoldable pub task_at : Words → List Lexeme → Option Stated
task_at names ts = do
  name ← first_as name_of_token ts
  at ← behind (is_word (codes "levels")) name.1
  levels ← list_at at
  here ← behind (is_word (codes "materials")) levels.1
  materials ← last_list_at here
  Some (stated (statement.Task (number_of names name.0) levels.0 materials) (with_name names name.0))

-- ---- requirements

abbrev pub ghost_of : GhostKind → ℕ → Ghost
ghost_of kind n = record { kind = kind; n = n }

unfoldable pub layers_at : List Lexeme → Option Ghost
layers_at ts =
    option_map_or (λ rest. if_empty rest (ghost_of ghosts.None 0)) (behind (is_word (codes "none")) ts)
    (first_as ghosts_of ts >>= λ kind. option_map (λ n. ghost_of kind.0 n) (some_number_at kind.1))

-- a name and its layers
unfoldable pub layered_at : List Lexeme → Option (List ℕ × Ghost)
layered_at ts = first_as name_of_token ts >>= λ name. option_map (λ g. (name.0, g)) (layers_at name.1)

unfoldable pub coarse_at : Words → List Lexeme → Option (What × Words)
coarse_at names ts = option_map (λ p. (what.Coarse (number_of names p.0) p.1, with_name names p.0)) (layered_at ts)

unfoldable pub fine_at : Words → List Lexeme → Option (What × Words)
fine_at names ts = option_map (λ name. (what.Fine (number_of names name), with_name names name)) (name_at ts)

-- a name alone is a reduction
unfoldable pub own_at : Words → List Lexeme → Option (What × Words)
own_at names ts =
    option_map_or (λ name. Some (what.Number (number_of names name), with_name names name)) (name_at ts)
    (option_map (λ p. (what.Same (number_of names p.0) p.1, with_name names p.0)) (layered_at ts))

unfoldable pub what_at : Words → List Lexeme → Option (What × Words)
what_at names ts =
    option_map_or (λ rest. coarse_at names rest) (behind (is_word (codes "coarse")) ts)
    (option_map_or (λ rest. fine_at names rest) (behind (is_word (codes "fine")) ts) (own_at names ts))

unfoldable pub requirement_at : Words → List Lexeme → Option Stated
requirement_at names ts =
    first_as store_of ts >>= λ store. option_map (λ w. stated (statement.Require store.0 w.0) w.1) (what_at names store.1)

-- ---- all but writes

-- what stands behind the first word of a statement
unfoldable pub said_at : StatementKind → Words → List Lexeme → Option Stated
said_at kind.Var names ts = var_at names ts
said_at kind.Reduction names ts = fold_at names ts
said_at kind.Task names ts = task_at names ts
said_at kind.Require names ts = requirement_at names ts
said_at kind.Keep names ts = keep_at names ts
said_at kind names ts = option_map (λ s. stated s names) (unnamed_at kind ts)

unfoldable pub statement_at : Words → List Lexeme → Option Stated
statement_at names ts = first_as statement_kind_of ts >>= λ kind. said_at kind.0 names kind.1

-- ---- writes

abbrev pub named_target_at : WriteKind → List Lexeme → Option (List ℕ × WriteKind × List Lexeme)
named_target_at kind ts =
    first_as name_of_token ts >>= λ name. option_map (λ rest. (name.0, kind, rest)) (behind_sign (codes "=") name.1)

abbrev pub reduced_target_at : List Lexeme → Option (List ℕ × WriteKind × List Lexeme)
reduced_target_at ts = do
  name ← first_as name_of_token ts
  at ← first_as centring_of name.1
  option_map (λ rest. (name.0, write.Reduces at.0, rest)) (behind_sign (codes "=") at.1)

-- what is written, and the tokens behind the `=`
unfoldable pub target_at : List Lexeme → Option (List ℕ × WriteKind × List Lexeme)
target_at ts =
    option_map_or (λ kind. named_target_at kind.0 kind.1) (first_as write_of ts)
    (behind (is_word (codes "reduces")) ts >>= λ rest. reduced_target_at rest)

-- the statement writes what the tokens spell
pub record IsWritten (ts : List Lexeme) (names : Words) (kind : WriteKind) (name : List ℕ) (s : Statement) (after : Words) : Type 0 where
  pub expr : Expr
  pub is : s ≡ statement.Write kind (number_of names name) expr
  pub spelled : SpellsExpression ts (with_name names name) expr after
