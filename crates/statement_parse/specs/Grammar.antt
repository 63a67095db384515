-- How the statements of a problem text are spelled, by the tokens of a line.
use Rattle.std.specs.Prelude.{◌≡◌, ℕ, ◌<◌, ◌≤◌, ◌^◌, ℤ, false, List, [], ◌∷◌, ◌++◌, Some, codes, map, length, All}
use Rattle.std.specs.List.Sorted.{IsStrictlyIncreasing}
use Rattle.uts_lex.specs.Lexemes.{Lexeme}
use Rattle.uts_lex.specs.Names.{number_of, with_name}
use Rattle.kernel_ast.specs.declared.expression.Store.{Store}
use Rattle.kernel_ast.specs.declared.expression.Expr.{Expr}
use Rattle.kernel_parse.specs.Signs.{word, number, sign, store_of, is_reserved}
use Rattle.kernel_parse.specs.Grammar.{Words, SpellsSigned, SpellsExpression}
use Rattle.uts_geom.specs.declared.centring.Centring.{Centring}
use Rattle.problem_types.specs.declared.problem.Fold.{Fold}
use Rattle.problem_types.specs.declared.problem.Ghost.{Ghost}
use Rattle.problem_types.specs.declared.problem.GhostKind.{GhostKind}
use Rattle.problem_types.specs.declared.problem.GhostKind.TheVariants as ghosts
use Rattle.problem_types.specs.declared.problem.What.{What}
use Rattle.problem_types.specs.declared.problem.What.TheVariants as what
use Rattle.problem_types.specs.declared.problem.WriteKind.{WriteKind}
use Rattle.problem_types.specs.declared.problem.WriteKind.TheVariants as write
use Rattle.statement_parse.specs.declared.statement.Corners.{Corners}
use Rattle.statement_parse.specs.declared.statement.Statement.{Statement}
use Rattle.statement_parse.specs.declared.statement.Statement.TheVariants as statement
use Rattle.statement_parse.specs.Tables.{centring_of, fold_of, ghosts_of}

-- a number of 64 bits
abbrev pub Fits : ℕ → Type 0
Fits n = n < 2 ^ 64

-- a word that may be a name
abbrev pub IsFree : List ℕ → Type 0
IsFree name = is_reserved name ≡ false

-- the level or the material numbers of a task: at least one, each above the one before
pub record AreNumbers (numbers : List ℕ) : Type 0 where
  pub some : 1 ≤ length numbers
  pub ascending : IsStrictlyIncreasing numbers
  pub fit : All Fits numbers

-- six numbers: low x, y, z, then high x, y, z
pub data SpellsCorners : List Lexeme → Corners → Type 0 where
  corners : (a b c d e f : ℕ) → Fits a → Fits b → Fits c → Fits d → Fits e → Fits f
      → SpellsCorners (number a ∷ number b ∷ number c ∷ number d ∷ number e ∷ number f ∷ [])
      (record { lo = a ∷ b ∷ c ∷ []; hi = d ∷ e ∷ f ∷ [] })

-- `none`, or what the layers lie around and how many there are, at least 1
pub data SpellsLayers : List Lexeme → Ghost → Type 0 where
  no_layers : SpellsLayers (word (codes "none") ∷ []) (record { kind = ghosts.None; n = 0 })
  layers : (at : Lexeme) (kind : GhostKind) (n : ℕ) → ghosts_of at ≡ Some kind → 1 ≤ n → Fits n
      → SpellsLayers (at ∷ number n ∷ []) (record { kind = kind; n = n })

-- What a task requires, behind the store: a variable with its layers, `coarse` and such a variable, `fine` and a
-- variable, or a reduction. The words before it become the words behind it.
pub data SpellsWhat : List Lexeme → Words → What → Words → Type 0 where
  same_level : (names : Words) (name : List ℕ) (ts : List Lexeme) (g : Ghost) → IsFree name → SpellsLayers ts g
      → SpellsWhat (word name ∷ ts) names (what.Same (number_of names name) g) (with_name names name)
  coarser : (names : Words) (name : List ℕ) (ts : List Lexeme) (g : Ghost) → IsFree name → SpellsLayers ts g
      → SpellsWhat (word (codes "coarse") ∷ word name ∷ ts) names (what.Coarse (number_of names name) g) (with_name names name)
  finer : (names : Words) (name : List ℕ) → IsFree name
      → SpellsWhat (word (codes "fine") ∷ word name ∷ []) names (what.Fine (number_of names name)) (with_name names name)
  reduction : (names : Words) (name : List ℕ) → IsFree name
      → SpellsWhat (word name ∷ []) names (what.Number (number_of names name)) (with_name names name)

-- what a task writes, up to the `=`: `computes NAME`, `modifies NAME`, or `reduces NAME` and a centring
pub data SpellsTarget : List Lexeme → List ℕ → WriteKind → Type 0 where
  computes : (name : List ℕ) → SpellsTarget (word (codes "computes") ∷ word name ∷ []) name write.Computes
  modifies : (name : List ℕ) → SpellsTarget (word (codes "modifies") ∷ word name ∷ []) name write.Modifies
  reduces : (name : List ℕ) (at : Lexeme) (centring : Centring) → centring_of at ≡ Some centring
      → SpellsTarget (word (codes "reduces") ∷ word name ∷ at ∷ []) name (write.Reduces centring)

-- The tokens are the statement, all of them. A name is numbered where it appears for the first time, so the words
-- before the statement become the words behind it.
pub data SpellsStatement : List Lexeme → Words → Statement → Words → Type 0 where
  version : (names : Words) → SpellsStatement (word (codes "problem") ∷ number 1 ∷ []) names (statement.Version 1) names
  steps : (names : Words) (n : ℕ) → Fits n
      → SpellsStatement (word (codes "steps") ∷ number n ∷ []) names (statement.Steps n) names
  dump : (names : Words) (n : ℕ) → 1 ≤ n → Fits n
      → SpellsStatement (word (codes "dump") ∷ number n ∷ []) names (statement.Dump n) names
  ghost_limit : (names : Words) (n : ℕ) → Fits n
      → SpellsStatement (word (codes "ghost") ∷ number n ∷ []) names (statement.Ghost n) names
  materials : (names : Words) (n : ℕ) → 1 ≤ n → Fits n
      → SpellsStatement (word (codes "materials") ∷ number n ∷ []) names (statement.Materials n) names
  level : (names : Words) (ratio : ℕ) → Fits ratio
      → SpellsStatement (word (codes "level") ∷ word (codes "ratio") ∷ number ratio ∷ []) names (statement.Level ratio) names
  box : (names : Words) (ts : List Lexeme) (c : Corners) → SpellsCorners ts c
      → SpellsStatement (word (codes "box") ∷ ts) names (statement.Box c) names
  patch : (names : Words) (ts : List Lexeme) (c : Corners) → SpellsCorners ts c
      → SpellsStatement (word (codes "patch") ∷ ts) names (statement.Patch c) names
  var : (names : Words) (name : List ℕ) (at : Lexeme) (centring : Centring) (ts : List Lexeme) (outside : ℤ)
      → IsFree name → centring_of at ≡ Some centring → SpellsSigned ts outside
      → SpellsStatement (word (codes "var") ∷ word name ∷ at ∷ word (codes "outside") ∷ ts) names
      (statement.Var (number_of names name) centring outside) (with_name names name)
  fold : (names : Words) (name : List ℕ) (at : Lexeme) (f : Fold) → IsFree name → fold_of at ≡ Some f
      → SpellsStatement (word (codes "reduction") ∷ word name ∷ at ∷ []) names
      (statement.Reduction (number_of names name) f) (with_name names name)
  init : (names : Words) → SpellsStatement (word (codes "init") ∷ []) names statement.Init names
  task : (names : Words) (name : List ℕ) (levels materials : List ℕ) → IsFree name → AreNumbers levels → AreNumbers materials
      → SpellsStatement (word (codes "task") ∷ word name ∷ word (codes "levels") ∷ map number levels ++ (word (codes "materials") ∷ map number materials)) names
      (statement.Task (number_of names name) levels materials) (with_name names name)
  requirement : (names after : Words) (at : Lexeme) (store : Store) (ts : List Lexeme) (w : What)
      → store_of at ≡ Some store → SpellsWhat ts names w after
      → SpellsStatement (word (codes "requires") ∷ at ∷ ts) names (statement.Require store w) after
  writes : (names after : Words) (ts us : List Lexeme) (name : List ℕ) (kind : WriteKind) (e : Expr)
      → SpellsTarget ts name kind → IsFree name → SpellsExpression us (with_name names name) e after
      → SpellsStatement (ts ++ (sign (codes "=") ∷ us)) names (statement.Write kind (number_of names name) e) after
  timestep : (names : Words) → SpellsStatement (word (codes "timestep") ∷ []) names statement.Timestep names
  keep : (names : Words) (name : List ℕ) → IsFree name
      → SpellsStatement (word (codes "keep") ∷ word name ∷ []) names (statement.Keep (number_of names name)) (with_name names name)
  end : (names : Words) → SpellsStatement (word (codes "end") ∷ []) names statement.End names
