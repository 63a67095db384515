-- Words that have a meaning in a statement.
use Rattle.std.specs.Prelude.{ℕ, List, [], ◌∷◌, Option, codes}
use Rattle.uts_lex.specs.Lexemes.{Lexeme}
use Rattle.kernel_parse.specs.Signs.{meaning_in}
use Rattle.uts_geom.specs.declared.centring.Centring.{Centring}
use Rattle.uts_geom.specs.declared.centring.Centring.TheVariants as centring
use Rattle.statement_parse.specs.declared.statement.StatementKind.{StatementKind}
use Rattle.statement_parse.specs.declared.statement.StatementKind.TheVariants as kind
use Rattle.problem_types.specs.declared.problem.Fold.{Fold}
use Rattle.problem_types.specs.declared.problem.Fold.TheVariants as fold
use Rattle.problem_types.specs.declared.problem.GhostKind.{GhostKind}
use Rattle.problem_types.specs.declared.problem.GhostKind.TheVariants as ghosts
use Rattle.problem_types.specs.declared.problem.WriteKind.{WriteKind}
use Rattle.problem_types.specs.declared.problem.WriteKind.TheVariants as write

-- the first word of each statement that does not write
abbrev pub statement_words : List (List ℕ × StatementKind)
statement_words =
    (codes "problem", kind.Version)
    ∷ (codes "steps", kind.Steps)
    ∷ (codes "dump", kind.Dump)
    ∷ (codes "ghost", kind.Ghost)
    ∷ (codes "materials", kind.Materials)
    ∷ (codes "level", kind.Level)
    ∷ (codes "box", kind.Box)
    ∷ (codes "patch", kind.Patch)
    ∷ (codes "var", kind.Var)
    ∷ (codes "reduction", kind.Reduction)
    ∷ (codes "init", kind.Init)
    ∷ (codes "task", kind.Task)
    ∷ (codes "requires", kind.Require)
    ∷ (codes "timestep", kind.Timestep)
    ∷ (codes "keep", kind.Keep)
    ∷ (codes "end", kind.End)
    ∷ []

abbrev pub statement_kind_of : Lexeme → Option StatementKind
statement_kind_of token = meaning_in statement_words token

abbrev pub centring_words : List (List ℕ × Centring)
centring_words =
    (codes "cell", centring.Cell)
    ∷ (codes "node", centring.Node)
    ∷ (codes "facex", centring.FaceX)
    ∷ (codes "facey", centring.FaceY)
    ∷ (codes "facez", centring.FaceZ)
    ∷ []

abbrev pub centring_of : Lexeme → Option Centring
centring_of token = meaning_in centring_words token

abbrev pub fold_words : List (List ℕ × Fold)
fold_words = (codes "sum", fold.Sum) ∷ (codes "min", fold.Min) ∷ (codes "max", fold.Max) ∷ []

abbrev pub fold_of : Lexeme → Option Fold
fold_of token = meaning_in fold_words token

-- around what layers lie
abbrev pub ghosts_words : List (List ℕ × GhostKind)
ghosts_words =
    (codes "cells", ghosts.Cells)
    ∷ (codes "nodes", ghosts.Nodes)
    ∷ (codes "facex", ghosts.FaceX)
    ∷ (codes "facey", ghosts.FaceY)
    ∷ (codes "facez", ghosts.FaceZ)
    ∷ []

abbrev pub ghosts_of : Lexeme → Option GhostKind
ghosts_of token = meaning_in ghosts_words token

-- what is written to a name alone
abbrev pub write_words : List (List ℕ × WriteKind)
write_words = (codes "computes", write.Computes) ∷ (codes "modifies", write.Modifies) ∷ []

abbrev pub write_of : Lexeme → Option WriteKind
write_of token = meaning_in write_words token
