-- A statement that well spelled tokens spell: how the names grow by it, and that its numbers can be spelled.
use Rattle.std.proofs.Common.{ℕ, ◌≤◌, List, [], ◌∷◌, ◌++◌, codes, map, refl, length, arith}
use Rattle.std.proofs.lemmas.List.Elements.{All-nil, All-cons}
use Rattle.uts_lex.specs.Lexemes.{Lexeme}
use Rattle.uts_lex.specs.Names.{number_of, with_name}
use Rattle.kernel_ast.specs.Form.{IsExpressionInForm}
use Rattle.kernel_ast.specs.declared.expression.Expr.{Expr}
use Rattle.kernel_parse.specs.Signs.{word, number, sign}
use Rattle.kernel_parse.specs.Grammar.{Words, SpellsExpression}
use Rattle.problem_types.specs.Form.{AreLayersInForm}
use Rattle.problem_types.specs.declared.problem.Ghost.{Ghost}
use Rattle.problem_types.specs.declared.problem.What.{What}
use Rattle.problem_types.specs.declared.problem.WriteKind.{WriteKind}
use Rattle.statement_parse.specs.Grammar.{Fits, SpellsCorners, corners, SpellsLayers, no_layers, layers, SpellsWhat, same_level, coarser, finer, reduction, SpellsTarget, computes, modifies, reduces, SpellsStatement, version, steps, dump, ghost_limit, materials, level, box, patch, var, fold, init, task, requirement, writes, timestep, keep, end, IsFree}
use Rattle.statement_parse.specs.Tables.{ghosts_words}
use Rattle.statement_parse.specs.declared.statement.Corners.{Corners}
use Rattle.statement_parse.specs.declared.statement.Statement.{Statement}
use Rattle.problem_printable.specs.Numbering.{what_names, statement_names}
use Rattle.problem_printable.specs.Printable.{IsCorner, AreCorners, AreLayers, IsWhat, IsSayable}
use Rattle.problem_printable.proofs.Meanings.{meaning_case}
use Rattle.problem_printable.proofs.Naming.{Grows, grows_none, grows_both}
use Rattle.problem_printable.proofs.SpelledNames.{AreSpelled, behind_first, before, behind, named, expression_named}
use Rattle.problem_printable.proofs.SpelledNumbers.{signed_in_range, numbers_fit}

-- ---- names

what_named : {ts : List Lexeme} {names : Words} {w : What} {after : Words} → SpellsWhat ts names w after → AreSpelled ts
    → Grows names (what_names w) after
what_named (same_level names name ts g free spelled) h = named names name ts free h
what_named (coarser names name ts g free spelled) h =
    named names name ts free (behind_first (word (codes "coarse")) (word name ∷ ts) h)
what_named (finer names name free) h = named names name [] free (behind_first (word (codes "fine")) (word name ∷ []) h)
what_named (reduction names name free) h = named names name [] free h

-- the name of a line that writes
target_named : {ts : List Lexeme} {name : List ℕ} {kind : WriteKind} → SpellsTarget ts name kind → (names : Words) → IsFree name → AreSpelled ts
    → Grows names (number_of names name ∷ []) (with_name names name)
target_named (computes name) names free h =
    named names name [] free (behind_first (word (codes "computes")) (word name ∷ []) h)
target_named (modifies name) names free h =
    named names name [] free (behind_first (word (codes "modifies")) (word name ∷ []) h)
target_named (reduces name at centring is) names free h =
    named names name (at ∷ []) free (behind_first (word (codes "reduces")) (word name ∷ at ∷ []) h)

pub statement_named : {ts : List Lexeme} {names : Words} {s : Statement} {after : Words} → SpellsStatement ts names s after → AreSpelled ts
    → Grows names (statement_names s) after
statement_named (version names) h = grows_none names
statement_named (steps names n fits) h = grows_none names
statement_named (dump names n some fits) h = grows_none names
statement_named (ghost_limit names n fits) h = grows_none names
statement_named (materials names n some fits) h = grows_none names
statement_named (level names ratio fits) h = grows_none names
statement_named (box names ts c spelled) h = grows_none names
statement_named (patch names ts c spelled) h = grows_none names
statement_named (var names name at centring ts outside free is spelled) h =
    named names name (at ∷ word (codes "outside") ∷ ts) free (behind_first (word (codes "var")) (word name ∷ at ∷ word (codes "outside") ∷ ts) h)
statement_named (fold names name at f free is) h =
    named names name (at ∷ []) free (behind_first (word (codes "reduction")) (word name ∷ at ∷ []) h)
statement_named (init names) h = grows_none names
statement_named (task names name on of free a b) h =
    let rest = word (codes "levels") ∷ map number on ++ (word (codes "materials") ∷ map number of) in
    named names name rest free (behind_first (word (codes "task")) (word name ∷ rest) h)
statement_named (requirement names after at store ts w is spelled) h =
    what_named spelled (behind_first at ts (behind_first (word (codes "requires")) (at ∷ ts) h))
statement_named (writes names after ts us name kind e target free spelled) h =
    grows_both _ _ _ _ _ (target_named target names free (before ts us (sign (codes "=")) h))
    (expression_named spelled (behind ts us (sign (codes "=")) h))
statement_named (timestep names) h = grows_none names
statement_named (keep names name free) h = named names name [] free (behind_first (word (codes "keep")) (word name ∷ []) h)
statement_named (end names) h = grows_none names

-- ---- numbers

corner_fits : (a b c : ℕ) → Fits a → Fits b → Fits c → IsCorner (a ∷ b ∷ c ∷ [])
corner_fits a b c p q r = record {
  axes = refl;
  fit = All-cons Fits a (b ∷ c ∷ []) p (All-cons Fits b (c ∷ []) q (All-cons Fits c [] r (All-nil Fits)));
}

corners_fit : {ts : List Lexeme} {c : Corners} → SpellsCorners ts c → AreCorners c
corners_fit (corners a b c d e f p q r s t u) = (corner_fits a b c p q r, corner_fits d e f s t u)

layers_fit : {ts : List Lexeme} {g : Ghost} → SpellsLayers ts g → AreLayers g
layers_fit no_layers = (refl, omega arith)
layers_fit (layers at kind n is some fits) =
    (meaning_case (λ kind. AreLayersInForm (record { kind = kind; n = n })) ghosts_words at kind is (some, (some, (some, (some, (some, tt))))), fits)

what_fits : {ts : List Lexeme} {names : Words} {w : What} {after : Words} → SpellsWhat ts names w after → IsWhat w
what_fits (same_level names name ts g free spelled) = layers_fit spelled
what_fits (coarser names name ts g free spelled) = layers_fit spelled
what_fits (finer names name free) = tt
what_fits (reduction names name free) = tt

-- an expression that is spelled is in form, over each number of names from those then named on
abbrev pub SpelledInForm : Type 0
SpelledInForm = (tokens : List Lexeme) (names after : Words) (e : Expr) (known : ℕ)
    → SpellsExpression tokens names e after → length after ≤ known → IsExpressionInForm known e

pub statement_sayable : SpelledInForm → {ts : List Lexeme} {names : Words} {s : Statement} {after : Words} → SpellsStatement ts names s after
    → (known : ℕ) → length after ≤ known → IsSayable known s
statement_sayable law (version names) known le = refl
statement_sayable law (steps names n fits) known le = fits
statement_sayable law (dump names n some fits) known le = (some, fits)
statement_sayable law (ghost_limit names n fits) known le = fits
statement_sayable law (materials names n some fits) known le = (some, fits)
statement_sayable law (level names ratio fits) known le = fits
statement_sayable law (box names ts c spelled) known le = corners_fit spelled
statement_sayable law (patch names ts c spelled) known le = corners_fit spelled
statement_sayable law (var names name at centring ts outside free is spelled) known le = signed_in_range spelled
statement_sayable law (fold names name at f free is) known le = tt
statement_sayable law (init names) known le = tt
statement_sayable law (task names name on of free a b) known le = (a, b)
statement_sayable law (requirement names after at store ts w is spelled) known le = what_fits spelled
statement_sayable law (writes names after ts us name kind e target free spelled) known le =
    (law us (with_name names name) after e known spelled le, numbers_fit spelled)
statement_sayable law (timestep names) known le = tt
statement_sayable law (keep names name free) known le = tt
statement_sayable law (end names) known le = tt
