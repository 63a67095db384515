-- What is spelled is read.
use Rattle.std.proofs.Common.{◌≡◌, ℕ, ◌≤◌, Bool, true, false, List, [], ◌∷◌, ◌++◌, Some, None, map, refl, sym, ◌∙◌, subst, codes, ℤ, arith}
use Rattle.std.specs.Prelude.{◌||◌, nat_le}
use Rattle.std.specs.Str.{bytes_eq}
use Rattle.std.proofs.lemmas.List.{append-nil}
use Rattle.std.proofs.lemmas.Bool.Decides.{nat_tests}
use Rattle.uts_lex.specs.Lexemes.{Lexeme}
use Rattle.uts_lex.specs.Names.{number_of, with_name}
use Rattle.kernel_ast.specs.declared.expression.Expr.{Expr}
use Rattle.kernel_parse.specs.Signs.{word, number, sign, is_word}
use Rattle.kernel_parse.specs.Grammar.{Words, SpellsSigned, SpellsExpression}
use Rattle.kernel_parse.specs.Reading.{signed_at}
use Rattle.kernel_parse.specs.Signed.{signed_again}
use Rattle.kernel_parse.specs.Numbers.{is_number-decimal, digits_value-decimal}
use Rattle.problem_types.specs.declared.problem.Ghost.{Ghost}
use Rattle.problem_types.specs.declared.problem.GhostKind.{GhostKind}
use Rattle.problem_types.specs.declared.problem.What.{What}
use Rattle.problem_types.specs.declared.problem.What.TheVariants as what
use Rattle.problem_types.specs.declared.problem.WriteKind.{WriteKind}
use Rattle.statement_parse.specs.declared.statement.Corners.{Corners}
use Rattle.statement_parse.specs.declared.statement.Statement.{Statement}
use Rattle.statement_parse.specs.declared.statement.Statement.TheVariants as statement
use Rattle.statement_parse.specs.Tables.{ghosts_words}
use Rattle.statement_parse.specs.Grammar.{Fits, IsFree, AreNumbers, SpellsCorners, corners, SpellsLayers, no_layers, layers, SpellsWhat, same_level, coarser, finer, reduction, SpellsTarget, computes, modifies, reduces, SpellsStatement, version, steps, dump, ghost_limit, materials, level, box, patch, var, fold, init, task, requirement, writes, timestep, keep, end}
use Rattle.statement_parse.specs.Reading.{stated, number_at, some_number_at, corner_at, corners_at, list_at, last_list_at, version_at, ratio_at, unnamed_at, name_at, var_parts_at, var_at, fold_parts_at, fold_at, keep_at, task_at, layers_at, layered_at, coarse_at, fine_at, own_at, what_at, requirement_at, said_at, statement_at, target_at}
use Rattle.uts_lex.specs.declared.token.Kind.TheVariants.{Word}
use Rattle.kernel_parse.specs.Tables.{meaning_case}
use Rattle.statement_parse.proofs.Lists.{list_again}

-- ---- pieces

number_again : (n : ℕ) → Fits n → number_at (number n ∷ []) ≡ Some n
unfolding number_at
number_again n small = rw (is_number-decimal n small, digits_value-decimal n small) refl

some_number_again : (n : ℕ) → Fits n → 1 ≤ n → some_number_at (number n ∷ []) ≡ Some n
unfolding some_number_at
some_number_again n small some =
    let test : nat_le 1 n ≡ true = grind (arith, nat_tests) in
    rw (number_again n small, test) refl

name_again : (name : List ℕ) → IsFree name → name_at (word name ∷ []) ≡ Some name
unfolding name_at
name_again name free = rw free refl

more_than_a_name : (name : List ℕ) (t : Lexeme) (ts : List Lexeme) → IsFree name → name_at (word name ∷ t ∷ ts) ≡ None
unfolding name_at
more_than_a_name name t ts free = rw free refl

corner_again : (a b c : ℕ) → Fits a → Fits b → Fits c → (rest : List Lexeme) → corner_at (number a ∷ number b ∷ number c ∷ rest) ≡ Some (a ∷ b ∷ c ∷ [], rest)
unfolding corner_at
corner_again a b c fa fb fc rest =
    rw (is_number-decimal a fa, digits_value-decimal a fa, is_number-decimal b fb, digits_value-decimal b fb, is_number-decimal c fc, digits_value-decimal c fc) refl

corners_again : {ts : List Lexeme} {c : Corners} → SpellsCorners ts c → corners_at ts ≡ Some c
unfolding corners_at
corners_again (corners a b c d e f fa fb fc fd fe ff) =
    rw (corner_again a b c fa fb fc (number d ∷ number e ∷ number f ∷ []), corner_again d e f fd fe ff []) refl

layers_again : {ts : List Lexeme} {g : Ghost} → SpellsLayers ts g → layers_at ts ≡ Some g
unfolding layers_at
layers_again no_layers = refl
layers_again (layers at kind n is some small) =
    let not_none : is_word (codes "none") at ≡ false =
    meaning_case Word (λ (t : Lexeme) (k : GhostKind). is_word (codes "none") t ≡ false) ghosts_words at kind is (refl, (refl, (refl, (refl, (refl, tt))))) in
    rw (not_none, is, some_number_again n small some) refl

layered_again : (name : List ℕ) (ts : List Lexeme) (g : Ghost) → IsFree name → SpellsLayers ts g → layered_at (word name ∷ ts) ≡ Some (name, g)
unfolding layered_at
layered_again name ts g free s = rw (free, layers_again s) refl

layers_begin : {ts : List Lexeme} {g : Ghost} → SpellsLayers ts g → (t : Lexeme) × (us : List Lexeme) × (ts ≡ t ∷ us)
layers_begin no_layers = (_, _, refl)
layers_begin (layers at kind n is some small) = (at, number n ∷ [], refl)

-- ---- requirements

neither : (a b : Bool) → (a || b) ≡ false → (a ≡ false) × (b ≡ false)
neither true b e = absurd cc
neither false b e = (refl, e)

own_number : (names : Words) (name : List ℕ) → IsFree name → own_at names (word name ∷ []) ≡ Some (what.Number (number_of names name), with_name names name)
unfolding own_at
own_number names name free = rw (name_again name free) refl

own_layered : (names : Words) (name : List ℕ) (ts : List Lexeme) (g : Ghost) → IsFree name → SpellsLayers ts g
    → own_at names (word name ∷ ts) ≡ Some (what.Same (number_of names name) g, with_name names name)
unfolding own_at
own_layered names name ts g free s =
    let b = layers_begin s in
    let none : name_at (word name ∷ ts) ≡ None = subst (λ (w : List Lexeme). name_at (word name ∷ w) ≡ None) (sym b.2) (more_than_a_name name b.0 b.1 free) in
    rw (none, layered_again name ts g free s) refl

own_what : (names : Words) (name : List ℕ) (ts : List Lexeme) → IsFree name → what_at names (word name ∷ ts) ≡ own_at names (word name ∷ ts)
unfolding what_at
own_what names name ts free =
    let a = neither _ _ free in
    let b = neither _ _ a.1 in
    let not_coarse : bytes_eq name (codes "coarse") ≡ false = a.0 in
    let not_fine : bytes_eq name (codes "fine") ≡ false = b.0 in
    rw (not_coarse, not_fine) refl

what_again : {ts : List Lexeme} {names : Words} {w : What} {after : Words} → SpellsWhat ts names w after → what_at names ts ≡ Some (w, after)
unfolding what_at coarse_at fine_at
what_again (same_level names name ts g free s) = own_what names name ts free ∙ own_layered names name ts g free s
what_again (coarser names name ts g free s) = rw (layered_again name ts g free s) refl
what_again (finer names name free) = rw (name_again name free) refl
what_again (reduction names name free) = own_what names name [] free ∙ own_number names name free

-- ---- writes

target_again : {ts : List Lexeme} {name : List ℕ} {kind : WriteKind} → SpellsTarget ts name kind → IsFree name → (us : List Lexeme)
    → target_at (ts ++ (sign (codes "=") ∷ us)) ≡ Some (name, kind, us)
unfolding target_at
target_again (computes name) free us = rw free refl
target_again (modifies name) free us = rw free refl
target_again (reduces name at centring is) free us = rw (free, is) refl

-- ---- statements

var_again : (names : Words) (name : List ℕ) (at : Lexeme) (ts : List Lexeme) (outside : ℤ) → SpellsSigned ts outside → signed_at ts ≡ Some (outside, [])
var_again names name at ts outside s = subst (λ (w : List Lexeme). signed_at w ≡ Some (outside, [])) (append-nil ts) (signed_again s [])

last_list_again : (xs : List ℕ) → AreNumbers xs → last_list_at (map number xs) ≡ Some xs
unfolding last_list_at
last_list_again xs are =
    let alone = subst (λ (w : List Lexeme). list_at w ≡ Some (xs, [])) (append-nil (map number xs)) (list_again xs [] are refl) in
    rw alone refl

-- how a statement is read
pub data Reads (ts : List Lexeme) (names : Words) (s : Statement) (after : Words) : Type 0 where
  plainly : target_at ts ≡ None → statement_at names ts ≡ Some (stated s after) → Reads ts names s after
  written : (name : List ℕ) (kind : WriteKind) (us : List Lexeme) (e : Expr) → target_at ts ≡ Some (name, kind, us)
      → s ≡ statement.Write kind (number_of names name) e → SpellsExpression us (with_name names name) e after → Reads ts names s after

pub statement_again : {ts : List Lexeme} {names : Words} {s : Statement} {after : Words} → SpellsStatement ts names s after → Reads ts names s after
unfolding statement_at said_at unnamed_at version_at ratio_at target_at var_at var_parts_at fold_at fold_parts_at keep_at task_at requirement_at
statement_again (version names) = plainly refl (rw (number_again 1 (omega arith)) refl)
statement_again (steps names n small) = plainly refl (rw (number_again n small) refl)
statement_again (dump names n some small) = plainly refl (rw (some_number_again n small some) refl)
statement_again (ghost_limit names n small) = plainly refl (rw (number_again n small) refl)
statement_again (materials names n some small) = plainly refl (rw (some_number_again n small some) refl)
statement_again (level names ratio small) = plainly refl (rw (number_again ratio small) refl)
statement_again (box names ts c s) = plainly refl (rw (corners_again s) refl)
statement_again (patch names ts c s) = plainly refl (rw (corners_again s) refl)
statement_again (var names name at centring ts outside free is s) = plainly refl (rw (free, is, var_again names name at ts outside s) refl)
statement_again (fold names name at f free is) = plainly refl (rw (free, is) refl)
statement_again (init names) = plainly refl refl
statement_again (task names name levels numbers free l m) =
    plainly refl (rw (free, list_again levels (word (codes "materials") ∷ map number numbers) l refl, last_list_again numbers m) refl)
statement_again (requirement names after at store ts w is s) = plainly refl (rw (is, what_again s) refl)
statement_again (writes names after ts us name kind e t free s) = written name kind us e (target_again t free us) refl s
statement_again (timestep names) = plainly refl refl
statement_again (keep names name free) = plainly refl (rw (name_again name free) refl)
statement_again (end names) = plainly refl refl
