-- Statements that are spelled keep the words before them, and are in form.
use Rattle.std.proofs.Common.{◌≡◌, ℕ, ◌+◌, ◌<◌, ◌≤◌, ◌^◌, List, ◌∷◌, ◌++◌, Some, length, map, refl, ap, ◌∙◌, arith, codes}
use Rattle.std.proofs.lemmas.List.{length-append, length-map}
use Rattle.uts_lex.specs.Lexemes.{Lexeme}
use Rattle.uts_lex.specs.Names.{number_of, with_name}
use Rattle.uts_lex.specs.NameNumbers.{number_below}
use Rattle.kernel_ast.specs.declared.expression.Expr.{Expr}
use Rattle.kernel_ast.specs.Form.{IsExpressionInForm}
use Rattle.kernel_parse.specs.Signs.{sign, number, word}
use Rattle.kernel_parse.specs.Grammar.{Words, SpellsExpression}
use Rattle.kernel_parse.specs.Source.{Extends}
use Rattle.kernel_parse.specs.SourceLaws.{Extends_refl, Extends_trans, Extends_with_name, length_with_name}
use Rattle.problem_types.specs.Form.{IsNumberList, IsLayerNumber, AreLayersInForm, IsWhatInForm}
use Rattle.problem_types.specs.declared.problem.Ghost.{Ghost}
use Rattle.problem_types.specs.declared.problem.GhostKind.{GhostKind}
use Rattle.problem_types.specs.declared.problem.What.{What}
use Rattle.problem_types.specs.declared.problem.WriteKind.{WriteKind}
use Rattle.statement_parse.specs.declared.statement.Statement.{Statement}
use Rattle.statement_parse.specs.Tables.{ghosts_words, ghosts_of}
use Rattle.statement_parse.specs.Form.{IsStatementInForm}
use Rattle.statement_parse.specs.Laws.{FewNewNames, StatementsAreInForm}
use Rattle.statement_parse.specs.Grammar.{AreNumbers, SpellsLayers, no_layers, layers, SpellsWhat, same_level, coarser, finer, reduction, SpellsTarget, computes, modifies, reduces, SpellsStatement, version, steps, dump, ghost_limit, materials, level, box, patch, var, fold, init, task, requirement, writes, timestep, keep, end}
use Rattle.uts_lex.specs.declared.token.Kind.TheVariants.{Word}
use Rattle.kernel_parse.specs.Tables.{meaning_case}

-- ---- the words behind

abbrev pub FewNewWords : Type 0
FewNewWords = (tokens : List Lexeme) (names after : Words) (e : Expr) → SpellsExpression tokens names e after
    → Extends names after × (length after ≤ length names + length tokens)

-- the words before stay, and no more than so many are new
abbrev Keeps : Words → ℕ → Words → Type 0
Keeps names tokens after = Extends names after × (length after ≤ length names + tokens) × (1 ≤ tokens)

keeps_none : (names : Words) (tokens : ℕ) → 1 ≤ tokens → Keeps names tokens names
keeps_none names tokens some = (Extends_refl names, omega arith, some)

keeps_name : (names : Words) (name : List ℕ) (tokens : ℕ) → 1 ≤ tokens → Keeps names tokens (with_name names name)
keeps_name names name tokens some = (Extends_with_name names name, omega (arith, length_with_name names name), some)

what_keeps : {ts : List Lexeme} {names : Words} {w : What} {after : Words} → SpellsWhat ts names w after → Keeps names (length ts) after
what_keeps (same_level names name ts g free s) = keeps_name names name _ (omega arith)
what_keeps (coarser names name ts g free s) = keeps_name names name _ (omega arith)
what_keeps (finer names name free) = keeps_name names name _ (omega arith)
what_keeps (reduction names name free) = keeps_name names name _ (omega arith)

keeps_more : (names after : Words) (a tokens : ℕ) → Keeps names a after → a ≤ tokens → Keeps names tokens after
keeps_more names after a tokens f le = (f.0, omega (arith, f.1), omega (arith, f.2))

target_some : {ts : List Lexeme} {name : List ℕ} {kind : WriteKind} → SpellsTarget ts name kind → 1 ≤ length ts
target_some (computes name) = omega arith
target_some (modifies name) = omega arith
target_some (reduces name at centring is) = omega arith

write_keeps : FewNewWords → (ts us : List Lexeme) (names after : Words) (name : List ℕ) (e : Expr) → 1 ≤ length ts → SpellsExpression us (with_name names name) e after
    → Keeps names (length (ts ++ (sign (codes "=") ∷ us))) after
write_keeps few ts us names after name e some s =
    let f = few us (with_name names name) after e s in
    let longer : length (ts ++ (sign (codes "=") ∷ us)) ≡ length ts + (length us + 1) = simp length-append (omega arith) in
    (Extends_trans names (with_name names name) after (Extends_with_name names name) f.0, omega (arith, f.1, length_with_name names name, longer), omega (arith, longer))

keeps : FewNewWords → {ts : List Lexeme} {names : Words} {s : Statement} {after : Words} → SpellsStatement ts names s after → Keeps names (length ts) after
keeps few (version names) = keeps_none names _ (omega arith)
keeps few (steps names n small) = keeps_none names _ (omega arith)
keeps few (dump names n some small) = keeps_none names _ (omega arith)
keeps few (ghost_limit names n small) = keeps_none names _ (omega arith)
keeps few (materials names n some small) = keeps_none names _ (omega arith)
keeps few (level names ratio small) = keeps_none names _ (omega arith)
keeps few (box names ts c s) = keeps_none names _ (omega arith)
keeps few (patch names ts c s) = keeps_none names _ (omega arith)
keeps few (var names name at centring ts outside free is s) = keeps_name names name _ (omega arith)
keeps few (fold names name at f free is) = keeps_name names name _ (omega arith)
keeps few (init names) = keeps_none names _ (omega arith)
keeps few (task names name levels numbers free l m) = keeps_name names name _ (omega arith)
keeps few (requirement names after at store ts w is s) = keeps_more names after (length ts) _ (what_keeps s) (omega arith)
keeps few (writes names after ts us name kind e t free s) = write_keeps few ts us names after name e (target_some t) s
keeps few (timestep names) = keeps_none names _ (omega arith)
keeps few (keep names name free) = keeps_name names name _ (omega arith)
keeps few (end names) = keeps_none names _ (omega arith)

pub names_kept : FewNewWords → FewNewNames
names_kept few tokens names after s spelled = keeps few spelled

-- ---- form

abbrev pub SpelledInForm : Type 0
SpelledInForm = (tokens : List Lexeme) (names after : Words) (e : Expr) (known : ℕ)
    → SpellsExpression tokens names e after → length after ≤ known → IsExpressionInForm known e

below : (names : Words) (name : List ℕ) (known : ℕ) → length (with_name names name) ≤ known → number_of names name < known
below names name known le = let h = (number_below names name).0 in omega arith

ghosts_number : (n : ℕ) (kind : GhostKind) (at : Lexeme) → ghosts_of at ≡ Some kind → 1 ≤ n → IsLayerNumber n kind
ghosts_number n kind at is some = meaning_case Word (λ (t : Lexeme) (k : GhostKind). IsLayerNumber n k) ghosts_words at kind is (some, (some, (some, (some, (some, tt)))))

layers_in_form : {ts : List Lexeme} {g : Ghost} → SpellsLayers ts g → AreLayersInForm g
layers_in_form no_layers = refl
layers_in_form (layers at kind n is some small) = ghosts_number n kind at is some

what_in_form : {ts : List Lexeme} {names : Words} {w : What} {after : Words} (known : ℕ) → SpellsWhat ts names w after → length after ≤ known → IsWhatInForm known w
what_in_form known (same_level names name ts g free s) le = (below names name known le, layers_in_form s)
what_in_form known (coarser names name ts g free s) le = (below names name known le, layers_in_form s)
what_in_form known (finer names name free) le = below names name known le
what_in_form known (reduction names name free) le = below names name known le

list_in_form : (xs : List ℕ) → AreNumbers xs → length xs < 2 ^ 31 → IsNumberList xs
list_in_form xs are few = record { some = are.some; few = few; ascending = are.ascending }

in_form : SpelledInForm → FewNewWords → {ts : List Lexeme} {names : Words} {s : Statement} {after : Words} (known : ℕ) → SpellsStatement ts names s after
    → length after ≤ known → length ts < 2 ^ 31 → IsStatementInForm known s
in_form form few known (version names) le short = refl
in_form form few known (steps names n small) le short = tt
in_form form few known (dump names n some small) le short = some
in_form form few known (ghost_limit names n small) le short = tt
in_form form few known (materials names n some small) le short = some
in_form form few known (level names ratio small) le short = tt
in_form form few known (box names ts c s) le short = tt
in_form form few known (patch names ts c s) le short = tt
in_form form few known (var names name at centring ts outside free is s) le short = below names name known le
in_form form few known (fold names name at f free is) le short = below names name known le
in_form form few known (init names) le short = tt
in_form form few known (task names name levels numbers free l m) le short =
    let front : length (map number levels) ≡ length levels = simp length-map in
    let back : length (map number numbers) ≡ length numbers = simp length-map in
    let whole = length-append (map number levels) (word (codes "materials") ∷ map number numbers) in
    (below names name known le, list_in_form levels l (omega (arith, front, back, whole)), list_in_form numbers m (omega (arith, front, back, whole)))
in_form form few known (requirement names after at store ts w is s) le short = what_in_form known s le
in_form form few known (writes names after ts us name kind e t free s) le short =
    let f = few us (with_name names name) after e s in
    let h = number_below names name in
    let more = f.0.more in
    let kept : length after ≡ length (with_name names name) + length more = ap length f.0.words ∙ length-append (with_name names name) more in
    (omega (arith, kept), form us (with_name names name) after e known s le)
in_form form few known (timestep names) le short = tt
in_form form few known (keep names name free) le short = below names name known le
in_form form few known (end names) le short = tt

pub statements_in_form : SpelledInForm → FewNewWords → StatementsAreInForm
statements_in_form form few tokens names after s known spelled le short = in_form form few known spelled le short
