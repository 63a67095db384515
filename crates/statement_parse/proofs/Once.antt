-- One statement at most, and what the parser answers.
use Rattle.std.proofs.Common.{◌≡◌, ℕ, List, ◌∷◌, ◌++◌, Option, Some, None, Result, Ok, Err, sym, ap, ◌∙◌, subst, codes}
use Rattle.std.specs.Prelude.{IfOk}
use Rattle.uts_lex.specs.Lexemes.{Lexeme}
use Rattle.uts_lex.specs.Names.{number_of, with_name}
use Rattle.kernel_ast.specs.declared.expression.Expr.{Expr}
use Rattle.kernel_parse.specs.Signs.{sign}
use Rattle.kernel_parse.specs.Grammar.{Words, SpellsExpression}
use Rattle.kernel_parse.specs.Reading.{Gives}
use Rattle.problem_types.specs.declared.problem.WriteKind.{WriteKind}
use Rattle.statement_parse.specs.declared.fault.StatementFault.{StatementFault}
use Rattle.statement_parse.specs.declared.fault.StatementFault.TheVariants as faults
use Rattle.statement_parse.specs.declared.statement.Statement.{Statement}
use Rattle.statement_parse.specs.declared.statement.Statement.TheVariants as statement
use Rattle.statement_parse.specs.Grammar.{SpellsStatement, writes}
use Rattle.statement_parse.specs.Laws.{OneStatement}
use Rattle.statement_parse.specs.Reading.{Stated, stated, statement_at, target_at, IsWritten}
use Rattle.statement_parse.proofs.Found.{statement_some, target_some}
use Rattle.statement_parse.proofs.Again.{Reads, plainly, written, statement_again}

-- tokens are one expression at most
abbrev pub OneExpression : Type 0
OneExpression = (tokens : List Lexeme) (names after other : Words) (e f : Expr)
    → SpellsExpression tokens names e after → SpellsExpression tokens names f other → (e ≡ f) × (after ≡ other)

of_some : {A B : Type 0} (view : A → B) (p q : A) → Some p ≡ Some q → view p ≡ view q
of_some view p q same = let is : p ≡ q = cc in ap view is

-- a write, by what was read of its front
same_write : OneExpression → (names after other : Words) (s t : Statement) (a b : List ℕ × WriteKind × List Lexeme) (e f : Expr) → a ≡ b
    → s ≡ statement.Write a.1 (number_of names a.0) e → SpellsExpression a.2 (with_name names a.0) e after
    → t ≡ statement.Write b.1 (number_of names b.0) f → SpellsExpression b.2 (with_name names b.0) f other → (s ≡ t) × (after ≡ other)
same_write one names after other s t a b e f same is spelled also spells =
    let here : SpellsExpression a.2 (with_name names a.0) f other = subst (λ (x : List ℕ × WriteKind × List Lexeme). SpellsExpression x.2 (with_name names x.0) f other) (sym same) spells in
    let u = one a.2 (with_name names a.0) after other e f spelled here in (
      is ∙ ap (λ (x : Expr). statement.Write a.1 (number_of names a.0) x) u.0
          ∙ ap (λ (x : List ℕ × WriteKind × List Lexeme). statement.Write x.1 (number_of names x.0) f) same ∙ sym also,
      u.1,
    )

reads_once : OneExpression → (ts : List Lexeme) (names after other : Words) (s t : Statement) → Reads ts names s after → Reads ts names t other → (s ≡ t) × (after ≡ other)
reads_once one ts names after other s t (plainly none read) (plainly also reads) =
    let same = sym read ∙ reads in
    (of_some (λ (r : Stated). r.statement) (stated s after) (stated t other) same, of_some (λ (r : Stated). r.names) (stated s after) (stated t other) same)
reads_once one ts names after other s t (plainly none read) (written name kind us e some is spelled) = absurd cc
reads_once one ts names after other s t (written name kind us e some is spelled) (plainly none read) = absurd cc
reads_once one ts names after other s t (written name kind us e some is spelled) (written name' kind' us' f some' is' spells) =
    let same : (name, kind, us) ≡ (name', kind', us') = of_some (λ (x : List ℕ × WriteKind × List Lexeme). x) (name, kind, us) (name', kind', us') (sym some ∙ some') in
    same_write one names after other s t (name, kind, us) (name', kind', us') e f same is spelled is' spells

pub one_at_most : OneExpression → OneStatement
one_at_most one tokens names after other s t first second = reads_once one tokens names after other s t (statement_again first) (statement_again second)

-- ---- what the parser answers

-- what was read as a write is spelled
pub write_spelled : (names after : Words) (ts us : List Lexeme) (name : List ℕ) (kind : WriteKind) (s : Statement)
    → target_at ts ≡ Some (name, kind, us) → IsWritten us names kind name s after → SpellsStatement ts names s after
write_spelled names after ts us name kind s some w =
    let t = target_some ts (name, kind, us) some in
    subst (λ (x : List Lexeme). SpellsStatement x names s after) (sym t.parts)
    (subst (λ (x : Statement). SpellsStatement (t.phrase ++ (sign (codes "=") ∷ us)) names x after) (sym w.is) (writes names after t.phrase us name kind w.expr t.spelled t.free w.spelled))

-- a front of a write, and no expression behind it
no_write : (names after : Words) (ts us : List Lexeme) (name : List ℕ) (kind : WriteKind) (s : Statement)
    → target_at ts ≡ Some (name, kind, us) → ((e : Expr) (after : Words) → SpellsExpression us (with_name names name) e after → ⊥)
    → Reads ts names s after → ⊥
no_write names after ts us name kind s some unread (plainly none read) = absurd cc
no_write names after ts us name kind s some unread (written name' kind' us' e some' is spelled) =
    let same : (name', kind', us') ≡ (name, kind, us) = of_some (λ (x : List ℕ × WriteKind × List Lexeme). x) (name', kind', us') (name, kind, us) (sym some' ∙ some) in
    unread e after (subst (λ (x : List ℕ × WriteKind × List Lexeme). SpellsExpression x.2 (with_name names x.0) e after) same spelled)

pub write_refused : (names : Words) (ts us : List Lexeme) (name : List ℕ) (kind : WriteKind)
    → target_at ts ≡ Some (name, kind, us) → ((e : Expr) (after : Words) → SpellsExpression us (with_name names name) e after → ⊥)
    → (s : Statement) (after : Words) → SpellsStatement ts names s after → ⊥
write_refused names ts us name kind some unread s after spelled = no_write names after ts us name kind s some unread (statement_again spelled)

not_read : (names after : Words) (ts : List Lexeme) (s : Statement) → target_at ts ≡ None → statement_at names ts ≡ None → Reads ts names s after → ⊥
not_read names after ts s none nothing (plainly also read) = absurd cc
not_read names after ts s none nothing (written name kind us e some is spelled) = absurd cc

pub refused : (names : Words) (ts : List Lexeme) → target_at ts ≡ None → statement_at names ts ≡ None
    → (s : Statement) (after : Words) → SpellsStatement ts names s after → ⊥
refused names ts none nothing s after spelled = not_read names after ts s none nothing (statement_again spelled)

pub spelled_plainly : (names after : Words) (ts : List Lexeme) (s : Statement) → statement_at names ts ≡ Some (stated s after) → SpellsStatement ts names s after
spelled_plainly names after ts s read = statement_some names ts (stated s after) read

-- ---- by what a function answers

pub write_found : (names after : Words) (ts us : List Lexeme) (name : List ℕ) (kind : WriteKind) (r : Result Statement StatementFault)
    → target_at ts ≡ Some (name, kind, us) → IfOk r (λ s. IsWritten us names kind name s after) → IfOk r (λ s. SpellsStatement ts names s after)
write_found names after ts us name kind (Ok s) some w = write_spelled names after ts us name kind s some w
write_found names after ts us name kind (Err fault) some w = tt

pub found : (names after : Words) (ts : List Lexeme) (r : Result Statement StatementFault) → Gives faults.NoMemory (λ s. stated s after) r (statement_at names ts)
    → IfOk r (λ s. SpellsStatement ts names s after)
found names after ts (Ok s) gives = spelled_plainly names after ts s gives
found names after ts (Err fault) gives = tt

none_given : {X Y : Type 0} (view : X → Y) (read : Option Y) (r : Result X StatementFault) → Gives faults.NoMemory view r read → r ≡ Err faults.BadStatement → read ≡ None
none_given view read (Ok x) gives is = absurd cc
none_given view read (Err faults.BadStatement) gives is = gives (λ memory. absurd cc)
none_given view read (Err faults.NoMemory) gives is = absurd cc

pub not_found : (names after : Words) (ts : List Lexeme) (r : Result Statement StatementFault) → target_at ts ≡ None
    → Gives faults.NoMemory (λ s. stated s after) r (statement_at names ts) → r ≡ Err faults.BadStatement
    → (s : Statement) (after : Words) → SpellsStatement ts names s after → ⊥
not_found names after ts r none gives is = refused names ts none (none_given (λ s. stated s after) (statement_at names ts) r gives is)
