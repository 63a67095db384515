-- Names that stand for a variable or a reduction, requirements that repeat, and levels that are not there.
use Rattle.std.specs.Prelude.{◌≡◌, ℕ, ◌+◌, ◌≤◌, List, All, Any, Contains, IsTrue}
use Rattle.std.specs.Option.{is_some}
use Rattle.kernel_ast.specs.declared.expression.Expr.{Expr}
use Rattle.problem_types.specs.Lists.{variable_named, reduction_named}
use Rattle.problem_types.specs.declared.problem.Problem.{Problem}
use Rattle.problem_types.specs.declared.problem.Require.{Require}
use Rattle.problem_types.specs.declared.problem.What.{What}
use Rattle.problem_types.specs.declared.problem.What.TheVariants as what
use Rattle.problem_types.specs.declared.problem.Write.{Write}
use Rattle.problem_types.specs.declared.problem.WriteKind.{WriteKind}
use Rattle.problem_types.specs.declared.problem.WriteKind.TheVariants as kind
use Rattle.task_rules.specs.Reads.{reads_of, numbers_of}
use Rattle.task_rules.specs.Lines.{wanted_name}

-- the name is declared as a variable, and as a reduction
abbrev pub IsVariable : Problem → ℕ → Type 0
IsVariable p name = IsTrue (is_some (variable_named p name))

abbrev pub IsReduction : Problem → ℕ → Type 0
IsReduction p name = IsTrue (is_some (reduction_named p name))

-- what is required is declared as what it is required as
abbrev pub IsKnown : Problem → What → Type 0
IsKnown p (what.Same var layers) = IsVariable p var
IsKnown p (what.Coarse var layers) = IsVariable p var
IsKnown p (what.Fine var) = IsVariable p var
IsKnown p (what.Number name) = IsReduction p name

-- what is written is declared as what it is written as
abbrev pub IsKnownAs : Problem → ℕ → WriteKind → Type 0
IsKnownAs p name kind.Computes = IsVariable p name
IsKnownAs p name kind.Modifies = IsVariable p name
IsKnownAs p name (kind.Reduces c) = IsReduction p name

-- an expression reads declared variables and declared reductions
abbrev pub AreReadsKnown : Problem → Expr → Type 0
AreReadsKnown p e = All (λ r. IsVariable p r.name) (reads_of e) × All (λ n. IsReduction p n.1) (numbers_of e)

-- all names of a line that writes are declared
abbrev pub AreNamesKnown : Problem → Write → Type 0
AreNamesKnown p w = IsKnownAs p w.name w.kind × AreReadsKnown p w.expr

-- two requirements have one relation: of the own level, of the coarser, of the finer, or of a reduction
abbrev pub HaveOneRelation : What → What → Type 0
HaveOneRelation (what.Same a g) (what.Same b h) = Unit {0}
HaveOneRelation (what.Coarse a g) (what.Coarse b h) = Unit {0}
HaveOneRelation (what.Fine a) (what.Fine b) = Unit {0}
HaveOneRelation (what.Number a) (what.Number b) = Unit {0}
HaveOneRelation a b = ⊥

-- two requirements are of one store, relation and name, whatever their ghost data
pub record Repeats (q r : Require) : Type 0 where
  pub store : q.store ≡ r.store
  pub relation : HaveOneRelation q.what r.what
  pub name : wanted_name q.what ≡ wanted_name r.what

-- a task that runs on these levels, of which there are so many, wants a level that is not there
abbrev pub WantsMissingLevel : (count : ℕ) → List ℕ → What → Type 0
WantsMissingLevel count levels (what.Same var layers) = ⊥
WantsMissingLevel count levels (what.Coarse var layers) = Contains levels 0
WantsMissingLevel count levels (what.Fine var) = Any (λ l. count ≤ l + 1) levels
WantsMissingLevel count levels (what.Number name) = ⊥
