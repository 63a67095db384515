-- Whether the names of lines are declared, repeat, or want levels that are not there is judged.
use Rattle.std.proofs.Common.{◌≡◌, inl, inr, ◌≤◌, ◌+◌, ℕ, List, refl}
use Rattle.std.specs.Option.{is_some}
use Rattle.kernel_ast.specs.declared.expression.Store.{Store}
use Rattle.kernel_ast.specs.declared.expression.Store.TheVariants as store
use Rattle.kernel_ast.specs.declared.expression.Expr.{Expr}
use Rattle.problem_types.specs.Lists.{variable_named, reduction_named}
use Rattle.problem_types.specs.declared.problem.Problem.{Problem}
use Rattle.problem_types.specs.declared.problem.Require.{Require}
use Rattle.problem_types.specs.declared.problem.What.{What}
use Rattle.problem_types.specs.declared.problem.What.TheVariants as what
use Rattle.problem_types.specs.declared.problem.Write.{Write}
use Rattle.problem_types.specs.declared.problem.WriteKind.{WriteKind}
use Rattle.problem_types.specs.declared.problem.WriteKind.TheVariants as kind
use Rattle.task_rules.specs.Names.{IsVariable, IsReduction, IsKnown, IsKnownAs, AreReadsKnown, AreNamesKnown, HaveOneRelation, Repeats, WantsMissingLevel}
use Rattle.task_rules.specs.Reads.{reads_of, numbers_of}
use Rattle.task_rules.specs.Lines.{wanted_name}
use Rattle.task_check.proofs.Judging.{Judged, both, like, equal, at_most, passes, all, any, contained}

-- stores
pub same_store : (a b : Store) → Judged (a ≡ b)
same_store store.Old store.Old = inl refl
same_store store.New store.New = inl refl
same_store store.Old store.New = inr (λ is. cc)
same_store store.New store.Old = inr (λ is. cc)

-- declared names
pub variable : (p : Problem) (name : ℕ) → Judged (IsVariable p name)
variable p name = passes (is_some (variable_named p name))

pub reduction : (p : Problem) (name : ℕ) → Judged (IsReduction p name)
reduction p name = passes (is_some (reduction_named p name))

pub known : (p : Problem) (w : What) → Judged (IsKnown p w)
known p (what.Same var layers) = variable p var
known p (what.Coarse var layers) = variable p var
known p (what.Fine var) = variable p var
known p (what.Number name) = reduction p name

known_as : (p : Problem) (name : ℕ) (k : WriteKind) → Judged (IsKnownAs p name k)
known_as p name kind.Computes = variable p name
known_as p name kind.Modifies = variable p name
known_as p name (kind.Reduces c) = reduction p name

reads_known : (p : Problem) (e : Expr) → Judged (AreReadsKnown p e)
reads_known p e =
    both (all (λ r. IsVariable p r.name) (λ r. variable p r.name) (reads_of e))
    (all (λ n. IsReduction p n.1) (λ n. reduction p n.1) (numbers_of e))

pub names_known : (p : Problem) (w : Write) → Judged (AreNamesKnown p w)
names_known p w = both (known_as p w.name w.kind) (reads_known p w.expr)

-- requirements that repeat
one_relation : (a b : What) → Judged (HaveOneRelation a b)
one_relation (what.Same a g) (what.Same b h) = inl tt
one_relation (what.Coarse a g) (what.Coarse b h) = inl tt
one_relation (what.Fine a) (what.Fine b) = inl tt
one_relation (what.Number a) (what.Number b) = inl tt
one_relation a b = inr (λ h. h)

pub repeats : (q r : Require) → Judged (Repeats q r)
repeats q r =
    like (λ h. record { store = h.0; relation = h.1.0; name = h.1.1 }) (λ s. (s.store, (s.relation, s.name)))
    (both (same_store q.store r.store) (both (one_relation q.what r.what) (equal (wanted_name q.what) (wanted_name r.what))))

-- levels that are not there
pub missing_level : (count : ℕ) (levels : List ℕ) (w : What) → Judged (WantsMissingLevel count levels w)
missing_level count levels (what.Same var layers) = inr (λ h. h)
missing_level count levels (what.Coarse var layers) = contained levels 0
missing_level count levels (what.Fine var) = any (λ l. count ≤ l + 1) (λ l. at_most count (l + 1)) levels
missing_level count levels (what.Number name) = inr (λ h. h)
