-- Which reads of a kernel its task supplies.
use Rattle.std.specs.Prelude.{◌≡◌, ℕ, ◌≤◌, Bool, true, All, Any, IsTrue}
use Rattle.kernel_ast.specs.Form.{is_fine}
use Rattle.kernel_ast.specs.declared.expression.Store.{Store}
use Rattle.kernel_ast.specs.declared.expression.Store.TheVariants as store
use Rattle.kernel_ast.specs.declared.expression.How.{How}
use Rattle.kernel_ast.specs.declared.expression.How.TheVariants as how
use Rattle.kernel_ast.specs.declared.expression.Read.{Read}
use Rattle.problem_types.specs.Lists.{centring_of}
use Rattle.problem_types.specs.declared.problem.Problem.{Problem}
use Rattle.problem_types.specs.declared.problem.Task.{Task}
use Rattle.problem_types.specs.declared.problem.Ghost.{Ghost}
use Rattle.problem_types.specs.declared.problem.GhostKind.{GhostKind}
use Rattle.problem_types.specs.declared.problem.GhostKind.TheVariants as ghosts
use Rattle.problem_types.specs.declared.problem.Require.{Require}
use Rattle.problem_types.specs.declared.problem.What.{What}
use Rattle.problem_types.specs.declared.problem.What.TheVariants as what
use Rattle.problem_types.specs.declared.problem.Write.{Write}
use Rattle.problem_types.specs.declared.problem.WriteKind.{WriteKind}
use Rattle.problem_types.specs.declared.problem.WriteKind.TheVariants as kind
use Rattle.uts_geom.specs.declared.centring.Centring.{Centring}
use Rattle.ghost_rules.specs.declared.seen.Seen.{Seen}
use Rattle.ghost_rules.specs.declared.seen.Seen.TheVariants as seen
use Rattle.ghost_rules.specs.Windows.{is_offset_allowed}
use Rattle.task_rules.specs.Lines.{has_modifies}
use Rattle.task_rules.specs.Reads.{reads_of, numbers_of}

-- What a task sees of a variable that it requires on its own level: only what the patch owns where it requires the new values
-- without ghost data and modifies the variable, on whichever line; else the window.
abbrev pub seen_by_kind : (modifies : Bool) → Ghost → GhostKind → Store → Seen
seen_by_kind true layers ghosts.None store.New = seen.Own
seen_by_kind modifies layers kind at = seen.Ghosted layers

abbrev pub seen_of : Task → ℕ → Store → Ghost → Seen
seen_of t name at layers = seen_by_kind (has_modifies t.writes name) layers layers.kind at

-- where the kernel of a write runs: at the variable's centring, or at the one that a reduction states
abbrev pub centring_of_kind : Problem → ℕ → WriteKind → Centring
centring_of_kind p name kind.Computes = centring_of p name
centring_of_kind p name kind.Modifies = centring_of p name
centring_of_kind p name (kind.Reduces c) = c

abbrev pub kernel_centring : Problem → Write → Centring
kernel_centring p w = centring_of_kind p w.name w.kind

-- What is required of a variable covers a read in its form: it is on the own level or on the coarser one, where the offset is allowed to
-- a kernel of this centring, or on the finer one, where the variable has the kernel's centring.
abbrev pub Covers : Problem → Task → Centring → Read → How → What → Type 0
Covers p t kernel r how.Same (what.Same var layers) = (var ≡ r.name)
    × IsTrue (is_offset_allowed (seen_of t r.name r.store layers) (centring_of p r.name) kernel r.offset)
Covers p t kernel r how.Coarse (what.Coarse var layers) = (var ≡ r.name)
    × IsTrue (is_offset_allowed (seen.Ghosted layers) (centring_of p r.name) kernel r.offset)
Covers p t kernel r how (what.Fine var) = IsTrue (is_fine how) × (var ≡ r.name) × (centring_of p r.name ≡ kernel)
Covers p t kernel r how w = ⊥

-- the requirement supplies a read to a kernel of this centring
pub record Supplies (p : Problem) (t : Task) (kernel : Centring) (r : Read) (q : Require) : Type 0 where
  pub store : q.store ≡ r.store
  pub covers : Covers p t kernel r r.how q.what

-- how many layers of ghost data a requirement asks for
abbrev pub layers_of : What → ℕ
layers_of (what.Same var layers) = layers.n
layers_of (what.Coarse var layers) = layers.n
layers_of (what.Fine var) = 0
layers_of (what.Number name) = 0

-- the same of a requirement of at most 8 layers
pub record SuppliesFew (p : Problem) (t : Task) (kernel : Centring) (r : Read) (q : Require) : Type 0 where
  pub few : layers_of q.what ≤ 8
  pub supplies : Supplies p t kernel r q

-- a requirement of the task supplies the read
abbrev pub IsSupplied : Problem → Task → Centring → Read → Type 0
IsSupplied p t kernel r = Any (Supplies p t kernel r) t.requirements

-- a requirement of the task is of this reduction, in this store
abbrev pub IsNumberSupplied : Task → Store × ℕ → Type 0
IsNumberSupplied t n = Any (λ q. (q.store ≡ n.0) × (q.what ≡ what.Number n.1)) t.requirements

-- the task requires all that the kernel of its line reads, as far as it reads
abbrev pub IsAllSupplied : Problem → Task → Write → Type 0
IsAllSupplied p t w = All (IsSupplied p t (kernel_centring p w)) (reads_of w.expr) × All (IsNumberSupplied t) (numbers_of w.expr)
