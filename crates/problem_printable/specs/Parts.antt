-- The numbers of a problem, part by part.
use Rattle.std.specs.Prelude.{◌≡◌, ℕ, ◌≤◌, All, IsTrue, FitsSigned}
use Rattle.std.specs.Int.{w64}
use Rattle.kernel_ast.specs.Form.{IsExpressionInForm}
use Rattle.problem_types.specs.declared.problem.Problem.{Problem}
use Rattle.problem_types.specs.declared.problem.BoxLine.{BoxLine}
use Rattle.problem_types.specs.declared.problem.Level.{Level}
use Rattle.problem_types.specs.declared.problem.Write.{Write}
use Rattle.problem_types.specs.declared.problem.Task.{Task}
use Rattle.statement_parse.specs.Grammar.{Fits, AreNumbers}
use Rattle.problem_file.specs.Statements.{corners_of}
use Rattle.problem_printable.specs.Printable.{AreCorners, IsWhat, expression_fits}

-- the numbers of the statements before the levels
pub record IsHeadSayable (p : Problem) : Type 0 where
  pub version : p.version.value ≡ 1
  pub steps : Fits p.steps.value
  pub some_dump : 1 ≤ p.dump.value
  pub dump : Fits p.dump.value
  pub ghost_limit : Fits p.ghost_limit.value
  pub some_material : 1 ≤ p.materials.value
  pub materials : Fits p.materials.value

abbrev pub IsBoxSayable : BoxLine → Type 0
IsBoxSayable b = AreCorners (corners_of b)

pub record IsLevelSayable (l : Level) : Type 0 where
  pub ratio : Fits l.ratio
  pub boxes : All IsBoxSayable l.boxes
  pub patches : All IsBoxSayable l.patches

abbrev pub IsWriteSayable : ℕ → Write → Type 0
IsWriteSayable names w = IsExpressionInForm names w.expr × IsTrue (expression_fits w.expr)

pub record IsTaskSayable (names : ℕ) (t : Task) : Type 0 where
  pub levels : AreNumbers t.levels
  pub materials : AreNumbers t.materials
  pub requirements : All (λ r. IsWhat r.what) t.requirements
  pub writes : All (IsWriteSayable names) t.writes

-- the numbers of all statements, where so many names are known
pub record AreStatementsSayable (names : ℕ) (p : Problem) : Type 0 where
  pub head : IsHeadSayable p
  pub levels : All IsLevelSayable p.levels
  pub vars : All (λ v. FitsSigned w64 v.outside) p.vars
  pub init : All (IsTaskSayable names) p.init
  pub timestep : All (IsTaskSayable names) p.timestep
