-- The numbers of a problem can be spelled where those of its parts can.
use Rattle.std.proofs.Common.{ℕ, ◌↔◌, List, [], ◌∷◌, ◌++◌, All, map}
use Rattle.std.proofs.lemmas.List.Elements.{All-nil, All-cons, All-head, All-tail, All-append, All-map}
use Rattle.problem_types.specs.declared.problem.Problem.{Problem}
use Rattle.problem_types.specs.declared.problem.Level.{Level}
use Rattle.problem_types.specs.declared.problem.Task.{Task}
use Rattle.statement_parse.specs.declared.statement.Statement.TheVariants as statement
use Rattle.problem_file.specs.Statements.{Placed, at, box_statement, patch_statement, var_statement, reduction_statement, require_statement, write_statement, keep_statement, then_levels, then_tasks, closing_statements, task_statements, variable_statements, statements_of}
use Rattle.problem_printable.specs.Printable.{IsSayable}
use Rattle.problem_printable.specs.Parts.{IsLevelSayable, IsTaskSayable, AreStatementsSayable}
use Rattle.problem_printable.proofs.Elements.{All-front, All-behind, All-mapped}

module _ (names : ℕ) where
  abbrev Sayable : Placed → Type 0
  Sayable s = IsSayable names s.statement

  levels_there : (levels : List Level) (rest : List Placed) → All IsLevelSayable levels → All Sayable rest → All Sayable (then_levels levels rest)
  levels_there [] rest h r = r
  levels_there (l ∷ levels) rest h r =
      let first = All-head IsLevelSayable l levels h in
      All-cons Sayable _ _ first.ratio
      (All-append Sayable (map box_statement l.boxes) _ (All-map Sayable box_statement l.boxes first.boxes)
      (All-append Sayable (map patch_statement l.patches) _ (All-map Sayable patch_statement l.patches first.patches)
      (levels_there levels rest (All-tail IsLevelSayable l levels h) r)))

  levels_back : (levels : List Level) (rest : List Placed) → All Sayable (then_levels levels rest) → All IsLevelSayable levels × All Sayable rest
  levels_back [] rest h = (All-nil IsLevelSayable, h)
  levels_back (l ∷ levels) rest h =
      let t1 = All-tail Sayable (at l.line (statement.Level l.ratio)) (map box_statement l.boxes ++ (map patch_statement l.patches ++ then_levels levels rest)) h in
      let t2 = All-behind Sayable (map box_statement l.boxes) (map patch_statement l.patches ++ then_levels levels rest) t1 in
      let more = levels_back levels rest (All-behind Sayable (map patch_statement l.patches) (then_levels levels rest) t2) in (
        All-cons IsLevelSayable l levels (record {
          ratio = All-head Sayable (at l.line (statement.Level l.ratio)) (map box_statement l.boxes ++ (map patch_statement l.patches ++ then_levels levels rest)) h;
          boxes = All-mapped Sayable box_statement l.boxes (All-front Sayable (map box_statement l.boxes) (map patch_statement l.patches ++ then_levels levels rest) t1);
          patches = All-mapped Sayable patch_statement l.patches (All-front Sayable (map patch_statement l.patches) (then_levels levels rest) t2);
        }) more.0,
        more.1,
      )

  tasks_there : (tasks : List Task) (rest : List Placed) → All (IsTaskSayable names) tasks → All Sayable rest → All Sayable (then_tasks tasks rest)
  tasks_there [] rest h r = r
  tasks_there (t ∷ tasks) rest h r =
      let first = All-head (IsTaskSayable names) t tasks h in
      All-cons Sayable _ _ (first.levels, first.materials)
      (All-append Sayable (map require_statement t.requirements) _ (All-map Sayable require_statement t.requirements first.requirements)
      (All-append Sayable (map write_statement t.writes) _ (All-map Sayable write_statement t.writes first.writes)
      (tasks_there tasks rest (All-tail (IsTaskSayable names) t tasks h) r)))

  tasks_back : (tasks : List Task) (rest : List Placed) → All Sayable (then_tasks tasks rest) → All (IsTaskSayable names) tasks × All Sayable rest
  tasks_back [] rest h = (All-nil (IsTaskSayable names), h)
  tasks_back (t ∷ tasks) rest h =
      let behind = map require_statement t.requirements ++ (map write_statement t.writes ++ then_tasks tasks rest) in
      let head = All-head Sayable (at t.line (statement.Task t.name t.levels t.materials)) behind h in
      let t1 = All-tail Sayable (at t.line (statement.Task t.name t.levels t.materials)) behind h in
      let t2 = All-behind Sayable (map require_statement t.requirements) (map write_statement t.writes ++ then_tasks tasks rest) t1 in
      let more = tasks_back tasks rest (All-behind Sayable (map write_statement t.writes) (then_tasks tasks rest) t2) in (
        All-cons (IsTaskSayable names) t tasks (record {
          levels = head.0;
          materials = head.1;
          requirements = All-mapped Sayable require_statement t.requirements (All-front Sayable (map require_statement t.requirements) (map write_statement t.writes ++ then_tasks tasks rest) t1);
          writes = All-mapped Sayable write_statement t.writes (All-front Sayable (map write_statement t.writes) (then_tasks tasks rest) t2);
        }) more.0,
        more.1,
      )

  closing_there : (p : Problem) → All Sayable (closing_statements p)
  closing_there p = All-append Sayable (map keep_statement p.keeps) _ (All-map Sayable keep_statement p.keeps (λ k d lt. tt))
      (All-cons Sayable (at p.end_line statement.End) [] tt (All-nil Sayable))

  statements_there : (p : Problem) → AreStatementsSayable names p → All Sayable (statements_of p)
  unfolding statements_of
  statements_there p h =
      let head = h.head in
      let from_init = task_statements p in
      let from_reductions = map reduction_statement p.reductions ++ from_init in
      let from_timestep = at p.timestep_line statement.Timestep ∷ then_tasks p.timestep (closing_statements p) in
      let levels = then_levels p.levels (variable_statements p) in
      let from_materials = at p.materials.line (statement.Materials p.materials.value) ∷ levels in
      let from_ghost_limit = at p.ghost_limit.line (statement.Ghost p.ghost_limit.value) ∷ from_materials in
      let from_dump = at p.dump.line (statement.Dump p.dump.value) ∷ from_ghost_limit in
      let from_steps = at p.steps.line (statement.Steps p.steps.value) ∷ from_dump in
      All-cons Sayable (at p.version.line (statement.Version p.version.value)) from_steps head.version
      (All-cons Sayable (at p.steps.line (statement.Steps p.steps.value)) from_dump head.steps
      (All-cons Sayable (at p.dump.line (statement.Dump p.dump.value)) from_ghost_limit (head.some_dump, head.dump)
      (All-cons Sayable (at p.ghost_limit.line (statement.Ghost p.ghost_limit.value)) from_materials head.ghost_limit
      (All-cons Sayable (at p.materials.line (statement.Materials p.materials.value)) levels (head.some_material, head.materials)
      (levels_there p.levels (variable_statements p) h.levels
      (All-append Sayable (map var_statement p.vars) from_reductions (All-map Sayable var_statement p.vars h.vars)
      (All-append Sayable (map reduction_statement p.reductions) from_init (All-map Sayable reduction_statement p.reductions (λ k d lt. tt))
      (All-cons Sayable (at p.init_line statement.Init) (then_tasks p.init from_timestep) tt
      (tasks_there p.init from_timestep h.init
      (All-cons Sayable (at p.timestep_line statement.Timestep) (then_tasks p.timestep (closing_statements p)) tt
      (tasks_there p.timestep (closing_statements p) h.timestep (closing_there p))))))))))))

  statements_back : (p : Problem) → All Sayable (statements_of p) → AreStatementsSayable names p
  unfolding statements_of
  statements_back p h0 =
      let from_init = task_statements p in
      let from_reductions = map reduction_statement p.reductions ++ from_init in
      let from_timestep = at p.timestep_line statement.Timestep ∷ then_tasks p.timestep (closing_statements p) in
      let levels = then_levels p.levels (variable_statements p) in
      let from_materials = at p.materials.line (statement.Materials p.materials.value) ∷ levels in
      let from_ghost_limit = at p.ghost_limit.line (statement.Ghost p.ghost_limit.value) ∷ from_materials in
      let from_dump = at p.dump.line (statement.Dump p.dump.value) ∷ from_ghost_limit in
      let from_steps = at p.steps.line (statement.Steps p.steps.value) ∷ from_dump in
      let h1 = All-tail Sayable (at p.version.line (statement.Version p.version.value)) from_steps h0 in
      let h2 = All-tail Sayable (at p.steps.line (statement.Steps p.steps.value)) from_dump h1 in
      let h3 = All-tail Sayable (at p.dump.line (statement.Dump p.dump.value)) from_ghost_limit h2 in
      let h4 = All-tail Sayable (at p.ghost_limit.line (statement.Ghost p.ghost_limit.value)) from_materials h3 in
      let h5 = All-tail Sayable (at p.materials.line (statement.Materials p.materials.value)) levels h4 in
      let grid = levels_back p.levels (variable_statements p) h5 in
      let variables = All-behind Sayable (map var_statement p.vars) from_reductions grid.1 in
      let schedule = All-behind Sayable (map reduction_statement p.reductions) from_init variables in
      let init = tasks_back p.init from_timestep (All-tail Sayable (at p.init_line statement.Init) (then_tasks p.init from_timestep) schedule) in
      let timestep = tasks_back p.timestep (closing_statements p) (All-tail Sayable (at p.timestep_line statement.Timestep) (then_tasks p.timestep (closing_statements p)) init.1) in
      let version = All-head Sayable (at p.version.line (statement.Version p.version.value)) from_steps h0 in
      let steps = All-head Sayable (at p.steps.line (statement.Steps p.steps.value)) from_dump h1 in
      let dump = All-head Sayable (at p.dump.line (statement.Dump p.dump.value)) from_ghost_limit h2 in
      let ghost_limit = All-head Sayable (at p.ghost_limit.line (statement.Ghost p.ghost_limit.value)) from_materials h3 in
      let materials = All-head Sayable (at p.materials.line (statement.Materials p.materials.value)) levels h4 in
      record {
        head = record {
          version = version;
          steps = steps;
          some_dump = dump.0;
          dump = dump.1;
          ghost_limit = ghost_limit;
          some_material = materials.0;
          materials = materials.1;
        };
        levels = grid.0;
        vars = All-mapped Sayable var_statement p.vars (All-front Sayable (map var_statement p.vars) from_reductions grid.1);
        init = init.0;
        timestep = timestep.0;
      }

  pub statements_sayable : (p : Problem) → AreStatementsSayable names p ↔ All (λ s. IsSayable names s.statement) (statements_of p)
  statements_sayable p = (statements_there p, statements_back p)
