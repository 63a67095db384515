-- Statements that follow one another up to `end` are those of a whole problem. Each record says what stands behind a place.
use Rattle.std.proofs.Common.{◌≡◌, ℕ, ◌≤◌, List, [], ◌∷◌, ◌++◌, length, map, Some, None, refl, sym, ap, ◌∙◌, arith}
use Rattle.std.specs.Prelude.{All}
use Rattle.std.proofs.lemmas.List.Elements.{All-nil, All-cons}
use Rattle.kernel_parse.specs.Grammar.{Words}
use Rattle.problem_types.specs.declared.problem.Problem.{Problem}
use Rattle.problem_types.specs.declared.problem.BoxLine.{BoxLine}
use Rattle.problem_types.specs.declared.problem.Level.{Level}
use Rattle.problem_types.specs.declared.problem.Var.{Var}
use Rattle.problem_types.specs.declared.problem.Reduction.{Reduction}
use Rattle.problem_types.specs.declared.problem.Require.{Require}
use Rattle.problem_types.specs.declared.problem.Write.{Write}
use Rattle.problem_types.specs.declared.problem.Task.{Task}
use Rattle.problem_types.specs.declared.problem.Keep.{Keep}
use Rattle.statement_parse.specs.Kinds.{kind_of}
use Rattle.statement_parse.specs.declared.statement.Statement.{Statement}
use Rattle.statement_parse.specs.declared.statement.Statement.TheVariants as statement
use Rattle.problem_file.specs.Statements.{Placed, at, box_statement, patch_statement, var_statement, reduction_statement, require_statement, write_statement, keep_statement, then_levels, then_tasks, statements_of, IsWholeLevel, IsWholeTask, IsWhole}
use Rattle.problem_file.specs.Order.{next_place, place_behind}
use Rattle.problem_file.specs.Drafts.{box_line}
use Rattle.problem_file.specs.declared.order.TaskList.{TaskList}
use Rattle.problem_file.specs.declared.order.TaskList.TheVariants as list
use Rattle.problem_file.specs.declared.order.Place.{Place}
use Rattle.problem_file.specs.declared.order.Place.TheVariants as place

-- ---- the lists of tasks, from the end

record Closing (ss : List Placed) : Type 0 where
  keeps : List Keep
  end_line : ℕ
  is : ss ≡ map keep_statement keeps ++ (at end_line statement.End ∷ [])

record Tasks (Behind : List Placed → Type 0) (ss : List Placed) : Type 0 where
  tasks : List Task
  whole : All IsWholeTask tasks
  rest : List Placed
  behind : Behind rest
  is : ss ≡ then_tasks tasks rest

record Writes (Behind : List Placed → Type 0) (ss : List Placed) : Type 0 where
  writes : List Write
  rest : List Placed
  behind : Tasks Behind rest
  is : ss ≡ map write_statement writes ++ rest

record Requirements (Behind : List Placed → Type 0) (ss : List Placed) : Type 0 where
  requirements : List Require
  writes : List Write
  some : 1 ≤ length writes
  rest : List Placed
  behind : Tasks Behind rest
  is : ss ≡ map require_statement requirements ++ (map write_statement writes ++ rest)

record Timestep (ss : List Placed) : Type 0 where
  line : ℕ
  rest : List Placed
  behind : Tasks Closing rest
  is : ss ≡ at line statement.Timestep ∷ rest

record Init (ss : List Placed) : Type 0 where
  line : ℕ
  rest : List Placed
  behind : Tasks Timestep rest
  is : ss ≡ at line statement.Init ∷ rest

-- what stands behind a list of tasks
abbrev BehindList : TaskList → List Placed → Type 0
BehindList list.Init ss = Timestep ss
BehindList list.Timestep ss = Closing ss

-- ---- the variables and the grid

record Reductions (ss : List Placed) : Type 0 where
  reductions : List Reduction
  rest : List Placed
  behind : Init rest
  is : ss ≡ map reduction_statement reductions ++ rest

record Vars (ss : List Placed) : Type 0 where
  vars : List Var
  rest : List Placed
  behind : Reductions rest
  is : ss ≡ map var_statement vars ++ rest

record Levels (ss : List Placed) : Type 0 where
  levels : List Level
  whole : All IsWholeLevel levels
  rest : List Placed
  behind : Vars rest
  is : ss ≡ then_levels levels rest

record Patches (ss : List Placed) : Type 0 where
  patches : List BoxLine
  rest : List Placed
  behind : Levels rest
  is : ss ≡ map patch_statement patches ++ rest

record SomePatches (ss : List Placed) : Type 0 where
  all : Patches ss
  some : 1 ≤ length all.patches

record BoxTail (ss : List Placed) : Type 0 where
  box : BoxLine
  rest : List Placed
  behind : SomePatches rest
  is : ss ≡ box_statement box ∷ rest

record SomeLevels (ss : List Placed) : Type 0 where
  all : Levels ss
  some : 1 ≤ length all.levels

-- one statement with a number
record One (says : ℕ → Statement) (Behind : List Placed → Type 0) (ss : List Placed) : Type 0 where
  line : ℕ
  value : ℕ
  rest : List Placed
  behind : Behind rest
  is : ss ≡ at line (says value) ∷ rest

abbrev AfterGhost : List Placed → Type 0
AfterGhost = One statement.Materials SomeLevels

abbrev AfterDump : List Placed → Type 0
AfterDump = One statement.Ghost AfterGhost

abbrev AfterSteps : List Placed → Type 0
AfterSteps = One statement.Dump AfterDump

abbrev AfterVersion : List Placed → Type 0
AfterVersion = One statement.Steps AfterSteps

abbrev Tail : Place → List Placed → Type 0
Tail place.Start ss = One statement.Version AfterVersion ss
Tail place.Version ss = AfterVersion ss
Tail place.Steps ss = AfterSteps ss
Tail place.Dump ss = AfterDump ss
Tail place.Ghost ss = AfterGhost ss
Tail place.Materials ss = SomeLevels ss
Tail place.Level ss = BoxTail ss
Tail place.Box ss = SomePatches ss
Tail place.Patch ss = Patches ss
Tail place.Var ss = Vars ss
Tail place.Reduction ss = Reductions ss
Tail (place.Opened tasks) ss = Tasks (BehindList tasks) ss
Tail (place.Task tasks) ss = Requirements (BehindList tasks) ss
Tail (place.Write tasks) ss = Writes (BehindList tasks) ss
Tail place.Keep ss = Closing ss
Tail place.End ss = ss ≡ []

-- ---- one more statement in front

consed : (s : Placed) (ss rest : List Placed) → ss ≡ rest → s ∷ ss ≡ s ∷ rest
consed s ss rest is = ap (λ (w : List Placed). s ∷ w) is

closing_end : (line : ℕ) (ss : List Placed) → ss ≡ [] → Closing (at line statement.End ∷ ss)
closing_end line ss is = record { keeps = []; end_line = line; is = consed (at line statement.End) ss [] is }

closing_keep : (line name : ℕ) (ss : List Placed) → Closing ss → Closing (at line (statement.Keep name) ∷ ss)
closing_keep line name ss t =
    let k : Keep = record { line = line; name = name } in
    record { keeps = k ∷ t.keeps; end_line = t.end_line; is = consed (keep_statement k) ss _ t.is }

module _ (Behind : List Placed → Type 0) where
  tasks_none : (ss : List Placed) → Behind ss → Tasks Behind ss
  tasks_none ss b = record { tasks = []; whole = All-nil IsWholeTask; rest = ss; behind = b; is = refl }

  writes_none : (ss : List Placed) → Tasks Behind ss → Writes Behind ss
  writes_none ss t = record { writes = []; rest = ss; behind = t; is = refl }

  writes_more : (w : Write) (ss : List Placed) → Writes Behind ss → Writes Behind (write_statement w ∷ ss)
  writes_more w ss t = record { writes = w ∷ t.writes; rest = t.rest; behind = t.behind; is = consed (write_statement w) ss _ t.is }

  requirements_none : (w : Write) (ss : List Placed) → Writes Behind ss → Requirements Behind (write_statement w ∷ ss)
  requirements_none w ss t =
      record { requirements = []; writes = w ∷ t.writes; some = omega arith; rest = t.rest; behind = t.behind; is = consed (write_statement w) ss _ t.is }

  requirements_more : (r : Require) (ss : List Placed) → Requirements Behind ss → Requirements Behind (require_statement r ∷ ss)
  requirements_more r ss t =
      record { requirements = r ∷ t.requirements; writes = t.writes; some = t.some; rest = t.rest; behind = t.behind; is = consed (require_statement r) ss _ t.is }

  tasks_more : (line name : ℕ) (levels materials : List ℕ) (ss : List Placed) → Requirements Behind ss → Tasks Behind (at line (statement.Task name levels materials) ∷ ss)
  tasks_more line name levels materials ss t =
      let task : Task = record { line = line; name = name; levels = levels; materials = materials; requirements = t.requirements; writes = t.writes } in
      record {
        tasks = task ∷ t.behind.tasks;
        whole = All-cons IsWholeTask task t.behind.tasks t.some t.behind.whole;
        rest = t.behind.rest;
        behind = t.behind.behind;
        is = consed (at line (statement.Task name levels materials)) ss _
            (t.is ∙ ap (λ (w : List Placed). map require_statement t.requirements ++ (map write_statement t.writes ++ w)) t.behind.is);
      }

reductions_none : (ss : List Placed) → Init ss → Reductions ss
reductions_none ss t = record { reductions = []; rest = ss; behind = t; is = refl }

reductions_more : (q : Reduction) (ss : List Placed) → Reductions ss → Reductions (reduction_statement q ∷ ss)
reductions_more q ss t = record { reductions = q ∷ t.reductions; rest = t.rest; behind = t.behind; is = consed (reduction_statement q) ss _ t.is }

vars_none : (ss : List Placed) → Reductions ss → Vars ss
vars_none ss t = record { vars = []; rest = ss; behind = t; is = refl }

vars_more : (v : Var) (ss : List Placed) → Vars ss → Vars (var_statement v ∷ ss)
vars_more v ss t = record { vars = v ∷ t.vars; rest = t.rest; behind = t.behind; is = consed (var_statement v) ss _ t.is }

levels_none : (ss : List Placed) → Vars ss → Levels ss
levels_none ss t = record { levels = []; whole = All-nil IsWholeLevel; rest = ss; behind = t; is = refl }

patches_none : (ss : List Placed) → Levels ss → Patches ss
patches_none ss t = record { patches = []; rest = ss; behind = t; is = refl }

patches_more : (q : BoxLine) (ss : List Placed) → Patches ss → SomePatches (patch_statement q ∷ ss)
patches_more q ss t = record {
  all = record { patches = q ∷ t.patches; rest = t.rest; behind = t.behind; is = consed (patch_statement q) ss _ t.is };
  some = omega arith;
}

levels_more : (line ratio : ℕ) (ss : List Placed) → BoxTail ss → SomeLevels (at line (statement.Level ratio) ∷ ss)
levels_more line ratio ss t =
    let p = t.behind.all in
    let l : Level = record { line = line; ratio = ratio; boxes = t.box ∷ []; patches = p.patches } in
    record {
      all = record {
        levels = l ∷ p.behind.levels;
        whole = All-cons IsWholeLevel l p.behind.levels (record { one_box = refl; some_patch = t.behind.some }) p.behind.whole;
        rest = p.behind.rest;
        behind = p.behind.behind;
        is = consed (at line (statement.Level ratio)) ss _
            (t.is ∙ consed (box_statement t.box) t.rest _ (p.is ∙ ap (λ (w : List Placed). map patch_statement p.patches ++ w) p.behind.is));
      };
      some = omega arith;
    }

no_place : (ss : List Placed) → place_behind None ss ≡ None
no_place [] = refl
no_place (s ∷ ss) = no_place ss

-- what stands behind a place that a statement may follow
step : (before : Place) (line : ℕ) (s : Statement) (ss : List Placed) → ((after : Place) → place_behind (Some after) ss ≡ Some place.End → Tail after ss)
    → place_behind (next_place before (kind_of s)) ss ≡ Some place.End → Tail before (at line s ∷ ss)
step place.Start line (statement.Version n) ss more is = record { line = line; value = n; rest = ss; behind = more place.Version is; is = refl }
step place.Version line (statement.Steps n) ss more is = record { line = line; value = n; rest = ss; behind = more place.Steps is; is = refl }
step place.Steps line (statement.Dump n) ss more is = record { line = line; value = n; rest = ss; behind = more place.Dump is; is = refl }
step place.Dump line (statement.Ghost n) ss more is = record { line = line; value = n; rest = ss; behind = more place.Ghost is; is = refl }
step place.Ghost line (statement.Materials n) ss more is = record { line = line; value = n; rest = ss; behind = more place.Materials is; is = refl }
step place.Materials line (statement.Level ratio) ss more is = levels_more line ratio ss (more place.Level is)
step place.Level line (statement.Box c) ss more is = record { box = box_line line c; rest = ss; behind = more place.Box is; is = refl }
step place.Box line (statement.Patch c) ss more is = patches_more (box_line line c) ss (more place.Patch is)
step place.Patch line (statement.Patch c) ss more is = let t = patches_more (box_line line c) ss (more place.Patch is) in t.all
step place.Patch line (statement.Level ratio) ss more is = let t = levels_more line ratio ss (more place.Level is) in patches_none _ t.all
step place.Patch line (statement.Var name centring outside) ss more is =
    patches_none _ (levels_none _ (vars_more (record { line = line; name = name; centring = centring; outside = outside }) ss (more place.Var is)))
step place.Patch line (statement.Reduction name fold) ss more is =
    patches_none _ (levels_none _ (vars_none _ (reductions_more (record { line = line; name = name; fold = fold }) ss (more place.Reduction is))))
step place.Patch line statement.Init ss more is =
    patches_none _ (levels_none _ (vars_none _ (reductions_none _ (record { line = line; rest = ss; behind = more (place.Opened list.Init) is; is = refl }))))
step place.Var line (statement.Var name centring outside) ss more is =
    vars_more (record { line = line; name = name; centring = centring; outside = outside }) ss (more place.Var is)
step place.Var line (statement.Reduction name fold) ss more is =
    vars_none _ (reductions_more (record { line = line; name = name; fold = fold }) ss (more place.Reduction is))
step place.Var line statement.Init ss more is =
    vars_none _ (reductions_none _ (record { line = line; rest = ss; behind = more (place.Opened list.Init) is; is = refl }))
step place.Reduction line (statement.Reduction name fold) ss more is = reductions_more (record { line = line; name = name; fold = fold }) ss (more place.Reduction is)
step place.Reduction line statement.Init ss more is = reductions_none _ (record { line = line; rest = ss; behind = more (place.Opened list.Init) is; is = refl })
step (place.Opened tasks) line (statement.Task name levels materials) ss more is = tasks_more (BehindList tasks) line name levels materials ss (more (place.Task tasks) is)
step (place.Opened list.Init) line statement.Timestep ss more is =
    tasks_none Timestep _ (record { line = line; rest = ss; behind = more (place.Opened list.Timestep) is; is = refl })
step (place.Opened list.Timestep) line (statement.Keep name) ss more is = tasks_none Closing _ (closing_keep line name ss (more place.Keep is))
step (place.Opened list.Timestep) line statement.End ss more is = tasks_none Closing _ (closing_end line ss (more place.End is))
step (place.Task tasks) line (statement.Require store what) ss more is = requirements_more (BehindList tasks) (record { line = line; store = store; what = what }) ss (more (place.Task tasks) is)
step (place.Task tasks) line (statement.Write kind name expr) ss more is =
    requirements_none (BehindList tasks) (record { line = line; kind = kind; name = name; expr = expr }) ss (more (place.Write tasks) is)
step (place.Write tasks) line (statement.Write kind name expr) ss more is =
    writes_more (BehindList tasks) (record { line = line; kind = kind; name = name; expr = expr }) ss (more (place.Write tasks) is)
step (place.Write tasks) line (statement.Task name levels materials) ss more is =
    writes_none (BehindList tasks) _ (tasks_more (BehindList tasks) line name levels materials ss (more (place.Task tasks) is))
step (place.Write list.Init) line statement.Timestep ss more is =
    writes_none Timestep _ (tasks_none Timestep _ (record { line = line; rest = ss; behind = more (place.Opened list.Timestep) is; is = refl }))
step (place.Write list.Timestep) line (statement.Keep name) ss more is = writes_none Closing _ (tasks_none Closing _ (closing_keep line name ss (more place.Keep is)))
step (place.Write list.Timestep) line statement.End ss more is = writes_none Closing _ (tasks_none Closing _ (closing_end line ss (more place.End is)))
step place.Keep line (statement.Keep name) ss more is = closing_keep line name ss (more place.Keep is)
step place.Keep line statement.End ss more is = closing_end line ss (more place.End is)
step before line s ss more is = let e = sym (no_place ss) ∙ is in absurd cc

at_end : (before : Place) → Some before ≡ Some place.End → Tail before []
at_end place.End is = refl
at_end before is = absurd cc

tail : (ss : List Placed) (before : Place) → place_behind (Some before) ss ≡ Some place.End → Tail before ss
tail [] before is = at_end before is
tail (s ∷ ss) before is = step before s.line s.statement ss (tail ss) is

-- a whole problem with these statements
pub record HasProblem (names : Words) (ss : List Placed) : Type 0 where
  pub problem : Problem
  pub whole : IsWhole problem
  pub named : problem.names ≡ names
  pub says : ss ≡ statements_of problem

pub problem_of : (names : Words) (ss : List Placed) → place_behind (Some place.Start) ss ≡ Some place.End → HasProblem names ss
unfolding statements_of
problem_of names ss is =
    let a = tail ss place.Start is in
    let b = a.behind in
    let c = b.behind in
    let d = c.behind in
    let e = d.behind in
    let ls = e.behind.all in
    let vs = ls.behind in
    let rs = vs.behind in
    let i = rs.behind in
    let before = i.behind in
    let t = before.behind in
    let after = t.behind in
    let last = after.behind in
    let p : Problem = record {
      names = names;
      version = record { line = a.line; value = a.value };
      steps = record { line = b.line; value = b.value };
      dump = record { line = c.line; value = c.value };
      ghost_limit = record { line = d.line; value = d.value };
      materials = record { line = e.line; value = e.value };
      levels = ls.levels;
      vars = vs.vars;
      reductions = rs.reductions;
      init_line = i.line;
      init = before.tasks;
      timestep_line = t.line;
      timestep = after.tasks;
      keeps = last.keeps;
      end_line = last.end_line;
    } in
    record {
      problem = p;
      whole = record { some_level = e.behind.some; levels = ls.whole; init = before.whole; timestep = after.whole };
      named = refl;
      says =
          a.is ∙ consed _ _ _ (b.is ∙ consed _ _ _ (c.is ∙ consed _ _ _ (d.is ∙ consed _ _ _ (e.is ∙ consed _ _ _
          (ls.is ∙ ap (λ (w : List Placed). then_levels ls.levels w)
          (vs.is ∙ ap (λ (w : List Placed). map var_statement vs.vars ++ w)
          (rs.is ∙ ap (λ (w : List Placed). map reduction_statement rs.reductions ++ w)
          (i.is ∙ consed _ _ _ (before.is ∙ ap (λ (w : List Placed). then_tasks before.tasks w)
          (t.is ∙ consed _ _ _ (after.is ∙ ap (λ (w : List Placed). then_tasks after.tasks w) last.is)))))))))));
    }
