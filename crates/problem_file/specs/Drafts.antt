-- A problem that is built up statement by statement.
use Rattle.std.specs.Prelude.{ℕ, List, [], ◌∷◌, ◌++◌, Option, Some}
use Rattle.std.specs.Option.{option_map, option_and_then}
use Rattle.problem_types.specs.declared.problem.Problem.{Problem}
use Rattle.problem_types.specs.declared.problem.Num.{Num}
use Rattle.problem_types.specs.declared.problem.BoxLine.{BoxLine}
use Rattle.problem_types.specs.declared.problem.Level.{Level}
use Rattle.problem_types.specs.declared.problem.Require.{Require}
use Rattle.problem_types.specs.declared.problem.Write.{Write}
use Rattle.problem_types.specs.declared.problem.Task.{Task}
use Rattle.statement_parse.specs.Kinds.{kind_of}
use Rattle.statement_parse.specs.declared.statement.Corners.{Corners}
use Rattle.statement_parse.specs.declared.statement.Statement.{Statement}
use Rattle.statement_parse.specs.declared.statement.Statement.TheVariants as statement
use Rattle.problem_file.specs.Statements.{Placed}
use Rattle.problem_file.specs.Order.{next_place}
use Rattle.problem_file.specs.declared.draft.Draft.{Draft}
use Rattle.problem_file.specs.declared.order.TaskList.{TaskList}
use Rattle.problem_file.specs.declared.order.TaskList.TheVariants as list
use Rattle.problem_file.specs.declared.order.Place.{Place}
use Rattle.problem_file.specs.declared.order.Place.TheVariants as place

abbrev pub num : ℕ → ℕ → Num
num line value = record { line = line; value = value }

-- nothing said yet
abbrev pub empty_problem : Problem
empty_problem = record {
  names = [];
  version = num 0 0;
  steps = num 0 0;
  dump = num 0 0;
  ghost_limit = num 0 0;
  materials = num 0 0;
  levels = [];
  vars = [];
  reductions = [];
  init_line = 0;
  init = [];
  timestep_line = 0;
  timestep = [];
  keeps = [];
  end_line = 0;
}

-- the list with its last entry changed
abbrev pub map_last : {A : Type 0} → (A → A) → List A → List A
map_last change [] = []
map_last change (x ∷ []) = change x ∷ []
map_last change (x ∷ y ∷ ys) = x ∷ map_last change (y ∷ ys)

abbrev pub box_line : ℕ → Corners → BoxLine
box_line line c = record { line = line; lo = c.lo; hi = c.hi }

abbrev pub new_level : ℕ → ℕ → Level
new_level line ratio = record { line = line; ratio = ratio; boxes = []; patches = [] }

abbrev pub with_box : ℕ → Corners → Level → Level
with_box line c l = record l { boxes = l.boxes ++ box_line line c ∷ [] }

abbrev pub with_patch : ℕ → Corners → Level → Level
with_patch line c l = record l { patches = l.patches ++ box_line line c ∷ [] }

abbrev pub new_task : ℕ → ℕ → List ℕ → List ℕ → Task
new_task line name levels materials =
    record { line = line; name = name; levels = levels; materials = materials; requirements = []; writes = [] }

abbrev pub with_requirement : Require → Task → Task
with_requirement r t = record t { requirements = t.requirements ++ r ∷ [] }

abbrev pub with_write : Write → Task → Task
with_write w t = record t { writes = t.writes ++ w ∷ [] }

-- the tasks with one more line: the first one of a task, or one of the last task
abbrev pub with_task_line : ℕ → Statement → List Task → List Task
with_task_line line (statement.Task name levels materials) ts = ts ++ new_task line name levels materials ∷ []
with_task_line line (statement.Require store what) ts = map_last (with_requirement (record { line = line; store = store; what = what })) ts
with_task_line line (statement.Write kind name expr) ts = map_last (with_write (record { line = line; kind = kind; name = name; expr = expr })) ts
with_task_line line other ts = ts

-- the problem with one of its lists of tasks changed
abbrev pub with_tasks : TaskList → (List Task → List Task) → Problem → Problem
with_tasks list.Init change p = record p { init = change p.init }
with_tasks list.Timestep change p = record p { timestep = change p.timestep }

-- the problem with one more statement, which stands in this list of tasks if it belongs to one
abbrev pub with_statement : TaskList → ℕ → Statement → Problem → Problem
with_statement tasks line (statement.Version n) p = record p { version = num line n }
with_statement tasks line (statement.Steps n) p = record p { steps = num line n }
with_statement tasks line (statement.Dump n) p = record p { dump = num line n }
with_statement tasks line (statement.Ghost n) p = record p { ghost_limit = num line n }
with_statement tasks line (statement.Materials n) p = record p { materials = num line n }
with_statement tasks line (statement.Level ratio) p = record p { levels = p.levels ++ new_level line ratio ∷ [] }
with_statement tasks line (statement.Box c) p = record p { levels = map_last (with_box line c) p.levels }
with_statement tasks line (statement.Patch c) p = record p { levels = map_last (with_patch line c) p.levels }
with_statement tasks line (statement.Var name centring outside) p =
    record p { vars = p.vars ++ (record { line = line; name = name; centring = centring; outside = outside }) ∷ [] }
with_statement tasks line (statement.Reduction name fold) p =
    record p { reductions = p.reductions ++ (record { line = line; name = name; fold = fold }) ∷ [] }
with_statement tasks line statement.Init p = record p { init_line = line }
with_statement tasks line statement.Timestep p = record p { timestep_line = line }
with_statement tasks line (statement.Keep name) p = record p { keeps = p.keeps ++ (record { line = line; name = name }) ∷ [] }
with_statement tasks line statement.End p = record p { end_line = line }
with_statement tasks line of_task p = with_tasks tasks (with_task_line line of_task) p

-- the list of tasks in which a place stands, the first one before any
abbrev pub list_of : Place → TaskList
list_of (place.Opened tasks) = tasks
list_of (place.Task tasks) = tasks
list_of (place.Write tasks) = tasks
list_of place = list.Init

abbrev pub draft : Place → Problem → Draft
draft place problem = record { place = place; problem = problem }

-- the draft with one more statement, if it may come there
abbrev pub drafted : Draft → Placed → Option Draft
drafted d s = option_map (λ behind. draft behind (with_statement (list_of d.place) s.line s.statement d.problem)) (next_place d.place (kind_of s.statement))

-- the draft with some more statements
abbrev pub drafted_all : Option Draft → List Placed → Option Draft
drafted_all d [] = d
drafted_all d (s ∷ ss) = drafted_all (option_and_then (λ before. drafted before s) d) ss

-- what the statements say, where each may follow the one before it
abbrev pub draft_of : List Placed → Option Draft
draft_of ss = drafted_all (Some (draft place.Start empty_problem)) ss
