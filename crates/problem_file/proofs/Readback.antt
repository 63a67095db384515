-- The statements of a whole problem say that problem.
use Rattle.std.proofs.Common.{◌≡◌, ℕ, ◌≤◌, List, [], ◌∷◌, ◌++◌, length, map, Option, Some, None, refl, sym, ap, ◌∙◌, append_assoc, append-nil, arith}
use Rattle.std.specs.Prelude.{All}
use Rattle.std.proofs.lemmas.List.Elements.{All-head, All-tail}
use Rattle.problem_types.specs.declared.problem.Problem.{Problem}
use Rattle.problem_types.specs.declared.problem.BoxLine.{BoxLine}
use Rattle.problem_types.specs.declared.problem.Level.{Level}
use Rattle.problem_types.specs.declared.problem.Var.{Var}
use Rattle.problem_types.specs.declared.problem.Reduction.{Reduction}
use Rattle.problem_types.specs.declared.problem.Require.{Require}
use Rattle.problem_types.specs.declared.problem.Write.{Write}
use Rattle.problem_types.specs.declared.problem.Task.{Task}
use Rattle.problem_types.specs.declared.problem.Keep.{Keep}
use Rattle.std.specs.Option.{option_map}
use Rattle.statement_parse.specs.Kinds.{kind_of}
use Rattle.statement_parse.specs.declared.statement.Statement.TheVariants as statement
use Rattle.statement_parse.specs.declared.statement.StatementKind.TheVariants as kind
use Rattle.problem_file.specs.Statements.{Placed, at, corners_of, box_statement, patch_statement, var_statement, reduction_statement, require_statement, write_statement, keep_statement, then_levels, then_tasks, closing_statements, task_statements, variable_statements, statements_of, IsWholeLevel, IsWholeTask, IsWhole}
use Rattle.problem_file.specs.Order.{next_place, place_behind}
use Rattle.problem_file.specs.Drafts.{empty_problem, map_last, new_level, with_box, with_patch, new_task, with_requirement, with_write, with_tasks, with_statement, draft, drafted_all, draft_of, list_of}
use Rattle.problem_file.specs.declared.draft.Draft.{Draft}
use Rattle.problem_file.specs.declared.order.TaskList.{TaskList}
use Rattle.problem_file.specs.declared.order.TaskList.TheVariants as list
use Rattle.problem_file.specs.declared.order.Place.{Place}
use Rattle.problem_file.specs.declared.order.Place.TheVariants as place

pub map_last-push : {A : Type 0} (change : A → A) (front : List A) (x : A) → map_last change (front ++ x ∷ []) ≡ front ++ change x ∷ []
map_last-push change [] x = refl
map_last-push change (y ∷ []) x = refl
map_last-push change (y ∷ z ∷ front) x = ap (λ w. y ∷ w) (map_last-push change (z ∷ front) x)

-- the last entry taken out, changed and put back
pub map_last_change : {A : Type 0} (change : A → A) (list front : List A) (x : A) → list ≡ front ++ x ∷ [] → map_last change list ≡ front ++ change x ∷ []
map_last_change change list front x is = ap (λ w. map_last change w) is ∙ map_last-push change front x

-- what is drafted at a place, of a problem so far and some more statements
abbrev From : Place → Problem → List Placed → Option Draft
From at p ss = drafted_all (Some (draft at p)) ss

-- ---- levels

-- the problem with such a level behind the others
abbrev leveled : Problem → Level → Problem
leveled p l = record p { levels = p.levels ++ l ∷ [] }

abbrev patched : Level → List BoxLine → Level
patched l ps = record l { patches = l.patches ++ ps }

patches_read : (p : Problem) (l : Level) (ps : List BoxLine) (rest : List Placed)
    → From place.Patch (leveled p l) (map patch_statement ps ++ rest) ≡ From place.Patch (leveled p (patched l ps)) rest
patches_read p l [] rest = ap (λ (w : List BoxLine). From place.Patch (leveled p (record l { patches = w })) rest) (sym (append-nil l.patches))
patches_read p l (b ∷ ps) rest =
    ap (λ (w : List Level). From place.Patch (record p { levels = w }) (map patch_statement ps ++ rest)) (map_last-push (with_patch b.line (corners_of b)) p.levels l)
    ∙ patches_read p (patched l (b ∷ [])) ps rest
    ∙ ap (λ (w : List BoxLine). From place.Patch (leveled p (record l { patches = w })) rest) (append_assoc l.patches (b ∷ []) ps)

-- a level with its box and its patches, where it may begin
level_read : (before : Place) → next_place before kind.Level ≡ Some place.Level
    → (p : Problem) (line ratio : ℕ) (boxes patches : List BoxLine) (rest : List Placed) → length boxes ≡ 1 → 1 ≤ length patches
    → From before p (at line (statement.Level ratio) ∷ (map box_statement boxes ++ (map patch_statement patches ++ rest)))
    ≡ From place.Patch (leveled p (record { line = line; ratio = ratio; boxes = boxes; patches = patches })) rest
level_read before may p line ratio [] patches rest one some = absurd (omega arith)
level_read before may p line ratio (a ∷ b ∷ boxes) patches rest one some = absurd (omega arith)
level_read before may p line ratio (b ∷ []) [] rest one some = absurd (omega arith)
level_read before may p line ratio (b ∷ []) (q ∷ patches) rest one some =
    let level = new_level line ratio in
    let boxed = with_box b.line (corners_of b) level in
    let more = map patch_statement patches ++ rest in
    ap (λ (o : Option Place). drafted_all (option_map (λ behind. draft behind (leveled p level)) o) (box_statement b ∷ patch_statement q ∷ more)) may
    ∙ ap (λ (w : List Level). From place.Box (record p { levels = w }) (patch_statement q ∷ more)) (map_last-push (with_box b.line (corners_of b)) p.levels level)
    ∙ ap (λ (w : List Level). From place.Patch (record p { levels = w }) more) (map_last-push (with_patch q.line (corners_of q)) p.levels boxed)
    ∙ patches_read p (patched boxed (q ∷ [])) patches rest

-- at the places behind a patch and behind the materials
levels_read : (p : Problem) (ls : List Level) (rest : List Placed) → All IsWholeLevel ls
    → From place.Patch p (then_levels ls rest) ≡ From place.Patch (record p { levels = p.levels ++ ls }) rest
levels_read p [] rest whole = ap (λ (w : List Level). From place.Patch (record p { levels = w }) rest) (sym (append-nil p.levels))
levels_read p (l ∷ ls) rest whole =
    let h = All-head IsWholeLevel l ls whole in
    level_read place.Patch refl p l.line l.ratio l.boxes l.patches (then_levels ls rest) h.one_box h.some_patch
    ∙ levels_read (leveled p l) ls rest (All-tail IsWholeLevel l ls whole)
    ∙ ap (λ (w : List Level). From place.Patch (record p { levels = w }) rest) (append_assoc p.levels (l ∷ []) ls)

first_levels_read : (p : Problem) (ls : List Level) (rest : List Placed) → 1 ≤ length ls → All IsWholeLevel ls
    → From place.Materials p (then_levels ls rest) ≡ From place.Patch (record p { levels = p.levels ++ ls }) rest
first_levels_read p [] rest some whole = absurd (omega arith)
first_levels_read p (l ∷ ls) rest some whole =
    let h = All-head IsWholeLevel l ls whole in
    level_read place.Materials refl p l.line l.ratio l.boxes l.patches (then_levels ls rest) h.one_box h.some_patch
    ∙ levels_read (leveled p l) ls rest (All-tail IsWholeLevel l ls whole)
    ∙ ap (λ (w : List Level). From place.Patch (record p { levels = w }) rest) (append_assoc p.levels (l ∷ []) ls)

-- ---- variables and reductions

-- the same at each place where a reduction may come
abbrev AtReductions : Problem → List Placed → Option Draft → Type 0
AtReductions p rest d = (From place.Patch p rest ≡ d) × (From place.Var p rest ≡ d) × (From place.Reduction p rest ≡ d)

reductions_read : (p : Problem) (qs : List Reduction) (rest : List Placed) (d : Option Draft)
    → AtReductions (record p { reductions = p.reductions ++ qs }) rest d → AtReductions p (map reduction_statement qs ++ rest) d
reductions_read p [] rest d is =
    let e : From place.Patch (record p { reductions = p.reductions ++ [] }) rest ≡ From place.Patch p rest = ap (λ (w : List Reduction). From place.Patch (record p { reductions = w }) rest) (append-nil p.reductions) in
    let f : From place.Var (record p { reductions = p.reductions ++ [] }) rest ≡ From place.Var p rest = ap (λ (w : List Reduction). From place.Var (record p { reductions = w }) rest) (append-nil p.reductions) in
    let g : From place.Reduction (record p { reductions = p.reductions ++ [] }) rest ≡ From place.Reduction p rest = ap (λ (w : List Reduction). From place.Reduction (record p { reductions = w }) rest) (append-nil p.reductions) in
    (sym e ∙ is.0, sym f ∙ is.1, sym g ∙ is.2)
reductions_read p (q ∷ qs) rest d is =
    let next = record p { reductions = p.reductions ++ q ∷ [] } in
    let e : From place.Reduction (record next { reductions = next.reductions ++ qs }) rest ≡ From place.Reduction (record p { reductions = p.reductions ++ (q ∷ qs) }) rest =
    ap (λ (w : List Reduction). From place.Reduction (record p { reductions = w }) rest) (append_assoc p.reductions (q ∷ []) qs) in
    let e2 : From place.Patch (record next { reductions = next.reductions ++ qs }) rest ≡ From place.Patch (record p { reductions = p.reductions ++ (q ∷ qs) }) rest =
    ap (λ (w : List Reduction). From place.Patch (record p { reductions = w }) rest) (append_assoc p.reductions (q ∷ []) qs) in
    let e3 : From place.Var (record next { reductions = next.reductions ++ qs }) rest ≡ From place.Var (record p { reductions = p.reductions ++ (q ∷ qs) }) rest =
    ap (λ (w : List Reduction). From place.Var (record p { reductions = w }) rest) (append_assoc p.reductions (q ∷ []) qs) in
    let step = reductions_read next qs rest d (e2 ∙ is.0, e3 ∙ is.1, e ∙ is.2) in
    (step.2, step.2, step.2)

abbrev AtVars : Problem → List Placed → Option Draft → Type 0
AtVars p rest d = (From place.Patch p rest ≡ d) × (From place.Var p rest ≡ d)

vars_read : (p : Problem) (vs : List Var) (rest : List Placed) (d : Option Draft)
    → AtVars (record p { vars = p.vars ++ vs }) rest d → AtVars p (map var_statement vs ++ rest) d
vars_read p [] rest d is =
    let e : From place.Patch (record p { vars = p.vars ++ [] }) rest ≡ From place.Patch p rest = ap (λ (w : List Var). From place.Patch (record p { vars = w }) rest) (append-nil p.vars) in
    let f : From place.Var (record p { vars = p.vars ++ [] }) rest ≡ From place.Var p rest = ap (λ (w : List Var). From place.Var (record p { vars = w }) rest) (append-nil p.vars) in
    (sym e ∙ is.0, sym f ∙ is.1)
vars_read p (v ∷ vs) rest d is =
    let next = record p { vars = p.vars ++ v ∷ [] } in
    let e : From place.Patch (record next { vars = next.vars ++ vs }) rest ≡ From place.Patch (record p { vars = p.vars ++ (v ∷ vs) }) rest =
    ap (λ (w : List Var). From place.Patch (record p { vars = w }) rest) (append_assoc p.vars (v ∷ []) vs) in
    let f : From place.Var (record next { vars = next.vars ++ vs }) rest ≡ From place.Var (record p { vars = p.vars ++ (v ∷ vs) }) rest =
    ap (λ (w : List Var). From place.Var (record p { vars = w }) rest) (append_assoc p.vars (v ∷ []) vs) in
    let step = vars_read next vs rest d (e ∙ is.0, f ∙ is.1) in
    (step.1, step.1)

-- ---- tasks

-- the problem with such a task behind the others of the list
abbrev tasked : TaskList → Problem → Task → Problem
tasked tasks p t = with_tasks tasks (λ ts. ts ++ t ∷ []) p

changed : (tasks : TaskList) (p : Problem) (t : Task) (change : Task → Task) → with_tasks tasks (map_last change) (tasked tasks p t) ≡ tasked tasks p (change t)
changed list.Init p t change = ap (λ (w : List Task). record p { init = w }) (map_last-push change p.init t)
changed list.Timestep p t change = ap (λ (w : List Task). record p { timestep = w }) (map_last-push change p.timestep t)

-- the problem with more tasks behind the others of the list
abbrev more_tasks : TaskList → Problem → List Task → Problem
more_tasks tasks p more = with_tasks tasks (λ ts. ts ++ more) p

more_none : (tasks : TaskList) (p : Problem) → more_tasks tasks p [] ≡ p
more_none list.Init p = ap (λ (w : List Task). record p { init = w }) (append-nil p.init)
more_none list.Timestep p = ap (λ (w : List Task). record p { timestep = w }) (append-nil p.timestep)

more_some : (tasks : TaskList) (p : Problem) (t : Task) (ts : List Task) → more_tasks tasks (tasked tasks p t) ts ≡ more_tasks tasks p (t ∷ ts)
more_some list.Init p t ts = ap (λ (w : List Task). record p { init = w }) (append_assoc p.init (t ∷ []) ts)
more_some list.Timestep p t ts = ap (λ (w : List Task). record p { timestep = w }) (append_assoc p.timestep (t ∷ []) ts)

module _ (tasks : TaskList) where
  requirements_read : (p : Problem) (t : Task) (rs : List Require) (rest : List Placed)
      → From (place.Task tasks) (tasked tasks p t) (map require_statement rs ++ rest)
      ≡ From (place.Task tasks) (tasked tasks p (record t { requirements = t.requirements ++ rs })) rest
  requirements_read p t [] rest = ap (λ (w : List Require). From (place.Task tasks) (tasked tasks p (record t { requirements = w })) rest) (sym (append-nil t.requirements))
  requirements_read p t (r ∷ rs) rest =
      ap (λ (q : Problem). From (place.Task tasks) q (map require_statement rs ++ rest)) (changed tasks p t (with_requirement r))
      ∙ requirements_read p (with_requirement r t) rs rest
      ∙ ap (λ (w : List Require). From (place.Task tasks) (tasked tasks p (record t { requirements = w })) rest) (append_assoc t.requirements (r ∷ []) rs)

  writes_read : (p : Problem) (t : Task) (ws : List Write) (rest : List Placed)
      → From (place.Write tasks) (tasked tasks p t) (map write_statement ws ++ rest)
      ≡ From (place.Write tasks) (tasked tasks p (record t { writes = t.writes ++ ws })) rest
  writes_read p t [] rest = ap (λ (w : List Write). From (place.Write tasks) (tasked tasks p (record t { writes = w })) rest) (sym (append-nil t.writes))
  writes_read p t (w ∷ ws) rest =
      ap (λ (q : Problem). From (place.Write tasks) q (map write_statement ws ++ rest)) (changed tasks p t (with_write w))
      ∙ writes_read p (with_write w t) ws rest
      ∙ ap (λ (v : List Write). From (place.Write tasks) (tasked tasks p (record t { writes = v })) rest) (append_assoc t.writes (w ∷ []) ws)

  first_writes_read : (p : Problem) (t : Task) (ws : List Write) (rest : List Placed) → 1 ≤ length ws
      → From (place.Task tasks) (tasked tasks p t) (map write_statement ws ++ rest)
      ≡ From (place.Write tasks) (tasked tasks p (record t { writes = t.writes ++ ws })) rest
  first_writes_read p t [] rest some = absurd (omega arith)
  first_writes_read p t (w ∷ ws) rest some =
      ap (λ (q : Problem). From (place.Write tasks) q (map write_statement ws ++ rest)) (changed tasks p t (with_write w))
      ∙ writes_read p (with_write w t) ws rest
      ∙ ap (λ (v : List Write). From (place.Write tasks) (tasked tasks p (record t { writes = v })) rest) (append_assoc t.writes (w ∷ []) ws)

  -- the same at each place where a task may begin
  abbrev AtTasks : Problem → List Placed → Option Draft → Type 0
  AtTasks p rest d = (From (place.Opened tasks) p rest ≡ d) × (From (place.Write tasks) p rest ≡ d)

  task_read : (p : Problem) (t : Task) (rest : List Placed) → IsWholeTask t
      → From (place.Task tasks) (tasked tasks p (new_task t.line t.name t.levels t.materials)) (map require_statement t.requirements ++ (map write_statement t.writes ++ rest))
      ≡ From (place.Write tasks) (tasked tasks p t) rest
  task_read p t rest whole =
      requirements_read p (new_task t.line t.name t.levels t.materials) t.requirements (map write_statement t.writes ++ rest)
      ∙ first_writes_read p (record t { writes = [] }) t.writes rest whole

  tasks_read : (p : Problem) (ts : List Task) (rest : List Placed) (d : Option Draft) → All IsWholeTask ts
      → AtTasks (more_tasks tasks p ts) rest d → AtTasks p (then_tasks ts rest) d
  tasks_read p [] rest d whole is =
      let e = more_none tasks p in
      (ap (λ (q : Problem). From (place.Opened tasks) q rest) (sym e) ∙ is.0, ap (λ (q : Problem). From (place.Write tasks) q rest) (sym e) ∙ is.1)
  tasks_read p (t ∷ ts) rest d whole is =
      let e = more_some tasks p t ts in
      let behind = tasks_read (tasked tasks p t) ts rest d (All-tail IsWholeTask t ts whole)
      (ap (λ (q : Problem). From (place.Opened tasks) q rest) e ∙ is.0, ap (λ (q : Problem). From (place.Write tasks) q rest) e ∙ is.1) in
      let one = task_read p t (then_tasks ts rest) (All-head IsWholeTask t ts whole) ∙ behind.1 in
      (one, one)

-- ---- what is kept

abbrev AtKeeps : Problem → List Placed → Option Draft → Type 0
AtKeeps p rest d = (From (place.Opened list.Timestep) p rest ≡ d) × (From (place.Write list.Timestep) p rest ≡ d) × (From place.Keep p rest ≡ d)

keeps_read : (p : Problem) (ks : List Keep) (rest : List Placed) (d : Option Draft)
    → AtKeeps (record p { keeps = p.keeps ++ ks }) rest d → AtKeeps p (map keep_statement ks ++ rest) d
keeps_read p [] rest d is =
    let none : record p { keeps = p.keeps ++ [] } ≡ p = ap (λ (w : List Keep). record p { keeps = w }) (append-nil p.keeps) in (
      ap (λ (q : Problem). From (place.Opened list.Timestep) q rest) (sym none) ∙ is.0,
      ap (λ (q : Problem). From (place.Write list.Timestep) q rest) (sym none) ∙ is.1,
      ap (λ (q : Problem). From place.Keep q rest) (sym none) ∙ is.2,
    )
keeps_read p (k ∷ ks) rest d is =
    let next = record p { keeps = p.keeps ++ k ∷ [] } in
    let some : record next { keeps = next.keeps ++ ks } ≡ record p { keeps = p.keeps ++ (k ∷ ks) } = ap (λ (w : List Keep). record p { keeps = w }) (append_assoc p.keeps (k ∷ []) ks) in
    let step = keeps_read next ks rest d (
      ap (λ (q : Problem). From (place.Opened list.Timestep) q rest) some ∙ is.0,
      ap (λ (q : Problem). From (place.Write list.Timestep) q rest) some ∙ is.1,
      ap (λ (q : Problem). From place.Keep q rest) some ∙ is.2,
    ) in
    (step.2, step.2, step.2)

-- ---- whole problems

closing_read : (p q : Problem) → AtKeeps q (map keep_statement p.keeps ++ (at p.end_line statement.End ∷ []))
    (Some (draft place.End (record q { keeps = q.keeps ++ p.keeps; end_line = p.end_line })))
closing_read p q = keeps_read q p.keeps (at p.end_line statement.End ∷ []) _ (refl, refl, refl)

timestep_read : (p q : Problem) → All IsWholeTask p.timestep → AtTasks list.Init q (at p.timestep_line statement.Timestep ∷ then_tasks p.timestep (closing_statements p))
    (Some (draft place.End (record q { timestep_line = p.timestep_line; timestep = q.timestep ++ p.timestep; keeps = q.keeps ++ p.keeps; end_line = p.end_line })))
timestep_read p q whole =
    let next = record q { timestep_line = p.timestep_line } in
    let closing = closing_read p (more_tasks list.Timestep next p.timestep) in
    let read = tasks_read list.Timestep next p.timestep (closing_statements p) _ whole (closing.0, closing.1) in
    (read.0, read.0)

tasks_all_read : (p q : Problem) → All IsWholeTask p.init → All IsWholeTask p.timestep → AtReductions q (task_statements p)
    (Some (draft place.End (record q { init_line = p.init_line; init = q.init ++ p.init; timestep_line = p.timestep_line; timestep = q.timestep ++ p.timestep; keeps = q.keeps ++ p.keeps; end_line = p.end_line })))
tasks_all_read p q init timestep =
    let next = record q { init_line = p.init_line } in
    let read = tasks_read list.Init next p.init (at p.timestep_line statement.Timestep ∷ then_tasks p.timestep (closing_statements p)) _ init
    (timestep_read p (more_tasks list.Init next p.init) timestep) in
    (read.0, read.0, read.0)

variables_read : (p q : Problem) → All IsWholeTask p.init → All IsWholeTask p.timestep → From place.Patch q (variable_statements p)
    ≡ Some (draft place.End (record q { vars = q.vars ++ p.vars; reductions = q.reductions ++ p.reductions; init_line = p.init_line; init = q.init ++ p.init; timestep_line = p.timestep_line; timestep = q.timestep ++ p.timestep; keeps = q.keeps ++ p.keeps; end_line = p.end_line }))
variables_read p q init timestep =
    let next = record q { vars = q.vars ++ p.vars } in
    let reductions = reductions_read next p.reductions (task_statements p) _ (tasks_all_read p (record next { reductions = next.reductions ++ p.reductions }) init timestep) in
    (vars_read q p.vars (map reduction_statement p.reductions ++ task_statements p) _ (reductions.0, reductions.1)).0

-- a whole problem is read back from its statements
pub read_back : (p : Problem) → IsWhole p → draft_of (statements_of p) ≡ Some (draft place.End (record p { names = [] }))
unfolding statements_of
read_back p whole =
    let header : Problem = record empty_problem { version = p.version; steps = p.steps; dump = p.dump; ghost_limit = p.ghost_limit; materials = p.materials } in
    first_levels_read header p.levels (variable_statements p) whole.some_level whole.levels
    ∙ variables_read p (record header { levels = p.levels }) whole.init whole.timestep

-- ---- places

behind_all : (ss : List Placed) (before : Draft) (d : Draft) → drafted_all (Some before) ss ≡ Some d → place_behind (Some before.place) ss ≡ Some d.place
behind_all [] before d is = ap (λ (o : Option Draft). option_place o) is
  where
    option_place : Option Draft → Option Place
    option_place None = None
    option_place (Some d) = Some d.place
behind_all (s ∷ ss) before d is = by (next_place before.place (kind_of s.statement)) is (λ b. behind_all ss b d)
  where
    none : (ss : List Placed) → drafted_all None ss ≡ None
    none [] = refl
    none (s ∷ ss) = none ss

    by : (o : Option Place) → drafted_all (option_map (λ behind. draft behind (with_statement (list_of before.place) s.line s.statement before.problem)) o) ss ≡ Some d
        → ((b : Draft) → drafted_all (Some b) ss ≡ Some d → place_behind (Some b.place) ss ≡ Some d.place)
        → place_behind o ss ≡ Some d.place
    by None is more = let e = sym (none ss) ∙ is in absurd cc
    by (Some behind) is more = more (draft behind (with_statement (list_of before.place) s.line s.statement before.problem)) is

pub place_of_draft : (ss : List Placed) (d : Draft) → draft_of ss ≡ Some d → place_behind (Some place.Start) ss ≡ Some d.place
place_of_draft ss d is = behind_all ss (draft place.Start empty_problem) d is

pub whole_in_order : (p : Problem) → IsWhole p → place_behind (Some place.Start) (statements_of p) ≡ Some place.End
whole_in_order p whole = place_of_draft (statements_of p) (draft place.End (record p { names = [] })) (read_back p whole)
