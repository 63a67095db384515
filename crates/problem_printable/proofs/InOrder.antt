-- How far the statements of a problem come tells whether they are in order.
use Rattle.std.proofs.Common.{◌≡◌, ℕ, Bool, true, false, refl, sym, ap, ◌∙◌, arith, rules, append_assoc, ◌↔◌, IsTrue, List, [], ◌∷◌, ◌++◌, map, Option, Some, None, IsSome, option_map, option_and_then, if◌then◌else◌, nat_lt, nat_eq, eq-eqb}
use Rattle.std.specs.List.{flat_map}
use Rattle.std.proofs.lemmas.Bool.Decides.{nat_tests}
use Rattle.std.proofs.lemmas.Option.{none-some}
use Rattle.problem_types.specs.Ascent.{last_ascending}
use Rattle.problem_types.specs.declared.problem.Problem.{Problem}
use Rattle.problem_types.specs.declared.problem.Level.{Level}
use Rattle.problem_types.specs.declared.problem.Task.{Task}
use Rattle.problem_file.specs.Statements.{Placed, box_statement, patch_statement, var_statement, reduction_statement, require_statement, write_statement, keep_statement, then_levels, then_tasks, closing_statements, task_statements, statements_of}
use Rattle.problem_printable.specs.Numbering.{statement_names, known_behind}
use Rattle.problem_printable.specs.Printable.{AreInOrder}
use Rattle.problem_printable.specs.Progress.{Mark, mark, reached, progress_behind, box_mark, require_mark, write_mark, level_marks, task_marks, grid_marks, closing_marks, timestep_marks, schedule_marks, problem_marks}
use Rattle.problem_printable.specs.declared.progress.Progress.{Progress}
use Rattle.problem_types.specs.Ascent.{increasing_where_some, some_where_increasing}
use Rattle.problem_printable.specs.Known.{known_followed, known_broken}

abbrev marked : Placed → Mark
marked s = mark s.line (statement_names s.statement)

-- ---- the marks are those of the statements

part : {A : Type 0} (f : A → Placed) (xs : List A) (rest : List Placed) (marks : List Mark) → map marked rest ≡ marks
    → map marked (map f xs ++ rest) ≡ map (λ x. marked (f x)) xs ++ marks
part f [] rest marks e = e
part f (x ∷ xs) rest marks e = ap (λ ms. marked (f x) ∷ ms) (part f xs rest marks e)

regroup : (a b c d : List Mark) → a ++ (b ++ (c ++ d)) ≡ ((a ++ b) ++ c) ++ d
regroup a b c d = simp append_assoc

levels_marked : (levels : List Level) (rest : List Placed) → map marked (then_levels levels rest) ≡ flat_map level_marks levels ++ map marked rest
levels_marked [] rest = refl
levels_marked (l ∷ levels) rest = ap (λ ms. mark l.line [] ∷ ms)
    (part box_statement l.boxes _ _ (part patch_statement l.patches _ _ (levels_marked levels rest))
    ∙ regroup (map box_mark l.boxes) (map box_mark l.patches) (flat_map level_marks levels) (map marked rest))

tasks_marked : (tasks : List Task) (rest : List Placed) → map marked (then_tasks tasks rest) ≡ flat_map task_marks tasks ++ map marked rest
tasks_marked [] rest = refl
tasks_marked (t ∷ tasks) rest = ap (λ ms. mark t.line (t.name ∷ []) ∷ ms)
    (part require_statement t.requirements _ _ (part write_statement t.writes _ _ (tasks_marked tasks rest))
    ∙ regroup (map require_mark t.requirements) (map write_mark t.writes) (flat_map task_marks tasks) (map marked rest))

closing_marked : (p : Problem) → map marked (closing_statements p) ≡ closing_marks p
closing_marked p = part keep_statement p.keeps _ _ refl

schedule_marked : (p : Problem) → map marked (task_statements p) ≡ schedule_marks p
unfolding timestep_marks
schedule_marked p = ap (λ ms. mark p.init_line [] ∷ ms)
    (tasks_marked p.init _ ∙ ap (λ ms. flat_map task_marks p.init ++ mark p.timestep_line [] ∷ ms)
    (tasks_marked p.timestep _ ∙ ap (λ ms. flat_map task_marks p.timestep ++ ms) (closing_marked p)))

all_marked : (p : Problem) → map marked (statements_of p) ≡ problem_marks p
unfolding statements_of problem_marks grid_marks
all_marked p = ap (λ ms. mark p.version.line [] ∷ mark p.steps.line [] ∷ mark p.dump.line [] ∷ mark p.ghost_limit.line [] ∷ mark p.materials.line [] ∷ ms)
    (levels_marked p.levels _ ∙ ap (λ ms. flat_map level_marks p.levels ++ ms)
    (part var_statement p.vars _ _ (part reduction_statement p.reductions _ _ (schedule_marked p))))

-- ---- how far they come

abbrev lines_of : List Placed → List ℕ
lines_of ss = map (λ s. s.line) ss

abbrev names_of : List Placed → List ℕ
names_of ss = flat_map (λ s. statement_names s.statement) ss

abbrev IsReached : Progress → List Placed → Progress → Type 0
IsReached a ss b = (last_ascending a.line (lines_of ss) ≡ Some b.line) × (known_behind a.known (names_of ss) ≡ Some b.known)

step_found : (a : Progress) (s : Placed) (ss : List Placed) (b : Progress) (test : Bool) (known : Option ℕ)
    → known_behind a.known (statement_names s.statement) ≡ known
    → ((c : Progress) → progress_behind c (map marked ss) ≡ Some b → IsReached c ss b)
    → option_and_then (λ c. progress_behind c (map marked ss)) (if test then option_map (reached s.line) known else None) ≡ Some b
    → ((if test then last_ascending s.line (lines_of ss) else None) ≡ Some b.line) × (known_behind a.known (statement_names s.statement ++ names_of ss) ≡ Some b.known)
step_found a s ss b false known k rest e = absurd (none-some b e)
step_found a s ss b true None k rest e = absurd (none-some b e)
step_found a s ss b true (Some n) k rest e =
    let more = rest (reached s.line n) e in
    (more.0, known_followed a.known (statement_names s.statement) (names_of ss) n k ∙ more.1)

found : (a : Progress) (ss : List Placed) (b : Progress) → progress_behind a (map marked ss) ≡ Some b → IsReached a ss b
found a [] b e = let same : a ≡ b = cc in (ap (λ c. Some c.line) same, ap (λ c. Some c.known) same)
found a (s ∷ ss) b e = step_found a s ss b (nat_lt a.line s.line) (known_behind a.known (statement_names s.statement)) refl (λ c. found c ss b) e

step_only : (a : Progress) (s : Placed) (ss : List Placed) (b : Progress) (test : Bool) (known : Option ℕ)
    → known_behind a.known (statement_names s.statement) ≡ known
    → ((c : Progress) → IsReached c ss b → progress_behind c (map marked ss) ≡ Some b)
    → (if test then last_ascending s.line (lines_of ss) else None) ≡ Some b.line
    → known_behind a.known (statement_names s.statement ++ names_of ss) ≡ Some b.known
    → option_and_then (λ c. progress_behind c (map marked ss)) (if test then option_map (reached s.line) known else None) ≡ Some b
step_only a s ss b false known k rest e f = absurd (none-some b.line e)
step_only a s ss b true None k rest e f =
    absurd (none-some b.known (sym (known_broken a.known (statement_names s.statement) (names_of ss) k) ∙ f))
step_only a s ss b true (Some n) k rest e f =
    rest (reached s.line n) (e, sym (known_followed a.known (statement_names s.statement) (names_of ss) n k) ∙ f)

only : (a : Progress) (ss : List Placed) (b : Progress) → IsReached a ss b → progress_behind a (map marked ss) ≡ Some b
only a [] b r =
    let line = r.0 in
    let known = r.1 in
    let same : reached a.line a.known ≡ reached b.line b.known = cc in
    ap (λ (c : Progress). Some c) same
only a (s ∷ ss) b r = step_only a s ss b (nat_lt a.line s.line) (known_behind a.known (statement_names s.statement)) refl (λ c. only c ss b) r.0 r.1

-- ---- in order

abbrev IsInOrder : Problem → ℕ → Type 0
IsInOrder p names = AreInOrder (statements_of p) × (known_behind 0 (names_of (statements_of p)) ≡ Some names)

reached_of : (p : Problem) (b : Progress) → progress_behind (reached 0 0) (problem_marks p) ≡ Some b → IsReached (reached 0 0) (statements_of p) b
reached_of p b e = found (reached 0 0) (statements_of p) b (ap (progress_behind (reached 0 0)) (all_marked p) ∙ e)

known_is : (r : Option ℕ) (m n : ℕ) → r ≡ Some m → r ≡ Some n → m ≡ n
known_is r m n e f = cc

pub decided_found : (p : Problem) (b : Progress) (names : ℕ) → progress_behind (reached 0 0) (problem_marks p) ≡ Some b
    → IsTrue (nat_eq b.known names) ↔ IsInOrder p names
decided_found p b names e =
    let r = reached_of p b e in (
      λ same. (increasing_where_some 0 _ (let last = r.0 in search rules), r.1 ∙ ap (λ n. Some n) (let is : b.known ≡ names = grind (arith, nat_tests) in is)),
      λ h. eq-eqb b.known names (known_is _ b.known names r.1 h.1),
    )

-- the last of the lines that ascend
last_of : (r : Option ℕ) → IsSome r → (n : ℕ) × (r ≡ Some n)
last_of None some = absurd cc
last_of (Some n) some = (n, refl)

pub decided_nowhere : (p : Problem) (names : ℕ) → progress_behind (reached 0 0) (problem_marks p) ≡ None
    → IsTrue false ↔ IsInOrder p names
decided_nowhere p names e = (
  λ no. absurd cc,
  λ h.
      let last = last_of _ (some_where_increasing 0 (lines_of (statements_of p)) h.0) in
      let found = ap (progress_behind (reached 0 0)) (sym (all_marked p)) ∙ only (reached 0 0) (statements_of p) (reached last.0 names) (last.1, h.1) in
      absurd (none-some (reached last.0 names) (sym e ∙ found)),
)
