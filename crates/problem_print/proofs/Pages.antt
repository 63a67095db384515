-- Lines that are put on a page, one after another.
use Rattle.std.proofs.Common.{◌≡◌, ℕ, suc, ◌-◌, ◌+◌, ◌<◌, ◌≤◌, List, [], ◌∷◌, ◌++◌, length, take, map, get_or, replicate, refl, ap, sym, ◌∙◌, subst, append_assoc}
use Rattle.std.proofs.lemmas.List.{append-nil, take_more, take_all, map-append}
use Rattle.std.proofs.lemmas.Grind.{flat_map-append}
use Rattle.std.specs.List.{flat_map}
use Rattle.kernel_parse.specs.Grammar.{Words}
use Rattle.problem_types.specs.declared.problem.Problem.{Problem}
use Rattle.problem_types.specs.declared.problem.Level.{Level}
use Rattle.problem_types.specs.declared.problem.Task.{Task}
use Rattle.problem_file.specs.Statements.{Placed, then_levels, then_tasks, closing_statements, variable_statements, statements_of}
use Rattle.problem_print.specs.Printed.{lines_text, statement_text}
use Rattle.problem_print.specs.Pages.{last_line, AddsLine, Adds, level_statements, task_statements, declarations, schedule}
use Rattle.problem_print.specs.declared.page.Page.{Page}

-- the text of some statements and more
pub lines-append : (names : Words) (last : ℕ) (ss us : List Placed) → lines_text names last (ss ++ us) ≡ lines_text names last ss ++ lines_text names (last_line last ss) us
lines-append names last [] us = refl
lines-append names last (s ∷ ss) us =
    let empty = replicate (s.line - suc last) 10 in
    let text = statement_text names s.statement in
    ap (λ (more : List ℕ). empty ++ (text ++ (10 ∷ more))) (lines-append names s.line ss us)
    ∙ ap (λ (more : List ℕ). empty ++ more) (sym (append_assoc text (10 ∷ lines_text names s.line ss) (lines_text names (last_line s.line ss) us)))
    ∙ sym (append_assoc empty (text ++ (10 ∷ lines_text names s.line ss)) (lines_text names (last_line s.line ss) us))

pub last-append : (last : ℕ) (ss us : List Placed) → last_line last (ss ++ us) ≡ last_line (last_line last ss) us
last-append last [] us = refl
last-append last (s ∷ ss) us = last-append s.line ss us

-- nothing, one statement, and some statements before others
pub adds_nothing : (names : Words) (page : Page) → Adds names [] page page
adds_nothing names page = record { text = sym (append-nil page.text.items); line = refl }

pub adds_one : (names : Words) (s : Placed) (old new : Page) → AddsLine (statement_text names s.statement) s.line old new → Adds names (s ∷ []) old new
adds_one names s old new a = record { text = a.text; line = a.line }

pub adds_both : (names : Words) (ss us : List Placed) (old mid new : Page) → Adds names ss old mid → Adds names us mid new → Adds names (ss ++ us) old new
adds_both names ss us old mid new a b = record {
  text = b.text ∙ ap (λ (t : List ℕ). t ++ lines_text names mid.line us) a.text ∙ append_assoc old.text.items (lines_text names old.line ss) (lines_text names mid.line us)
      ∙ ap (λ (n : ℕ). old.text.items ++ (lines_text names old.line ss ++ lines_text names n us)) a.line
      ∙ ap (λ (t : List ℕ). old.text.items ++ t) (sym (lines-append names old.line ss us));
  line = b.line ∙ ap (λ (n : ℕ). last_line n us) a.line ∙ sym (last-append old.line ss us);
}

-- one statement more of a list
pub adds_more_at : {X : Type 0} (placed : X → Placed) (names : Words) (xs : List X) (i : ℕ) (d : X) (old mid new : Page) → i < length xs
    → Adds names (map placed (take i xs)) old mid → Adds names (placed (get_or xs i d) ∷ []) mid new → Adds names (map placed (take (i + 1) xs)) old new
adds_more_at {X} placed names xs i d old mid new within a b =
    let same : map placed (take i xs) ++ placed (get_or xs i d) ∷ [] ≡ map placed (take (i + 1) xs) =
    sym (map-append placed (take i xs) (get_or xs i d ∷ [])) ∙ ap (map placed) (sym (take_more xs i d within)) in
    subst (λ (ss : List Placed). Adds names ss old new) same (adds_both names (map placed (take i xs)) (placed (get_or xs i d) ∷ []) old mid new a b)

pub adds_more : {X : Type 0} (placed : X → Placed) (names : Words) (xs : List X) (i : ℕ) (x : X) (old mid new : Page) → i < length xs → x ≡ get_or xs i x
    → Adds names (map placed (take i xs)) old mid → Adds names (placed x ∷ []) mid new → Adds names (map placed (take (i + 1) xs)) old new
adds_more {X} placed names xs i x old mid new within is a b =
    adds_more_at placed names xs i x old mid new within a (subst (λ (y : X). Adds names (placed y ∷ []) mid new) is b)

-- the statements of a whole list, where so many or more are put
pub adds_whole : {X : Type 0} (statements : List X → List Placed) (names : Words) (xs : List X) (i : ℕ) (old new : Page) → length xs ≤ i
    → Adds names (statements (take i xs)) old new → Adds names (statements xs) old new
adds_whole {X} statements names xs i old new past a = subst (λ (ys : List X). Adds names (statements ys) old new) (take_all i xs past) a

-- the statements of one more part
pub adds_more_parts : {X : Type 0} (parts : X → List Placed) (names : Words) (xs : List X) (i : ℕ) (x : X) (old mid new : Page) → i < length xs → x ≡ get_or xs i x
    → Adds names (flat_map parts (take i xs)) old mid → Adds names (parts x) mid new → Adds names (flat_map parts (take (i + 1) xs)) old new
adds_more_parts {X} parts names xs i x old mid new within is a b =
    let single : parts (get_or xs i x) ≡ flat_map parts (get_or xs i x ∷ []) = sym (append-nil (parts (get_or xs i x))) in
    let same : flat_map parts (take i xs) ++ parts x ≡ flat_map parts (take (i + 1) xs) =
    ap (λ (y : X). flat_map parts (take i xs) ++ parts y) is ∙ ap (λ (ss : List Placed). flat_map parts (take i xs) ++ ss) single
    ∙ sym (flat_map-append parts (take i xs) (get_or xs i x ∷ [])) ∙ ap (flat_map parts) (sym (take_more xs i x within)) in
    subst (λ (ss : List Placed). Adds names ss old new) same (adds_both names (flat_map parts (take i xs)) (parts x) old mid new a b)

-- ---- the statements of a problem, by parts

levels_flat : (levels : List Level) (rest : List Placed) → then_levels levels rest ≡ flat_map level_statements levels ++ rest
levels_flat [] rest = refl
levels_flat (l ∷ levels) rest = rw (levels_flat levels rest) (simp append_assoc)

tasks_flat : (tasks : List Task) (rest : List Placed) → then_tasks tasks rest ≡ flat_map task_statements tasks ++ rest
tasks_flat [] rest = refl
tasks_flat (t ∷ tasks) rest = rw (tasks_flat tasks rest) (simp append_assoc)

pub statements_by_parts : (p : Problem) → declarations p ++ schedule p ≡ statements_of p
unfolding statements_of
statements_by_parts p = rw (levels_flat p.levels (variable_statements p), tasks_flat p.timestep (closing_statements p), tasks_flat p.init _) (simp append_assoc)
