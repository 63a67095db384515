-- What a text spells is in form.
use Rattle.std.proofs.Common.{◌≡◌, ℕ, zero, suc, ◌+◌, ◌-◌, ◌≤◌, ◌<◌, ◌^◌, List, [], ◌∷◌, ◌++◌, length, map, get_or, refl, sym, ap, ◌∙◌, subst, add-one, append_assoc, arith}
use Rattle.std.specs.Prelude.{All}
use Rattle.std.specs.List.{flat_map, AllByRecursion}
use Rattle.std.specs.List.Sorted.{IsStrictlyIncreasing}
use Rattle.std.proofs.lemmas.List.{length-append, length-map, map-append}
use Rattle.std.proofs.lemmas.List.Elements.{All-from_recursion, recursion_from_All}
use Rattle.uts_lex.specs.Lines.{line_at}
use Rattle.kernel_parse.specs.Grammar.{Words}
use Rattle.problem_types.specs.Form.{IsLevelInForm, IsWriteInForm, IsTaskInForm, AreTasksInForm, IsWhatInForm, level_lines, task_lines, grid_lines, closing_lines, timestep_lines, schedule_lines, later_lines, IsProblemInForm}
use Rattle.problem_types.specs.declared.problem.Problem.{Problem}
use Rattle.problem_types.specs.declared.problem.Level.{Level}
use Rattle.problem_types.specs.declared.problem.Task.{Task}
use Rattle.statement_parse.specs.Form.{IsStatementInForm}
use Rattle.statement_parse.specs.Laws.{FewNewNames, StatementsAreInForm}
use Rattle.statement_parse.specs.declared.statement.Statement.TheVariants as statement
use Rattle.problem_file.specs.Statements.{Placed, at, box_statement, patch_statement, var_statement, reduction_statement, require_statement, write_statement, keep_statement, then_levels, then_tasks, closing_statements, task_statements, variable_statements, statements_of, IsWholeLevel, IsWholeTask, IsWhole}
use Rattle.problem_file.specs.Grammar.{BeginsWith, nothing, empty_line, statement as said, Spells}
use Rattle.problem_file.specs.declared.order.Place.{Place}
use Rattle.problem_file.proofs.Reached.{few_tokens, line_lies}

-- ---- what holds of all statements of a text

-- lines that ascend from behind a line up to another
abbrev Rises : ℕ → List ℕ → ℕ → Type 0
Rises a [] b = a ≤ b
Rises a (x ∷ xs) b = (a < x) × Rises x xs b

rises_more : (a : ℕ) (xs : List ℕ) (b : ℕ) → Rises a xs b → Rises a (xs ++ suc b ∷ []) (suc b)
rises_more a [] b r = (omega arith, omega arith)
rises_more a (x ∷ xs) b r = (r.0, rises_more x xs b r.1)

rises_further : (a : ℕ) (xs : List ℕ) (b : ℕ) → Rises a xs b → Rises a xs (suc b)
rises_further a [] b r = omega arith
rises_further a (x ∷ xs) b r = (r.0, rises_further x xs b r.1)

increasing : (a : ℕ) (xs : List ℕ) (b : ℕ) → Rises a xs b → (k : ℕ) → suc k < length xs → get_or xs k 0 < get_or xs (suc k) 0
increasing a [] b r k lt = absurd (omega arith)
increasing a (x ∷ []) b r k lt = absurd (omega arith)
increasing a (x ∷ y ∷ xs) b r zero lt = r.1.0
increasing a (x ∷ y ∷ xs) b r (suc k) lt = increasing x (y ∷ xs) b r.1 k (omega arith)

is_increasing : (a : ℕ) (xs : List ℕ) (b : ℕ) → Rises a xs b → IsStrictlyIncreasing xs
is_increasing a xs b r = λ k lt.
    let lt' : suc k < length xs = omega arith in
    subst (λ n. get_or xs k 0 < get_or xs n 0) (sym (add-one k)) (increasing a xs b r k lt')

abbrev Each : {A : Type 0} → (A → Type 0) → List A → Type 0
Each P xs = AllByRecursion P xs

each_more : {A : Type 0} (P : A → Type 0) (xs : List A) (x : A) → Each P xs → P x → Each P (xs ++ x ∷ [])
each_more P [] x e p = (p, tt)
each_more P (y ∷ xs) x e p = (e.0, each_more P xs x e.1 p)

each_weaker : {A : Type 0} (P Q : A → Type 0) (xs : List A) → ((x : A) → P x → Q x) → Each P xs → Each Q xs
each_weaker P Q [] f e = tt
each_weaker P Q (x ∷ xs) f e = (f x e.0, each_weaker P Q xs f e.1)

-- a statement up to a line is in form over so many names
record IsFine (lines known : ℕ) (s : Placed) : Type 0 where
  line : s.line ≤ lines
  form : IsStatementInForm known s.statement

record Facts (text : List ℕ) (to lines : ℕ) (ss : List Placed) (names : Words) : Type 0 where
  rises : Rises 0 (map (λ s. s.line) ss) lines
  count : length ss ≤ lines
  few_lines : lines ≤ to
  few_names : length names ≤ to
  inside : to ≤ length text
  fine : (known : ℕ) → length names ≤ known → Each (IsFine lines known) ss

module _ (few : FewNewNames) (in_form_law : StatementsAreInForm) (text : List ℕ) (short : length text < 2 ^ 31) where
  facts : {to lines : ℕ} {before : Place} {ss : List Placed} {names : Words} → BeginsWith text to lines before ss names → Facts text to lines ss names
  facts nothing = record { rises = omega arith; count = omega arith; few_lines = omega arith; few_names = omega arith; inside = omega arith; fine = λ known le. tt }
  facts (empty_line from lines before ss names b lt none) =
      let f = facts b in
      let l = line_lies text from lt in
      record {
        rises = rises_further 0 (map (λ s. s.line) ss) lines f.rises;
        count = omega (arith, f.count);
        few_lines = omega (arith, f.few_lines, l.further);
        few_names = omega (arith, f.few_names, l.further);
        inside = l.inside;
        fine = λ known le. each_weaker (IsFine lines known) (IsFine (suc lines) known) ss (λ s h. record { line = omega (arith, h.line); form = h.form }) (f.fine known le);
      }
  facts (said from lines before behind ss names after ts s b lt tokens spelled may) =
      let f = facts b in
      let l = line_lies text from lt in
      let new = few ts names after s spelled in
      let bytes = few_tokens (line_at text from) ts tokens in
      let more : length after ≡ length names + length new.0.more = ap (λ (w : Words). length w) new.0.words ∙ length-append names new.0.more in
      record {
        rises = subst (λ w. Rises 0 w (suc lines)) (sym (map-append (λ s. s.line) ss (at (suc lines) s ∷ []))) (rises_more 0 (map (λ s. s.line) ss) lines f.rises);
        count = simp length-append (omega (arith, f.count));
        few_lines = omega (arith, f.few_lines, l.further);
        few_names = omega (arith, f.few_names, l.bytes, new.1, bytes);
        inside = l.inside;
        fine = λ known le.
            each_more (IsFine (suc lines) known) ss (at (suc lines) s)
            (each_weaker (IsFine lines known) (IsFine (suc lines) known) ss (λ s h. record { line = omega (arith, h.line); form = h.form }) (f.fine known (omega (arith, more))))
            (record { line = omega arith; form = in_form_law ts names after s known spelled le (omega (arith, bytes, l.bytes, l.inside)) });
      }

-- ---- the parts of a problem

each_mapped : {A : Type 0} (P : Placed → Type 0) (f : A → Placed) (xs : List A) (rest : List Placed) → Each P (map f xs ++ rest) → Each (λ x. P (f x)) xs × Each P rest
each_mapped P f [] rest e = (tt, e)
each_mapped P f (x ∷ xs) rest e = let h = each_mapped P f xs rest e.1 in ((e.0, h.0), h.1)

length_mapped : {A : Type 0} (f : A → Placed) (xs : List A) (rest : List Placed) → length (map f xs ++ rest) ≡ length xs + length rest
length_mapped f xs rest = simp (length-append, length-map) refl

lines_mapped : {A : Type 0} (f : A → Placed) (g : A → ℕ) → ((x : A) → (f x).line ≡ g x) → (xs : List A) (rest : List Placed)
    → map (λ s. s.line) (map f xs ++ rest) ≡ map g xs ++ map (λ s. s.line) rest
lines_mapped f g same [] rest = refl
lines_mapped f g same (x ∷ xs) rest = ap (λ w. (f x).line ∷ w) (lines_mapped f g same xs rest) ∙ ap (λ (n : ℕ). n ∷ (map g xs ++ map (λ s. s.line) rest)) (same x)

module _ (P : Placed → Type 0) where
  -- what holds of the statements of a level, and of a task
  record OfLevel (l : Level) : Type 0 where
    patches : Each (λ b. P (patch_statement b)) l.patches

  each_level : (ls : List Level) (rest : List Placed) → Each P (then_levels ls rest) → Each P rest
  each_level [] rest e = e
  each_level (l ∷ ls) rest e =
      let boxes = each_mapped P box_statement l.boxes (map patch_statement l.patches ++ then_levels ls rest) e.1 in
      let patches = each_mapped P patch_statement l.patches (then_levels ls rest) boxes.1 in
      each_level ls rest patches.1

  record OfTask (t : Task) : Type 0 where
    line : P (at t.line (statement.Task t.name t.levels t.materials))
    requirements : Each (λ r. P (require_statement r)) t.requirements
    writes : Each (λ w. P (write_statement w)) t.writes

  each_task : (ts : List Task) (rest : List Placed) → Each P (then_tasks ts rest) → Each OfTask ts × Each P rest
  each_task [] rest e = (tt, e)
  each_task (t ∷ ts) rest e =
      let requirements = each_mapped P require_statement t.requirements (map write_statement t.writes ++ then_tasks ts rest) e.1 in
      let writes = each_mapped P write_statement t.writes (then_tasks ts rest) requirements.1 in
      let more = each_task ts rest writes.1 in
      ((record { line = e.0; requirements = requirements.0; writes = writes.0 }, more.0), more.1)

-- the lists are no longer than all statements
record ShortLevels (n : ℕ) (ls : List Level) (rest : List Placed) : Type 0 where
  few : length ls ≤ n
  patches : Each (λ l. length l.patches ≤ n) ls
  behind : length rest ≤ n

short_levels : (n : ℕ) (ls : List Level) (rest : List Placed) → length (then_levels ls rest) ≤ n → ShortLevels n ls rest
short_levels n [] rest le = record { few = omega arith; patches = tt; behind = le }
short_levels n (l ∷ ls) rest le =
    let boxes = length_mapped box_statement l.boxes (map patch_statement l.patches ++ then_levels ls rest) in
    let patches = length_mapped patch_statement l.patches (then_levels ls rest) in
    let h = short_levels (n - 1) ls rest (omega (arith, boxes, patches)) in
    record {
      few = omega (arith, h.few, boxes, patches);
      patches = (omega (arith, boxes, patches), each_weaker (λ l. length l.patches ≤ n - 1) (λ l. length l.patches ≤ n) ls (λ l s. omega arith) h.patches);
      behind = omega (arith, h.behind);
    }

record ShortTask (n : ℕ) (t : Task) : Type 0 where
  requirements : length t.requirements ≤ n
  writes : length t.writes ≤ n

record ShortTasks (n : ℕ) (ts : List Task) (rest : List Placed) : Type 0 where
  few : length ts ≤ n
  each : Each (ShortTask n) ts
  behind : length rest ≤ n

short_tasks : (n : ℕ) (ts : List Task) (rest : List Placed) → length (then_tasks ts rest) ≤ n → ShortTasks n ts rest
short_tasks n [] rest le = record { few = omega arith; each = tt; behind = le }
short_tasks n (t ∷ ts) rest le =
    let requirements = length_mapped require_statement t.requirements (map write_statement t.writes ++ then_tasks ts rest) in
    let writes = length_mapped write_statement t.writes (then_tasks ts rest) in
    let h = short_tasks (n - 1) ts rest (omega (arith, requirements, writes)) in
    record {
      few = omega (arith, h.few, requirements, writes);
      each = (
        record { requirements = omega (arith, requirements, writes); writes = omega (arith, requirements, writes) },
        each_weaker (ShortTask (n - 1)) (ShortTask n) ts (λ t s. record { requirements = omega (arith, s.requirements); writes = omega (arith, s.writes) }) h.each,
      );
      behind = omega (arith, h.behind);
    }

-- ---- the lines

lines_of_levels : (ls : List Level) (rest : List Placed) → map (λ s. s.line) (then_levels ls rest) ≡ flat_map level_lines ls ++ map (λ s. s.line) rest
lines_of_levels [] rest = refl
lines_of_levels (l ∷ ls) rest =
    let patches = lines_mapped patch_statement (λ b. b.line) (λ b. refl) l.patches (then_levels ls rest) in
    ap (λ w. l.line ∷ w) (
    lines_mapped box_statement (λ b. b.line) (λ b. refl) l.boxes (map patch_statement l.patches ++ then_levels ls rest)
    ∙ ap (λ w. map (λ b. b.line) l.boxes ++ w) (patches ∙ ap (λ w. map (λ b. b.line) l.patches ++ w) (lines_of_levels ls rest))
    ∙ simp append_assoc)

lines_of_tasks : (ts : List Task) (rest : List Placed) → map (λ s. s.line) (then_tasks ts rest) ≡ flat_map task_lines ts ++ map (λ s. s.line) rest
lines_of_tasks [] rest = refl
lines_of_tasks (t ∷ ts) rest =
    let writes = lines_mapped write_statement (λ w. w.line) (λ w. refl) t.writes (then_tasks ts rest) in
    ap (λ w. t.line ∷ w) (
    lines_mapped require_statement (λ r. r.line) (λ r. refl) t.requirements (map write_statement t.writes ++ then_tasks ts rest)
    ∙ ap (λ w. map (λ r. r.line) t.requirements ++ w) (writes ∙ ap (λ w. map (λ v. v.line) t.writes ++ w) (lines_of_tasks ts rest))
    ∙ simp append_assoc)

all_lines : (p : Problem) → map (λ s. s.line) (statements_of p) ≡ p.version.line ∷ later_lines p
unfolding statements_of later_lines grid_lines timestep_lines
all_lines p =
    let closing : map (λ s. s.line) (closing_statements p) ≡ closing_lines p = lines_mapped keep_statement (λ k. k.line) (λ k. refl) p.keeps (at p.end_line statement.End ∷ []) in
    let timestep = lines_of_tasks p.timestep (closing_statements p) ∙ ap (λ w. flat_map task_lines p.timestep ++ w) closing in
    let init = lines_of_tasks p.init (at p.timestep_line statement.Timestep ∷ then_tasks p.timestep (closing_statements p)) ∙ ap (λ w. flat_map task_lines p.init ++ (p.timestep_line ∷ w)) timestep in
    let tasks : map (λ s. s.line) (task_statements p) ≡ schedule_lines p = ap (λ w. p.init_line ∷ w) init in
    let variables = lines_mapped var_statement (λ v. v.line) (λ v. refl) p.vars (map reduction_statement p.reductions ++ task_statements p)
    ∙ ap (λ w. map (λ v. v.line) p.vars ++ w) (lines_mapped reduction_statement (λ q. q.line) (λ q. refl) p.reductions (task_statements p) ∙ ap (λ w. map (λ q. q.line) p.reductions ++ w) tasks) in
    ap (λ w. p.version.line ∷ p.steps.line ∷ p.dump.line ∷ p.ghost_limit.line ∷ p.materials.line ∷ w)
    (lines_of_levels p.levels (variable_statements p) ∙ ap (λ w. flat_map level_lines p.levels ++ w) variables)

-- ---- whole problems

tasks_in_form : (lines n : ℕ) (p : Problem) (ts : List Task) → n < 2 ^ 31 → length ts ≤ n → Each (OfTask (IsFine lines (length p.names))) ts → Each (ShortTask n) ts → All IsWholeTask ts
    → AreTasksInForm (length p.names) ts
tasks_in_form lines n p ts small few each short whole = record {
  few = omega arith;
  each = All-from_recursion (IsTaskInForm (length p.names)) ts (by ts each short (recursion_from_All IsWholeTask ts whole));
}
  where
    by : (ts : List Task) → Each (OfTask (IsFine lines (length p.names))) ts → Each (ShortTask n) ts → Each IsWholeTask ts → Each (IsTaskInForm (length p.names)) ts
    by [] each short whole = tt
    by (t ∷ ts) each short whole =
        let h = each.0 in
        let f = h.line.form in (
          record {
            name = f.0;
            levels = f.1;
            materials = f.2;
            few_requirements = omega (arith, short.0.requirements);
            requirements = All-from_recursion (λ r. IsWhatInForm (length p.names) r.what) t.requirements
                (each_weaker (λ r. IsFine lines (length p.names) (require_statement r)) (λ r. IsWhatInForm (length p.names) r.what) t.requirements (λ r g. g.form) h.requirements);
            some_write = whole.0;
            few_writes = omega (arith, short.0.writes);
            writes = All-from_recursion (IsWriteInForm (length p.names)) t.writes
                (each_weaker (λ w. IsFine lines (length p.names) (write_statement w)) (IsWriteInForm (length p.names)) t.writes (λ w g. record { name = g.form.0; expr = g.form.1 }) h.writes);
          },
          by ts each.1 short.1 whole.1,
        )

levels_in_form : (n : ℕ) (ls : List Level) → n < 2 ^ 31 → Each (λ l. length l.patches ≤ n) ls → All IsWholeLevel ls → All IsLevelInForm ls
levels_in_form n ls small short whole = All-from_recursion IsLevelInForm ls (by ls short (recursion_from_All IsWholeLevel ls whole))
  where
    by : (ls : List Level) → Each (λ l. length l.patches ≤ n) ls → Each IsWholeLevel ls → Each IsLevelInForm ls
    by [] short whole = tt
    by (l ∷ ls) short whole =
        let s = short.0 in
        (record { one_box = whole.0.one_box; some_patch = whole.0.some_patch; few_patches = omega arith }, by ls short.1 whole.1)

module _ (lines n : ℕ) (p : Problem) (small : n < 2 ^ 31) (few_lines : lines ≤ n) where
  problem_in_form : length p.names ≤ n → length (statements_of p) ≤ n → Rises 0 (map (λ s. s.line) (statements_of p)) lines
      → Each (IsFine lines (length p.names)) (statements_of p) → IsWhole p → IsProblemInForm p
  unfolding statements_of
  problem_in_form names count rises fine whole =
      let P = IsFine lines (length p.names) in
      let behind = fine.1.1.1.1.1 in
      let variables = each_level P p.levels (variable_statements p) behind in
      let vars = each_mapped P var_statement p.vars (map reduction_statement p.reductions ++ task_statements p) variables in
      let reductions = each_mapped P reduction_statement p.reductions (task_statements p) vars.1 in
      let init = each_task P p.init (at p.timestep_line statement.Timestep ∷ then_tasks p.timestep (closing_statements p)) reductions.1.1 in
      let timestep = each_task P p.timestep (closing_statements p) init.1.1 in
      let keeps = each_mapped P keep_statement p.keeps (at p.end_line statement.End ∷ []) timestep.1 in
      let short = short_levels n p.levels (variable_statements p) (omega arith) in
      let few_vars = length_mapped var_statement p.vars (map reduction_statement p.reductions ++ task_statements p) in
      let few_reductions = length_mapped reduction_statement p.reductions (task_statements p) in
      let short_init = short_tasks n p.init (at p.timestep_line statement.Timestep ∷ then_tasks p.timestep (closing_statements p)) (omega (arith, short.behind, few_vars, few_reductions)) in
      let short_timestep = short_tasks n p.timestep (closing_statements p) (omega (arith, short_init.behind)) in
      let few_keeps = length_mapped keep_statement p.keeps (at p.end_line statement.End ∷ []) in
      record {
        version = fine.0.form;
        dump = fine.1.1.0.form;
        materials = fine.1.1.1.1.0.form;
        few_names = omega arith;
        some_level = whole.some_level;
        few_levels = omega (arith, short.few);
        levels = levels_in_form n p.levels small short.patches whole.levels;
        few_vars = omega (arith, short.behind, few_vars);
        vars = All-from_recursion (λ v. v.name < length p.names) p.vars (each_weaker (λ v. P (var_statement v)) (λ v. v.name < length p.names) p.vars (λ v g. g.form) vars.0);
        few_reductions = omega (arith, short.behind, few_vars, few_reductions);
        reductions = All-from_recursion (λ q. q.name < length p.names) p.reductions (each_weaker (λ q. P (reduction_statement q)) (λ q. q.name < length p.names) p.reductions (λ q g. g.form) reductions.0);
        init = tasks_in_form lines n p p.init small short_init.few init.0 short_init.each whole.init;
        timestep = tasks_in_form lines n p p.timestep small short_timestep.few timestep.0 short_timestep.each whole.timestep;
        few_keeps = omega (arith, short_timestep.behind, few_keeps);
        keeps = All-from_recursion (λ k. k.name < length p.names) p.keeps (each_weaker (λ k. P (keep_statement k)) (λ k. k.name < length p.names) p.keeps (λ k g. g.form) keeps.0);
        lines = record {
          ascending = subst IsStrictlyIncreasing (all_lines p) (is_increasing 0 (map (λ s. s.line) (statements_of p)) lines rises);
          below = omega (arith, keeps.1.0.line);
        };
      }

pub in_form : FewNewNames → StatementsAreInForm → (text : List ℕ) (p : Problem) → Spells text p → length text < 2 ^ 31 → IsProblemInForm p
in_form few law text p spells short =
    let f = facts few law text short spells.spelled in
    problem_in_form spells.lines (length text) p short (omega (arith, f.few_lines)) (omega (arith, f.few_names)) (omega (arith, f.count, f.few_lines)) f.rises (f.fine (length p.names) (omega arith)) spells.whole
