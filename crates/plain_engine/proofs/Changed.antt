-- What a task leaves is what stood, with the fields and the reductions that it gives.
use Rattle.std.proofs.Common.{◌≡◌, ◌∙◌, ℕ, ℤ, List, [], ◌∷◌, ◌++◌, map, Bool, true, false, ◌&&◌, ◌||◌, ◌==◌, cond, Option, Some, ap, sym, refl, inl, inr, fold}
use Rattle.std.proofs.Math.Path.{fun_ext}
use Rattle.std.specs.Prelude.{if◌then◌else◌}
use Rattle.std.specs.List.{flat_map, list_any, find}
use Rattle.std.specs.Option.{option_map_or}
use Rattle.std.proofs.lemmas.Bool.{eqb-true, and_parts, cases_eq, eq-eqb, ne_eqb}
use Rattle.uts_geom.specs.declared.index.Index.{Index}
use Rattle.problem_types.specs.Lists.{runs_on, reduction_write, is_of_field, is_reduces, centring_of, outside_of, fold_of}
use Rattle.problem_types.specs.Regions.{is_in_space}
use Rattle.problem_types.specs.declared.problem.Problem.{Problem}
use Rattle.problem_types.specs.declared.problem.Task.{Task}
use Rattle.problem_types.specs.declared.problem.Write.{Write}
use Rattle.kernel_ast.specs.Value.{value_of}
use Rattle.reductions.specs.Folding.{all_combined}
use Rattle.uts_model.specs.WholeField.{State, environment, contributions, after_task, after_tasks, unset}
use Rattle.plain_engine.specs.Changes.{FieldChange, IsBlankOutside, with_fields, with_numbers, field_change, line_changes, field_changes, number_changes}
use Rattle.plain_engine.specs.declared.written.WrittenNumber.{WrittenNumber}

same_test : (a b : ℕ) → (a == b) ≡ (b == a)
same_test a b =
    elim (cases_eq a b) [
      | inl is ↦ eq-eqb a b is ∙ sym (eq-eqb b a (sym is))
      | inr other ↦ ne_eqb a b other ∙ sym (ne_eqb b a (λ is. other (sym is)))
    ]

-- a change is of this field
abbrev is_of : FieldChange → (name material level : ℕ) → Bool
is_of x name material level = (name == x.name) && ((material == x.material) && (level == x.level))

-- the number at an index by the first change of this field, where there is one
number_by : List FieldChange → (name material level : ℕ) → Index → ℤ → ℤ
number_by [] name material level i stood = stood
number_by (x ∷ xs) name material level i stood =
    if is_of x name material level then x.number i else number_by xs name material level i stood

number_by-append : (xs ys : List FieldChange) (name material level : ℕ) (i : Index) (stood : ℤ) →
    number_by (xs ++ ys) name material level i stood ≡ number_by xs name material level i (number_by ys name material level i stood)
unfolding number_by
number_by-append [] ys name material level i stood = refl
number_by-append (x ∷ xs) ys name material level i stood =
    ap (λ n. if is_of x name material level then x.number i else n) (number_by-append xs ys name material level i stood)

-- one change more, where the index lies inside or not
one_more : (changed there inside : Bool) (by next stood rest : ℤ) → (changed ≡ true → there ≡ inside) →
    rest ≡ (if inside then next else stood) →
    (if changed && there then by else rest) ≡ (if inside then (if changed then by else next) else stood)
one_more true true true by next stood rest alike is = refl
one_more true true false by next stood rest alike is = let same : true ≡ false = alike refl in cc
one_more true false true by next stood rest alike is = let same : false ≡ true = alike refl in cc
one_more true false false by next stood rest alike is = is
one_more false there true by next stood rest alike is = is
one_more false there false by next stood rest alike is = is

same_space : (p : Problem) (x : FieldChange) (name material level : ℕ) (i : Index) → is_of x name material level ≡ true →
    is_in_space p x.level (centring_of p x.name) i ≡ is_in_space p level (centring_of p name) i
same_space p x name material level i is =
    let parts = and_parts _ _ is in
    ap (λ l. is_in_space p l (centring_of p x.name) i) (sym (eqb-true _ _ (and_parts _ _ parts.1).1))
    ∙ ap (λ n. is_in_space p level (centring_of p n) i) (sym (eqb-true _ _ parts.0))

field-with_fields : (p : Problem) (s : State) (xs : List FieldChange) (name material level : ℕ) (i : Index) →
    (with_fields p s xs).field name material level i
    ≡ (if is_in_space p level (centring_of p name) i
    then number_by xs name material level i (s.field name material level i)
    else s.field name material level i)
unfolding number_by
field-with_fields p s [] name material level i = same_either (is_in_space p level (centring_of p name) i) where
  same_either : (b : Bool) → s.field name material level i ≡ (if b then s.field name material level i else s.field name material level i)
  same_either true = refl
  same_either false = refl
field-with_fields p s (x ∷ xs) name material level i =
    one_more (is_of x name material level) (is_in_space p x.level (centring_of p x.name) i) (is_in_space p level (centring_of p name) i) (x.number i)
    (number_by xs name material level i (s.field name material level i)) (s.field name material level i)
    ((with_fields p s xs).field name material level i) (same_space p x name material level i) (field-with_fields p s xs name material level i)

-- one material more: a change of it is the first of the field, or does not matter
one_material : (is_named is_material is_level others : Bool) (by wanted stood rest : ℤ) → (is_material ≡ true → is_level ≡ true → by ≡ wanted) →
    rest ≡ (if is_named && (others && is_level) then wanted else stood) →
    (if is_named && (is_material && is_level) then by else rest)
    ≡ (if is_named && ((is_material || others) && is_level) then wanted else stood)
one_material false is_material is_level others by wanted stood rest same is = is
one_material true true true others by wanted stood rest same is = same refl refl
one_material true true false true by wanted stood rest same is = is
one_material true true false false by wanted stood rest same is = is
one_material true false is_level others by wanted stood rest same is = is

-- one level more
one_level : (is_named on_materials is_level others : Bool) (wanted stood rest : ℤ) → rest ≡ (if is_named && (on_materials && others) then wanted else stood) →
    (if is_named && (on_materials && is_level) then wanted else rest)
    ≡ (if is_named && (on_materials && (is_level || others)) then wanted else stood)
one_level false on_materials is_level others wanted stood rest is = is
one_level true false is_level others wanted stood rest is = is
one_level true true true others wanted stood rest is = refl
one_level true true false others wanted stood rest is = is

-- the changes of a line at an index of a field
module _ (p : Problem) (step : ℕ) (old new : State) (w : Write) (name material level : ℕ) (i : Index) where
  by_kernel : (level material : ℕ) → ℤ
  by_kernel l m = value_of w.expr (environment p step old new m l i)

  number_by-materials : (l : ℕ) (materials : List ℕ) (stood : ℤ) →
      number_by (map (field_change p step old new w l) materials) name material level i stood
      ≡ (if (name == w.name) && (list_any (λ m. m == material) materials && (level == l)) then by_kernel level material else stood)
  unfolding number_by by_kernel
  number_by-materials l [] stood = unnamed (name == w.name) where
    unnamed : (b : Bool) → stood ≡ (if b && false then by_kernel level material else stood)
    unnamed true = refl
    unnamed false = refl
  number_by-materials l (m ∷ materials) stood =
      rw (← same_test material m)
      (one_material (name == w.name) (material == m) (level == l) (list_any (λ m. m == material) materials) (by_kernel l m) (by_kernel level material) stood
      (number_by (map (field_change p step old new w l) materials) name material level i stood)
      (λ on at. ap (λ k. by_kernel k m) (sym (eqb-true level l at)) ∙ ap (by_kernel level) (sym (eqb-true material m on)))
      (number_by-materials l materials stood))

  number_by-levels : (materials levels : List ℕ) (stood : ℤ) →
      number_by (flat_map (λ l. map (field_change p step old new w l) materials) levels) name material level i stood
      ≡ (if (name == w.name) && (list_any (λ m. m == material) materials && list_any (λ l. l == level) levels) then by_kernel level material else stood)
  unfolding number_by by_kernel
  number_by-levels materials [] stood = unnamed (name == w.name) (list_any (λ m. m == material) materials) where
    unnamed : (a b : Bool) → stood ≡ (if a && (b && false) then by_kernel level material else stood)
    unnamed true true = refl
    unnamed true false = refl
    unnamed false b = refl
  number_by-levels materials (l ∷ levels) stood =
      number_by-append (map (field_change p step old new w l) materials) (flat_map (λ l. map (field_change p step old new w l) materials) levels) name material level i stood
      ∙ number_by-materials l materials (number_by (flat_map (λ l. map (field_change p step old new w l) materials) levels) name material level i stood)
      ∙ rw (← same_test level l)
      (one_level (name == w.name) (list_any (λ m. m == material) materials) (level == l) (list_any (λ l. l == level) levels) (by_kernel level material) stood
      (number_by (flat_map (λ l. map (field_change p step old new w l) materials) levels) name material level i stood)
      (number_by-levels materials levels stood))

  -- the changes of a line, if it computes or modifies
  number_by-line : (task : Task) (of_field : Bool) (stood : ℤ) →
      number_by (if of_field then line_changes p step old new task w else []) name material level i stood
      ≡ (if of_field && ((name == w.name) && runs_on task material level) then by_kernel level material else stood)
  unfolding number_by
  number_by-line task true stood = number_by-levels task.materials task.levels stood
  number_by-line task false stood = refl

-- one line more: it is the first that gives the field, or does not matter
one_line : {A : Type 0} (of_field is_named runs : Bool) (found : Option A) (x : A) (number : A → ℤ) (stood rest : ℤ) →
    rest ≡ (if runs then option_map_or number found stood else stood) →
    (if of_field && (is_named && runs) then number x else rest)
    ≡ (if runs then option_map_or number (cond (is_named && of_field) (Some x) found) stood else stood)
one_line true true true found x number stood rest is = refl
one_line true true false found x number stood rest is = is
one_line true false true found x number stood rest is = is
one_line true false false found x number stood rest is = is
one_line false true true found x number stood rest is = is
one_line false true false found x number stood rest is = is
one_line false false true found x number stood rest is = is
one_line false false false found x number stood rest is = is

module _ (p : Problem) (step : ℕ) (old new : State) (task : Task) (name material level : ℕ) (i : Index) (stood : ℤ) where
  number_by-lines : (writes : List Write) →
      number_by (flat_map (λ w. if is_of_field w.kind then line_changes p step old new task w else []) writes) name material level i stood
      ≡ (if runs_on task material level
      then option_map_or (λ w. value_of w.expr (environment p step old new material level i))
      (find (λ w. (w.name == name) && is_of_field w.kind) writes) stood
      else stood)
  unfolding number_by by_kernel
  number_by-lines [] = none (runs_on task material level) where
    none : (b : Bool) → stood ≡ (if b then stood else stood)
    none true = refl
    none false = refl
  number_by-lines (w ∷ writes) =
      let rest = number_by (flat_map (λ w. if is_of_field w.kind then line_changes p step old new task w else []) writes) name material level i stood in
      number_by-append (if is_of_field w.kind then line_changes p step old new task w else [])
      (flat_map (λ w. if is_of_field w.kind then line_changes p step old new task w else []) writes) name material level i stood
      ∙ number_by-line p step old new w name material level i task (is_of_field w.kind) rest
      ∙ rw (same_test name w.name)
      (one_line (is_of_field w.kind) (w.name == name) (runs_on task material level) (find (λ w. (w.name == name) && is_of_field w.kind) writes) w
      (λ w. value_of w.expr (environment p step old new material level i)) stood rest (number_by-lines writes))

-- the reductions that a task gives
one_number : {A : Type 0} (is_named reduces : Bool) (found : Option A) (x : A) (number : A → ℤ) (by stood rest : ℤ) → (is_named ≡ true → by ≡ number x) →
    rest ≡ option_map_or number found stood →
    (if reduces then (if is_named then by else rest) else rest) ≡ option_map_or number (cond (is_named && reduces) (Some x) found) stood
one_number true true found x number by stood rest same is = same refl
one_number true false found x number by stood rest same is = is
one_number false true found x number by stood rest same is = is
one_number false false found x number by stood rest same is = is

module _ (p : Problem) (step : ℕ) (old new : State) (task : Task) (s : State) (name : ℕ) where
  reduction-line : (w : Write) (reduces : Bool) (rest : List WrittenNumber) →
      (with_numbers s ((if reduces then record { name = w.name; number = all_combined (fold_of p w.name) (contributions p step old new task w) } ∷ [] else []) ++ rest)).reduction name
      ≡ (if reduces
      then (if name == w.name then all_combined (fold_of p w.name) (contributions p step old new task w) else (with_numbers s rest).reduction name)
      else (with_numbers s rest).reduction name)
  reduction-line w true rest = refl
  reduction-line w false rest = refl

  reduction-lines : (writes : List Write) →
      (with_numbers s (flat_map (λ w. if is_reduces w.kind
      then record { name = w.name; number = all_combined (fold_of p w.name) (contributions p step old new task w) } ∷ []
      else []) writes)).reduction name
      ≡ option_map_or (λ w. all_combined (fold_of p name) (contributions p step old new task w))
      (find (λ w. (w.name == name) && is_reduces w.kind) writes) (s.reduction name)
  reduction-lines [] = refl
  reduction-lines (w ∷ writes) =
      let rest = flat_map (λ w. if is_reduces w.kind
      then record { name = w.name; number = all_combined (fold_of p w.name) (contributions p step old new task w) } ∷ []
      else []) writes in
      reduction-line w (is_reduces w.kind) rest
      ∙ rw (same_test name w.name)
      (one_number (w.name == name) (is_reduces w.kind) (find (λ w. (w.name == name) && is_reduces w.kind) writes) w
      (λ w. all_combined (fold_of p name) (contributions p step old new task w)) (all_combined (fold_of p w.name) (contributions p step old new task w))
      (s.reduction name) ((with_numbers s rest).reduction name)
      (λ is. ap (λ n. all_combined (fold_of p n) (contributions p step old new task w)) (eqb-true w.name name is))
      (reduction-lines writes))

-- fields do not change reductions, nor reductions fields
reduction-with_fields : (p : Problem) (s : State) (xs : List FieldChange) → (with_fields p s xs).reduction ≡ s.reduction
reduction-with_fields p s [] = refl
reduction-with_fields p s (x ∷ xs) = reduction-with_fields p s xs

field-with_numbers : (s : State) (xs : List WrittenNumber) → (with_numbers s xs).field ≡ s.field
field-with_numbers s [] = refl
field-with_numbers s (x ∷ xs) = field-with_numbers s xs

-- states that agree everywhere are one
same_states : (s t : State) → ((name material level : ℕ) (i : Index) → s.field name material level i ≡ t.field name material level i) →
    ((name : ℕ) → s.reduction name ≡ t.reduction name) → s ≡ t
same_states s t fields reductions =
    ap (λ f. let made : State = record { field = f; reduction = s.reduction } in made)
    (fun_ext (λ name. fun_ext (λ material. fun_ext (λ level. fun_ext (λ i. fields name material level i)))))
    ∙ ap (λ r. let made : State = record { field = t.field; reduction = r } in made) (fun_ext reductions)

-- inside a field of a task, and outside the outside number
inside_or_blank : (inside : Bool) (next found stood blank : ℤ) → next ≡ found → (inside ≡ false → stood ≡ blank) →
    (if inside then next else stood) ≡ (if inside then found else blank)
inside_or_blank true next found stood blank same out = same
inside_or_blank false next found stood blank same out = out refl

-- a task leaves the state that stood with what it gives
pub after_task-is : (p : Problem) (step : ℕ) (old new : State) (task : Task) → IsBlankOutside p new →
    with_numbers (with_fields p new (field_changes p step old new task)) (number_changes p step old new task) ≡ after_task p step old new task
unfolding after_task
after_task-is p step old new task outside =
    let fields = field_changes p step old new task in
    let numbers = number_changes p step old new task in
    same_states _ _
    (λ name material level i.
    ap (λ (f : ℕ → ℕ → ℕ → Index → ℤ). f name material level i) (field-with_numbers (with_fields p new fields) numbers)
    ∙ field-with_fields p new fields name material level i
    ∙ inside_or_blank (is_in_space p level (centring_of p name) i) _ _ (new.field name material level i) (outside_of p name)
    (number_by-lines p step old new task name material level i (new.field name material level i) task.writes)
    (outside.blank name material level i))
    (λ name.
    reduction-lines p step old new task (with_fields p new fields) name task.writes
    ∙ ap (λ (r : ℕ → ℤ). option_map_or (λ w. all_combined (fold_of p name) (contributions p step old new task w)) (reduction_write task name) (r name))
    (reduction-with_fields p new fields))

-- before the first task of a step every number is the outside number
unset-blank : (p : Problem) → IsBlankOutside p (unset p)
unset-blank p = record { blank = λ name material level i out. refl }

after_task-blank : (p : Problem) (step : ℕ) (old new : State) (task : Task) → IsBlankOutside p (after_task p step old new task)
unfolding after_task
after_task-blank p step old new task = record { blank = λ name material level i out. rw out refl }

tasks-blank : (p : Problem) (step : ℕ) (old : State) (s : State) (tasks : List Task) → IsBlankOutside p s →
    IsBlankOutside p (fold (after_task p step old) s tasks)
tasks-blank p step old s [] out = out
tasks-blank p step old s (task ∷ tasks) out =
    tasks-blank p step old (after_task p step old s task) tasks (after_task-blank p step old s task)

-- what tasks leave has the outside numbers outside
pub after_tasks-blank : (p : Problem) (step : ℕ) (old : State) (tasks : List Task) → IsBlankOutside p (after_tasks p step old tasks)
after_tasks-blank p step old tasks = tasks-blank p step old (unset p) tasks (unset-blank p)
