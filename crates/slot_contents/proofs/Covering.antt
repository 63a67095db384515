-- What a requirement wants stands: each index in its window and in the variable's index space lies in a slot that is read, and so does
-- the number of a reduction.
use Rattle.std.proofs.Common.{◌≡◌, ◌∙◌, ◌<◌, ◌+◌, ℕ, List, [], Bool, true, false, Option, Some, None, length, map, take, drop, ap, sym, refl, arith, subst, eqb-true}
use Rattle.std.specs.Prelude.{slice_get, Contains, IsTrue, ◌==◌, ◌&&◌, not, nat_lt}
use Rattle.std.specs.List.{find, list_any}
use Rattle.std.specs.Option.{is_some, option_map_or}
use Rattle.std.proofs.lemmas.Bool.{and_from, and_parts, eq-eqb, lt-ltb, not_from_false}
use Rattle.std.proofs.lemmas.List.Elements.{All-contains, Contains-append_left, Contains-append_right}
use Rattle.uts_geom.specs.Spans.{is_inside, do_meet}
use Rattle.uts_geom.specs.declared.centring.Centring.{Centring}
use Rattle.uts_geom.specs.declared.index.Index.{Index}
use Rattle.uts_geom.specs.Lists.{any_at, contains_at, from_take}
use Rattle.kernel_ast.specs.declared.expression.Store.{Store}
use Rattle.kernel_ast.specs.declared.expression.Store.TheVariants as store
use Rattle.problem_types.specs.Lists.{centring_of, computes, is_computes, is_of_field, is_reduces, reduction_write, runs_on, task_list}
use Rattle.problem_types.specs.Regions.{is_in_space, space_of}
use Rattle.problem_types.specs.declared.problem.Level.{Level}
use Rattle.problem_types.specs.declared.problem.Problem.{Problem}
use Rattle.problem_types.specs.declared.problem.Reduction.{Reduction}
use Rattle.problem_types.specs.declared.problem.Require.{Require}
use Rattle.problem_types.specs.declared.problem.Task.{Task}
use Rattle.problem_types.specs.declared.problem.Var.{Var}
use Rattle.problem_types.specs.declared.problem.Write.{Write}
use Rattle.problem_types.specs.declared.problem.WriteKind.{WriteKind}
use Rattle.problem_types.specs.declared.problem.WriteKind.TheVariants as write
use Rattle.patch_regions.specs.OnGrid.{one_box_apart}
use Rattle.uts_geom.specs.Laws.{SpansMeetInIndexes}
use Rattle.patch_regions.specs.Laws.{OwnedSpansTile}
use Rattle.patch_regions.specs.Regions.{owned_span}
use Rattle.task_rules.specs.Lines.{wanted_level, wanted_name}
use Rattle.task_rules.specs.Names.{IsReduction, IsVariable}
use Rattle.task_check.specs.Bounds.{IsBounded}
use Rattle.task_check.specs.Laws.{AcceptedProblemsAreBounded}
use Rattle.task_check.specs.Plan.{OnPatch, Slot, Old, OldNumber, New, Number, details_of, has_number, has_variable, is_in_window, is_last_writer, is_line_of, is_of_number, is_read, old_numbers, old_variables, patch_of, patches_of, slots_of, wanted_window, writes_variable}
use Rattle.slot_contents.specs.Contents.{owned_on}
use Rattle.slot_contents.specs.Laws.{HasIndex, HasNumber, IsTaskOf, NumbersAreRead, RunsAt, WindowsAreCovered}
use Rattle.slot_contents.proofs.Earlier.{computed_earlier, known_reduction, known_variable, reduced_earlier, requirement_bounded, runs_there, task_bounded}
use Rattle.task_check.specs.LinesAt.{IsLineAt, is_line}
use Rattle.slot_contents.proofs.Lines.{found_line}
use Rattle.task_check.specs.LastOnes.{Lasts, last_of}
use Rattle.slot_contents.proofs.Listed.{is_some-find, passing}
use Rattle.slot_contents.proofs.Owned.{nowhere}
use Rattle.slot_contents.proofs.Slots.{in_old_numbers, in_old_variables, length-patches, new_stands, number_stands, old_stands, on_patch_stands, read_by, wanted_is_read, wants_number, wants_variable}

-- ---- who owns an index of an index space

-- a level of this number, and a patch of it that owns the index
record Owner (p : Problem) (level : ℕ) (c : Centring) (i : Index) : Type 0 where
  pub l : Level
  pub level_at : slice_get p.levels level ≡ Some l
  pub patch : ℕ
  pub patch_there : patch < length (patches_of p level)
  pub owned : IsTrue (is_inside (owned_span c l patch) i)

owner : (p : Problem) (level : ℕ) (c : Centring) (i : Index) → IsBounded p → OwnedSpansTile → IsTrue (is_in_space p level c i) → Owner p level c i
owner p level c i limits tile within = by_level (slice_get p.levels level) refl within
  where
    by_level : (o : Option Level) → slice_get p.levels level ≡ o → list_any (λ s. is_inside s i) (option_map_or (λ l. map (space_of c) l.boxes) o []) ≡ true → Owner p level c i
    by_level None at inside = absurd cc
    by_level (Some l) at inside =
        let bounded = limits.levels level l at in
        let owns = (tile l c i bounded.good.tiled (one_box_apart c l bounded.limits.one_box)).0.0 inside in
        let below : owns.0 < length l.patches = owns.1.0 in
        record { l = l; level_at = at; patch = owns.0; patch_there = omega (arith, below, length-patches p level l at); owned = owns.1.1 }

owner_owns : (p : Problem) (level : ℕ) (c : Centring) (i : Index) (o : Owner p level c i) → IsTrue (is_inside (owned_on p level o.patch c) i)
owner_owns p level c i o = ap (λ (found : Option Level). is_inside (option_map_or (λ l. owned_span c l o.patch) found nowhere) i) o.level_at ∙ o.owned

-- ---- the last task that writes a variable before a place

any_weaker : {A : Type 0} (test other : A → Bool) → ((x : A) → test x ≡ true → other x ≡ true) → (xs : List A) → list_any test xs ≡ true → list_any other xs ≡ true
any_weaker test other follows xs some = let there = passing test xs some in any_at other xs there.place there.item there.at (follows there.item there.passes)

computes_field : (k : WriteKind) → is_computes k ≡ true → is_of_field k ≡ true
computes_field write.Computes is = refl
computes_field write.Modifies is = absurd cc
computes_field (write.Reduces c) is = absurd cc

contained : (numbers : List ℕ) (n : ℕ) → list_any (λ m. m == n) numbers ≡ true → Contains numbers n
contained numbers n some =
    let there = passing (λ m. m == n) numbers some in
    contains_at numbers there.place n (there.at ∙ ap Some (eqb-true there.item n there.passes))

module _ (tasks : List Task) (place name material level : ℕ) where
  abbrev writes_it : Task → Bool
  writes_it t = writes_variable name material level t

  abbrev is_it : Write → Bool
  is_it w = (w.name == name) && is_of_field w.kind

  -- a task that writes it, by its line
  record Writer : Type 0 where
    pub task : ℕ
    pub t : Task
    pub task_at : slice_get tasks task ≡ Some t
    pub last : is_last_writer tasks place name material level task ≡ true
    pub of_levels : Contains t.levels level
    pub of_materials : Contains t.materials material
    pub line : ℕ
    pub line_is : IsLineAt tasks (λ w. is_of_field w.kind) name task line

  computing_writes : (t : Task) → (runs_on t material level && list_any (λ w. (w.name == name) && is_computes w.kind) t.writes) ≡ true → writes_it t ≡ true
  computing_writes t is =
      let two = and_parts (runs_on t material level) (list_any (λ w. (w.name == name) && is_computes w.kind) t.writes) is in
      and_from (runs_on t material level) (is_some (find is_it t.writes)) two.0
      (is_some-find is_it t.writes ∙ any_weaker (λ w. (w.name == name) && is_computes w.kind) is_it (λ w passes.
      let both = and_parts (w.name == name) (is_computes w.kind) passes in
      and_from (w.name == name) (is_of_field w.kind) both.0 (computes_field w.kind both.1)) t.writes two.1)

  of_last : Lasts writes_it (take place tasks) → Writer
  of_last last =
      let writer = last.0 in
      let t = last.1 in
      let there = from_take tasks place writer t last.2.stands in
      let two = and_parts (runs_on t material level) (is_some (find is_it t.writes)) last.2.passes in
      let runs = and_parts (list_any (λ m. m == material) t.materials) (list_any (λ l. l == level) t.levels) two.0 in
      let line = found_line tasks (λ w. is_of_field w.kind) name writer t there.1 two.1 in
      let later = list_any writes_it (drop (writer + 1) (take place tasks)) in
      record {
        task = writer;
        t = t;
        task_at = there.1;
        last = and_from (nat_lt writer place) (option_map_or writes_it (slice_get tasks writer) false && not later) (lt-ltb writer place there.0)
            (and_from (option_map_or writes_it (slice_get tasks writer) false) (not later)
            (ap (λ (o : Option Task). option_map_or writes_it o false) there.1 ∙ last.2.passes) (not_from_false later last.2.none_after));
        of_levels = contained t.levels level runs.1;
        of_materials = contained t.materials material runs.0;
        line = line.0;
        line_is = line.1;
      }

  last_writer : computes (take place tasks) name material level ≡ true → Writer
  last_writer computed = of_last (last_of writes_it (take place tasks)
      (any_weaker (λ t. runs_on t material level && list_any (λ w. (w.name == name) && is_computes w.kind) t.writes) writes_it computing_writes (take place tasks) computed))

  -- its slots have the variable
  writer_has : (w : Writer) (patch : ℕ) → has_variable tasks place store.New name material level (New w.task w.line level material patch) ≡ true
  writer_has w patch =
      and_from (level == level) ((material == material) && (is_last_writer tasks place name material level w.task && is_line_of tasks (λ v. is_of_field v.kind) name w.task w.line))
      (eq-eqb level level refl)
      (and_from (material == material) (is_last_writer tasks place name material level w.task && is_line_of tasks (λ v. is_of_field v.kind) name w.task w.line)
      (eq-eqb material material refl)
      (and_from (is_last_writer tasks place name material level w.task) (is_line_of tasks (λ v. is_of_field v.kind) name w.task w.line)
      w.last (is_line tasks (λ v. is_of_field v.kind) name w.task w.line w.line_is)))

  -- so have the old slots of its name
  old_has : (patch : ℕ) → has_variable tasks place store.Old name material level (Old name level material patch) ≡ true
  old_has patch = and_from (name == name) ((level == level) && (material == material)) (eq-eqb name name refl)
      (and_from (level == level) (material == material) (eq-eqb level level refl) (eq-eqb material material refl))

-- the declaration of a variable, and of a reduction
declared_variable : (p : Problem) (name : ℕ) → IsVariable p name → (v : Var) × Contains p.vars v × (v.name ≡ name)
declared_variable p name known =
    let there = passing (λ (v : Var). v.name == name) p.vars (sym (is_some-find (λ (v : Var). v.name == name) p.vars) ∙ known) in
    (there.item, contains_at p.vars there.place there.item there.at, eqb-true there.item.name name there.passes)

declared_reduction : (p : Problem) (name : ℕ) → IsReduction p name → (q : Reduction) × Contains p.reductions q × (q.name ≡ name)
declared_reduction p name known =
    let there = passing (λ (q : Reduction). q.name == name) p.reductions (sym (is_some-find (λ (q : Reduction). q.name == name) p.reductions) ∙ known) in
    (there.item, contains_at p.reductions there.place there.item there.at, eqb-true there.item.name name there.passes)

-- ---- a requirement of a detailed task

module _ (p : Problem) (step task : ℕ) (t : Task) (level material patch : ℕ) (r : Require)
    (here : IsTaskOf p step task t) (runs : RunsAt p t level material patch) (r_there : Contains t.requirements r) (limits : IsBounded p) where
  abbrev tasks : List Task
  tasks = task_list p step

  abbrev name : ℕ
  name = wanted_name r.what

  abbrev level_wanted : ℕ
  level_wanted = wanted_level r.what level

  stands_here : Contains (details_of p tasks) (OnPatch task level material patch)
  stands_here = on_patch_stands p tasks task t here.stands level material patch runs.level_there runs.material_there runs.patch_there

  -- ---- of a variable

  module _ (variable : is_of_number r.what ≡ false) (i : Index) (o : Owner p level_wanted (centring_of p name) i) (seen : is_in_window p t r level patch o.patch ≡ true) where
    -- a slot that has the variable on the owner's patch is read, and has the index
    has_index : (s : Slot) → patch_of s ≡ o.patch → has_variable tasks task r.store name material level_wanted s ≡ true →
        (is_read p tasks s ≡ true → Contains (slots_of p tasks) s) → HasIndex p step task level material patch r i s
    has_index s on_patch has stands =
        let reading = wanted_is_read p tasks task t level material patch s r here.stands r_there
        (wants_variable p tasks task t level material patch s r variable has
        (ap (is_in_window p t r level patch) on_patch ∙ seen)) in
        record {
          slot = stands (read_by p tasks (OnPatch task level material patch) s stands_here reading);
          is_read = reading;
          variable = has;
          owned = ap (λ (k : ℕ). is_inside (owned_on p level_wanted k (centring_of p name)) i) on_patch ∙ owner_owns p level_wanted (centring_of p name) i o;
        }

    new_index : r.store ≡ store.New → (s : Slot) × HasIndex p step task level material patch r i s
    new_index new =
        let w = last_writer tasks task name material level_wanted (computed_earlier p step task t here r r_there new variable level material (runs_there t level material runs.level_there runs.material_there)) in
        let s = New w.task w.line level_wanted material o.patch in (
          s,
          has_index s refl
              (subst (λ (at : Store). has_variable tasks task at name material level_wanted s ≡ true) (sym new) (writer_has tasks task name material level_wanted w o.patch))
              (λ read. new_stands p tasks w.task w.line_is.t w.line_is.task_at level_wanted material o.patch
              (subst (λ (u : Task). Contains u.levels level_wanted) (one_task w.task w.t w.line_is.t w.task_at w.line_is.task_at) w.of_levels)
              (subst (λ (u : Task). Contains u.materials material) (one_task w.task w.t w.line_is.t w.task_at w.line_is.task_at) w.of_materials)
              o.patch_there w.line w.line_is.w w.line_is.line_at w.line_is.passes),
        )
      where
        one_task : (k : ℕ) (u v : Task) → slice_get tasks k ≡ Some u → slice_get tasks k ≡ Some v → u ≡ v
        one_task k u v first second = cc

    old_index : r.store ≡ store.Old → (s : Slot) × HasIndex p step task level material patch r i s
    old_index old =
        let bounded = task_bounded p step task t limits here in
        let required = requirement_bounded p t r bounded r_there in
        let v = declared_variable p name (known_variable p r.what variable required.known) in
        let s = Old name level_wanted material o.patch in
        let might : Contains (old_variables p) s = subst (λ (n : ℕ). Contains (old_variables p) (Old n level_wanted material o.patch)) v.2
        (in_old_variables p v.0 level_wanted material o.patch v.1 (required.wanted level runs.level_there)
        (All-contains (λ m. m < p.materials.value) t.materials material bounded.materials runs.material_there) o.patch_there) in (
          s,
          has_index s refl
              (subst (λ (at : Store). has_variable tasks task at name material level_wanted s ≡ true) (sym old) (old_has tasks task name material level_wanted o.patch))
              (old_stands p tasks s (Contains-append_left (old_variables p) (old_numbers p) s might)),
        )

    with_index : (at : Store) → r.store ≡ at → (s : Slot) × HasIndex p step task level material patch r i s
    with_index store.Old is = old_index is
    with_index store.New is = new_index is

  -- ---- of a reduction

  module _ (number : is_of_number r.what ≡ true) where
    numbered : (s : Slot) → has_number tasks r.store name s ≡ true → (is_read p tasks s ≡ true → Contains (slots_of p tasks) s) → HasNumber p step task level material patch r s
    numbered s has stands =
        let reading = wanted_is_read p tasks task t level material patch s r here.stands r_there
        (wants_number p tasks task t level material patch s r number has) in
        record {
          slot = stands (read_by p tasks (OnPatch task level material patch) s stands_here reading);
          is_read = reading;
          number = has;
        }

    new_number : r.store ≡ store.New → (s : Slot) × HasNumber p step task level material patch r s
    new_number new =
        let there = passing (λ u. is_some (reduction_write u name)) (take task tasks) (reduced_earlier p step task t here r r_there new number) in
        let part = from_take tasks task there.place there.item there.at in
        let l = found_line tasks (λ w. is_reduces w.kind) name there.place there.item part.1 there.passes in
        let s = Number there.place l.0 in (
          s,
          numbered s (subst (λ (at : Store). has_number tasks at name s ≡ true) (sym new) (is_line tasks (λ w. is_reduces w.kind) name there.place l.0 l.1))
              (λ read. number_stands p tasks there.place l.1.t l.1.task_at l.0 l.1.w l.1.line_at l.1.passes),
        )

    old_number : r.store ≡ store.Old → (s : Slot) × HasNumber p step task level material patch r s
    old_number old =
        let bounded = task_bounded p step task t limits here in
        let q = declared_reduction p name (known_reduction p r.what number (requirement_bounded p t r bounded r_there).known) in
        let s = OldNumber name in
        let might : Contains (old_numbers p) s = subst (λ (n : ℕ). Contains (old_numbers p) (OldNumber n)) q.2 (in_old_numbers p q.0 q.1) in (
          s,
          numbered s (subst (λ (at : Store). has_number tasks at name s ≡ true) (sym old) (eq-eqb name name refl))
              (old_stands p tasks s (Contains-append_right (old_variables p) (old_numbers p) s might)),
        )

    with_number : (at : Store) → r.store ≡ at → (s : Slot) × HasNumber p step task level material patch r s
    with_number store.Old is = old_number is
    with_number store.New is = new_number is

-- an index of the window that a patch of the wanted level owns
in_window : (p : Problem) (t : Task) (r : Require) (level patch : ℕ) (l : Level) (i : Index) → SpansMeetInIndexes → slice_get p.levels level ≡ Some l →
    IsTrue (is_inside (wanted_window p t r.store r.what level l patch) i) → (o : Owner p (wanted_level r.what level) (centring_of p (wanted_name r.what)) i) →
    is_in_window p t r level patch o.patch ≡ true
in_window p t r level patch l i meet at inside o =
    let c = centring_of p (wanted_name r.what) in
    let meets : do_meet (owned_span c o.l o.patch) (wanted_window p t r.store r.what level l patch) ≡ true =
    (meet (owned_span c o.l o.patch) (wanted_window p t r.store r.what level l patch)).1 (i, o.owned, inside) in
    ap (λ (found : Option Level). option_map_or (λ m. option_map_or (λ wanted. do_meet (owned_span c wanted o.patch) (wanted_window p t r.store r.what level m patch))
    (slice_get p.levels (wanted_level r.what level)) false) found false) at
    ∙ ap (λ (found : Option Level). option_map_or (λ wanted. do_meet (owned_span c wanted o.patch) (wanted_window p t r.store r.what level l patch)) found false) o.level_at
    ∙ meets

pub windows_covered : AcceptedProblemsAreBounded → OwnedSpansTile → SpansMeetInIndexes → WindowsAreCovered
windows_covered bounded tile meet p step task t level material patch l r i here runs at r_there variable inside within =
    let limits = bounded p here.form here.accepted in
    let o = owner p (wanted_level r.what level) (centring_of p (wanted_name r.what)) i limits tile within in
    with_index p step task t level material patch r here runs r_there limits variable i o (in_window p t r level patch l i meet at inside o) r.store refl

pub numbers_read : AcceptedProblemsAreBounded → NumbersAreRead
numbers_read bounded p step task t level material patch r here runs r_there number =
    with_number p step task t level material patch r here runs r_there (bounded p here.form here.accepted) number r.store refl
