-- What is known of a requirement of a task of an accepted list, and where what it wants stands.
use Rattle.std.proofs.Common.{◌≡◌, ◌∙◌, ◌<◌, ◌≤◌, ◌+◌, ◌*◌, ◌⊎◌, inl, inr, ℕ, List, [], ◌∷◌, Bool, true, false, cond, Option, Some, None, length, take, get_or, ap, sym, refl, arith, subst}
use Rattle.std.specs.Prelude.{slice_get, slice_index, option_map, Contains, ◌==◌, ◌&&◌}
use Rattle.std.specs.List.{find, list_any, position}
use Rattle.std.specs.Option.{is_some, option_map_or, option_to_list}
use Rattle.std.proofs.lemmas.Bool.{and_parts, cases_eq, cases_lt, eqb-true, false_from_ne_true}
use Rattle.std.proofs.lemmas.List.Elements.{All-contains}
use Rattle.std.proofs.lemmas.List.Sums.{sum_by-take-le}
use Rattle.std.proofs.lemmas.Option.{get_or_from_slice_get, slice_get-map, slice_get_past, slice_get_read, slice_get_within}
use Rattle.kernel_ast.specs.declared.expression.Store.TheVariants as store
use Rattle.uts_geom.specs.declared.centring.Centring.{Centring}
use Rattle.uts_geom.specs.Counting.{length-counted}
use Rattle.uts_geom.specs.Lists.{all_at, at_place, of_option, placed, place_of_found}
use Rattle.problem_types.specs.Form.{IsLevelInForm, IsProblemInForm}
use Rattle.problem_types.specs.Lists.{centring_of, is_of_field, is_reduces, reduction_place, runs_on, variable_place}
use Rattle.problem_types.specs.declared.problem.Problem.{Problem}
use Rattle.problem_types.specs.declared.problem.Level.{Level}
use Rattle.problem_types.specs.declared.problem.Reduction.{Reduction}
use Rattle.problem_types.specs.declared.problem.Require.{Require}
use Rattle.problem_types.specs.declared.problem.Task.{Task}
use Rattle.problem_types.specs.declared.problem.Var.{Var}
use Rattle.problem_types.specs.declared.problem.Write.{Write}
use Rattle.problem_types.specs.declared.problem.WriteKind.{WriteKind}
use Rattle.problem_types.specs.declared.problem.WriteKind.TheVariants as write
use Rattle.task_rules.specs.Lines.{wanted_level, wanted_name}
use Rattle.task_check.specs.Bounds.{AreBoundedTasks, IsBoundedRequire, IsBoundedTask}
use Rattle.task_check.specs.Plan.{New, Number, Old, OldNumber, has_variable, is_line_of, is_read, line_is, old_numbers, old_variables, patches_of, slot_written, writes_variable}
use Rattle.task_check.specs.Reaches.{reach_of, reached_level}
use Rattle.task_check.specs.Sizes.{reduces_count}
use Rattle.task_check.specs.declared.plan.reach.Reach.{Reach}
use Rattle.graph_compiler.specs.Layouts.{IsLaidOut, parts_before}
use Rattle.graph_compiler.specs.Places.{AreOldSlots, StandsAt}
use Rattle.graph_compiler.specs.Searched.{AreSearched, IsFor}
use Rattle.graph_compiler.specs.Sources.{AreFrom, AreSourcesOf, HasNumberAt, IsNumberAmong, IsSourceOf, IsWrittenFrom, is_of_reduction}
use Rattle.graph_compiler.specs.declared.layout.Layout.{Layout}
use Rattle.graph_compiler.specs.declared.old_slots.OldSlots.{OldSlots}
use Rattle.graph_compiler.specs.declared.sources.Source.{Source}
use Rattle.graph_compiler.specs.declared.sources.Source.TheVariants as source
use Rattle.graph_compiler.specs.declared.sources.Sources.{Sources}
use Rattle.graph_compiler.specs.declared.touched.Touched.{Touched}
use Rattle.task_check.specs.Reached.{reached_by, reaches_nothing}
use Rattle.graph_compiler.proofs.InWindows.{found_in_windows}
use Rattle.graph_compiler.specs.Slots.{AreOnce}
use Rattle.graph_compiler.proofs.OneLine.{are_once}
use Rattle.graph_compiler.proofs.Placed.{none_at, position_at, position_none}
use Rattle.graph_compiler.proofs.Wanting.{new_number_at, no_new_number, old_found, number_source, old_number_at, old_number_read, variable_source}

pub length-patches : (p : Problem) (level : ℕ) (l : Level) → slice_get p.levels level ≡ Some l → length (patches_of p level) ≡ length l.patches
length-patches p level l at =
    length-counted 0 (option_map_or (λ (m : Level). length m.patches) (slice_get p.levels level) 0) ∙ ap (λ (o : Option Level). option_map_or (λ m. length m.patches) o 0) at

pub some_patch : (p : Problem) (level : ℕ) → IsProblemInForm p → level < length p.levels → 0 < length (patches_of p level)
some_patch p level form below =
    let l = placed p.levels level below in
    omega (arith, (all_at IsLevelInForm p.levels level l.0 l.1 form.levels).some_patch, length-patches p level l.0 l.1)

pub bounded_at : (p : Problem) (tasks : List Task) (task : ℕ) (t : Task) → AreBoundedTasks p tasks → slice_get tasks task ≡ Some t → IsBoundedTask p t
bounded_at p tasks task t bounded at = all_at (IsBoundedTask p) tasks task t at bounded.tasks

-- a requirement of a task, for a level and a material of the task
pub record IsAsked (p : Problem) (t : Task) (level material : ℕ) (r : Require) : Type 0 where
  pub requirement : IsBoundedRequire p t r
  pub of_levels : level < length p.levels
  pub of_materials : material < p.materials.value
  pub of_wanted : wanted_level r.what level < length p.levels

pub asked : (p : Problem) (t : Task) (level material : ℕ) (r : Require) → IsBoundedTask p t → Contains t.levels level → Contains t.materials material → Contains t.requirements r →
    IsAsked p t level material r
asked p t level material r bounded level_there material_there r_there =
    let requirement = All-contains (IsBoundedRequire p t) t.requirements r bounded.requirements r_there in
    record {
      requirement = requirement;
      of_levels = All-contains (λ l. l < length p.levels) t.levels level bounded.levels level_there;
      of_materials = All-contains (λ m. m < p.materials.value) t.materials material bounded.materials material_there;
      of_wanted = requirement.wanted level level_there;
    }

pub once_from : (s : Sources) → AreFrom s → AreOnce s.problem.now s.tasks.now
once_from s from = are_once s.problem.now s.tasks.now from.form from.accepted from.list

-- ---- what stood at the end of the step before

-- what is declared has a place
pub declared : {A : Type 0} (named : A → Bool) (xs : List A) → position named xs ≡ None → is_some (find named xs) ≡ true → ⊥
declared named xs none some =
    let found = place_of_found named xs some in
    let fails = none_at named xs found.0 found.1 (position_none named xs none) found.2 in
    let passes = found.3 in
    cc

module _ (p : Problem) (tasks : List Task) (old : OldSlots) (stand : AreOldSlots p tasks old) (name place : ℕ) where
  old_number_slot : reduction_place p name ≡ Some place → slice_get (old_numbers p) place ≡ Some (OldNumber name)
  old_number_slot is =
      let q = position_at (λ (r : Reduction). r.name == name) p.reductions place is in
      slice_get-map (λ (r : Reduction). OldNumber r.name) p.reductions place ∙ ap (option_map (λ (r : Reduction). OldNumber r.name)) q.1
      ∙ ap (λ (n : ℕ). Some (OldNumber n)) (eqb-true q.0.name name q.2)

  pub old_number_within : reduction_place p name ≡ Some place → place < length old.numbers.items
  old_number_within is = omega (arith, slice_get_within (old_numbers p) place (OldNumber name) (old_number_slot is), stand.number_count)

  pub old_number_stands : reduction_place p name ≡ Some place → is_read p tasks (OldNumber name) ≡ true → StandsAt p tasks (slice_index old.numbers.items place) (OldNumber name)
  old_number_stands is read = stand.numbers place (OldNumber name) (old_number_slot is) read

  pub old_number_found : AreOnce p tasks → (slot : ℕ) → reduction_place p name ≡ Some place → slot ≡ get_or old.numbers.items place slot → is_read p tasks (OldNumber name) ≡ true →
      HasNumberAt p tasks store.Old name (Some slot)
  old_number_found once slot is slot_is read =
      let at = slice_get_read old.numbers.items (length old.numbers.items) place slot refl (old_number_within is) slot_is in
      let one : slice_index old.numbers.items place ≡ slot = get_or_from_slice_get old.numbers.items place slot 0 at in
      old_number_at p tasks once name slot (subst (λ (k : ℕ). StandsAt p tasks k (OldNumber name)) one (old_number_stands is read))

-- where a variable stands that is declared at a place
pub old_source_found : (p : Problem) (tasks : List Task) → AreOnce p tasks → (old : OldSlots) → AreOldSlots p tasks old → (search name level material var first : ℕ) →
    Some var ≡ variable_place p name →
    ((v : Var) (patch : ℕ) → slice_get p.vars var ≡ Some v → patch < length (patches_of p level) → slice_get (old_variables p) (first + patch) ≡ Some (Old v.name level material patch)) →
    (task : ℕ) → IsSourceOf p tasks (has_variable tasks task store.Old name material level) level search old.variables.items (Some (source.Old search first))
old_source_found p tasks once old stand search name level material var first is place_is task =
    let v = position_at (λ (v : Var). v.name == name) p.vars var (sym is) in
    let named : v.0.name ≡ name = eqb-true v.0.name name v.2 in
    old_found p tasks once task name level material search old.variables.items first (λ patch below read.
    let at : slice_get (old_variables p) (first + patch) ≡ Some (Old name level material patch) = place_is v.0 patch v.1 below ∙ ap (λ (n : ℕ). Some (Old n level material patch)) named in
    stand.variables (first + patch) (Old name level material patch) at read)

-- ---- what a task writes

-- a line that reduces a name, found first among the writes of a task
pub number_among : (writes items : List Write) (name line number : ℕ) → items ≡ writes → Some line ≡ position (is_of_reduction name) items → number ≡ reduces_count (take line items) →
    IsNumberAmong writes name (Some number)
number_among writes items name line number same is count =
    let w = position_at (is_of_reduction name) items line (sym is) in (
      line,
      ap (λ (ws : List Write). line_is ws (is_of_reduction name) line) (sym same) ∙ ap (λ (o : Option Write). option_map_or (is_of_reduction name) o false) w.1 ∙ w.2,
      count ∙ ap (λ (ws : List Write). reduces_count (take line ws)) same,
    )

pub no_number_among : (writes items : List Write) (name : ℕ) → items ≡ writes → None ≡ position (is_of_reduction name) items → IsNumberAmong writes name None
no_number_among writes items name same is = λ line. false_from_ne_true (line_is writes (is_of_reduction name) line) (λ passes.
    let w = of_option (is_of_reduction name) (slice_get writes line) passes in
    let fails = none_at (is_of_reduction name) items line w.0 (position_none (is_of_reduction name) items (sym is)) (ap (λ (ws : List Write). slice_get ws line) same ∙ w.1) in
    let also = w.2 in
    cc)

-- the tasks before a place have no line that reduces a name
abbrev pub HaveNoNumber : List Task → (name place : ℕ) → Type 0
HaveNoNumber tasks name place = (task line : ℕ) → task < place → is_line_of tasks (λ w. is_reduces w.kind) name task line ≡ false

pub no_number_more : (tasks : List Task) (name place : ℕ) (t : Task) → slice_get tasks place ≡ Some t → IsNumberAmong t.writes name None → HaveNoNumber tasks name place →
    HaveNoNumber tasks name (place + 1)
no_number_more tasks name place t at none before = λ task line less. by_place task line less (cases_eq task place)
  where
    by_place : (task line : ℕ) → task < place + 1 → (task ≡ place) ⊎ (task ≡ place → ⊥) → is_line_of tasks (λ w. is_reduces w.kind) name task line ≡ false
    by_place task line less (inl same) =
        ap (λ (o : Option Task). option_map_or (λ u. line_is u.writes (is_of_reduction name) line) o false) (ap (slice_get tasks) same ∙ at) ∙ none line
    by_place task line less (inr other) = before task line (omega (arith, less, other))

pub no_number_anywhere : (p : Problem) (tasks : List Task) → AreOnce p tasks → (name place : ℕ) → place ≡ length tasks → HaveNoNumber tasks name place → HasNumberAt p tasks store.New name None
no_number_anywhere p tasks once name place end none = no_new_number p tasks once name (λ task line. by_place task line (cases_lt task place))
  where
    by_place : (task line : ℕ) → (task < place) ⊎ (place ≤ task) → is_line_of tasks (λ w. is_reduces w.kind) name task line ≡ false
    by_place task line (inl less) = none task line less
    by_place task line (inr past) =
        ap (λ (o : Option Task). option_map_or (λ u. line_is u.writes (is_of_reduction name) line) o false) (slice_get_past tasks task (omega (arith, past, end)))

-- a line that writes a variable writes such slots
pub field_slot : (k : WriteKind) (task line level material patch : ℕ) → is_of_field k ≡ true → slot_written k task line level material patch ≡ New task line level material patch
field_slot write.Computes task line level material patch is = refl
field_slot write.Modifies task line level material patch is = refl
field_slot (write.Reduces c) task line level material patch is = absurd cc

-- a number that is found in a list
contained : (numbers : List ℕ) (n : ℕ) → list_any (λ m. m == n) numbers ≡ true → Contains numbers n
contained numbers n is =
    let at = at_place (λ m. m == n) numbers is in
    (at.0, slice_get_within numbers at.0 at.1 at.2, get_or_from_slice_get numbers at.0 at.1 n at.2 ∙ eqb-true at.1 n at.3)

-- the first line of some writes that writes the variable
abbrev pub writing_place : (name : ℕ) → List Write → Option ℕ
writing_place name writes = position (λ w. (w.name == name) && is_of_field w.kind) writes

pub writing_within : (name line : ℕ) (writes : List Write) → writing_place name writes ≡ Some line → line < length writes
writing_within name line writes is = let w = position_at (λ (w : Write). (w.name == name) && is_of_field w.kind) writes line is in slice_get_within writes line w.0 w.1

module _ (t : Task) (name level material : ℕ) (writes : writes_variable name material level t ≡ true) where
  abbrev writes_it : Write → Bool
  writes_it w = (w.name == name) && is_of_field w.kind

  pub writing_line : writing_place name t.writes ≡ None → ⊥
  writing_line none = declared writes_it t.writes none (and_parts (runs_on t material level) (is_some (find writes_it t.writes)) writes).1

  -- the task runs there
  pub runs_there : Contains t.levels level × Contains t.materials material
  runs_there =
      let runs = (and_parts (runs_on t material level) (is_some (find writes_it t.writes)) writes).0 in
      let two = and_parts (list_any (λ m. m == material) t.materials) (list_any (λ l. l == level) t.levels) runs in
      (contained t.levels level two.1, contained t.materials material two.0)

module _ (p : Problem) (tasks : List Task) (writer : ℕ) (t : Task) (at : slice_get tasks writer ≡ Some t) (layout : Layout) (laid : IsLaidOut p tasks writer t layout) where
  -- the slots of the line that writes a variable
  pub written_from : (name level material line first : ℕ) → writes_variable name material level t ≡ true → writing_place name t.writes ≡ Some line →
      first ≡ layout.first + parts_before p t level material * layout.lines + line → IsWrittenFrom p tasks writer name level material first layout.lines
  written_from name level material line first writes is first_is =
      let test : Write → Bool = λ w. (w.name == name) && is_of_field w.kind in
      let w = position_at test t.writes line is in
      let there = runs_there t name level material writes in
      let field = (and_parts (w.0.name == name) (is_of_field w.0.kind) w.2).1 in
      record {
        line = line;
        of_line = ap (λ (o : Option Task). option_map_or (λ u. line_is u.writes test line) o false) at ∙ ap (λ (o : Option Write). option_map_or test o false) w.1 ∙ w.2;
        stands = λ patch below.
            let place_is : layout.first + ((parts_before p t level material + patch) * layout.lines + line) ≡ first + patch * layout.lines = omega (arith, first_is) in
            let standing = laid.on_patch level material patch line w.0 there.0 there.1 below w.1 in
            subst (λ (k : ℕ). StandsAt p tasks k (New writer line level material patch)) place_is
            (standing ∙ ap Some (field_slot w.0.kind writer line level material patch field));
      }

  pub few_lines : length t.writes ≤ 64 → (layout.first ≤ 262144) × (layout.lines ≤ 64)
  few_lines few = (omega (arith, laid.few), omega (arith, laid.lines, few))

  -- the slot of the line that reduces a name
  pub numbered : AreOnce p tasks → (name number : ℕ) → IsNumberAmong t.writes name (Some number) → HasNumberAt p tasks store.New name (Some (layout.first + (layout.parts * layout.lines + number)))
  numbered once name number among =
      let w = of_option (is_of_reduction name) (slice_get t.writes among.0) among.1 in
      let reduces = (and_parts (w.0.name == name) (is_reduces w.0.kind) w.2).1 in
      new_number_at p tasks once name (layout.first + (layout.parts * layout.lines + number)) writer among.0
      (ap (λ (o : Option Task). option_map_or (λ u. line_is u.writes (is_of_reduction name) among.0) o false) at ∙ among.1)
      (subst (λ (k : ℕ). StandsAt p tasks (layout.first + (layout.parts * layout.lines + k)) (Number writer among.0)) (sym among.2) (laid.combined among.0 w.0 w.1 reduces))

  pub number_within : (name number : ℕ) → IsNumberAmong t.writes name (Some number) → number ≤ layout.numbers
  number_within name number among = omega (arith, among.2, laid.numbers, sum_by-take-le (λ (w : Write). cond (is_reduces w.kind) 1 0) t.writes among.0)

-- ---- what a requirement of a variable wants

-- a reduction that is required from the step before is read
pub number_read : (p : Problem) (tasks : List Task) → AreOnce p tasks → IsProblemInForm p → (task : ℕ) (t : Task) → slice_get tasks task ≡ Some t → (level material : ℕ) →
    Contains t.levels level → Contains t.materials material → (r : Require) → Contains t.requirements r → IsAsked p t level material r → None ≡ reach_of t r.store r.what →
    (name : ℕ) → name ≡ wanted_name r.what → r.store ≡ store.Old → is_read p tasks (OldNumber name) ≡ true
number_read p tasks once form task t at level material level_there material_there r r_there facts nothing name named old =
    subst (λ (n : ℕ). is_read p tasks (OldNumber n) ≡ true) (sym named)
    (old_number_read p tasks once task t at level material level_there material_there r r_there (reaches_nothing t r.store r.what (sym nothing)) 0
    (some_patch p level form facts.of_levels) old)

pub reached_source : (p : Problem) (tasks : List Task) → AreOnce p tasks → (task : ℕ) (t : Task) → slice_get tasks task ≡ Some t → (level material : ℕ) → Contains t.levels level →
    Contains t.materials material → (r : Require) → Contains t.requirements r → IsAsked p t level material r → (made : List Touched) (old : List ℕ) (search : ℕ) (reach : Reach) →
    Some reach ≡ reach_of t r.store r.what → (name wanted : ℕ) (c : Centring) → name ≡ wanted_name r.what → wanted ≡ reached_level reach level → c ≡ centring_of p name →
    AreSearched p made → IsFor level reach c made search → (o : Option Source) → IsSourceOf p tasks (has_variable tasks task r.store name material wanted) wanted search old o →
    AreSourcesOf p tasks task t level material (r ∷ []) made old (option_to_list o)
reached_source p tasks once task t at level material level_there material_there r r_there facts made old search reach is name wanted c named reached_is centred searched is_for o source =
    let reached = reached_by p t r.store r.what reach (sym is) in
    let l = placed p.levels level facts.of_levels in
    let fine = placed p.levels (wanted_level r.what level) facts.of_wanted in
    let for_it : IsFor level reach (centring_of p (wanted_name r.what)) made search =
    subst (λ (x : Centring). IsFor level reach x made search) (centred ∙ ap (centring_of p) named) is_for in
    variable_source p tasks once task t at level material level_there material_there r r_there reached.variable made old search
    (slice_get_within made search for_it.search for_it.there)
    (λ patch below. found_in_windows p t r level reach made search searched for_it reached l.0 fine.0 l.1 fine.1 patch (omega (arith, below, length-patches p level l.0 l.1)))
    o (subst (λ (k : ℕ). IsSourceOf p tasks (has_variable tasks task r.store (wanted_name r.what) material k) k search old o) (reached_is ∙ reached.level_is level)
    (subst (λ (n : ℕ). IsSourceOf p tasks (has_variable tasks task r.store n material wanted) wanted search old o) named source))

-- where the number of a reduction that is required stands
pub none_reached : (p : Problem) (tasks : List Task) → AreOnce p tasks → (task : ℕ) (t : Task) → slice_get tasks task ≡ Some t → (level material : ℕ) → Contains t.levels level →
    Contains t.materials material → (r : Require) → Contains t.requirements r → (made : List Touched) (old : List ℕ) → None ≡ reach_of t r.store r.what → (name : ℕ) → name ≡ wanted_name r.what →
    (found : Option ℕ) → HasNumberAt p tasks r.store name found → (o : Option Source) → o ≡ option_map source.Number found →
    AreSourcesOf p tasks task t level material (r ∷ []) made old (option_to_list o)
none_reached p tasks once task t at level material level_there material_there r r_there made old nothing name named found numbered_at o is =
    subst (λ (x : Option Source). AreSourcesOf p tasks task t level material (r ∷ []) made old (option_to_list x)) (sym is)
    (number_source p tasks once task t at level material level_there material_there r r_there (reaches_nothing t r.store r.what (sym nothing)) made old found
    (subst (λ (n : ℕ). HasNumberAt p tasks r.store n found) named numbered_at))
