-- Which slots of the step before the tasks of a list read, task by task.
use Rattle.std.proofs.Common.{◌≡◌, ◌∙◌, ◌<◌, ℕ, suc, List, [], ◌∷◌, ◌++◌, Bool, true, false, Option, Some, None, length, map, ap, sym, refl, arith}
use Rattle.std.specs.Prelude.{slice_get, ◌==◌, ◌&&◌, ◌||◌, not, if◌then◌else◌, filter}
use Rattle.std.specs.List.{flat_map, list_any}
use Rattle.std.specs.Option.{option_map_or}
use Rattle.std.proofs.lemmas.List.Folds.{list_any-append}
use Rattle.kernel_ast.specs.declared.expression.Store.{Store}
use Rattle.kernel_ast.specs.declared.expression.Store.TheVariants as store
use Rattle.uts_geom.specs.Spans.{counted}
use Rattle.uts_geom.specs.Lists.{all_at, placed}
use Rattle.problem_types.specs.Form.{IsProblemInForm, IsLevelInForm}
use Rattle.problem_types.specs.Lists.{task_list, is_reduces}
use Rattle.problem_types.specs.declared.problem.Problem.{Problem}
use Rattle.problem_types.specs.declared.problem.Task.{Task}
use Rattle.problem_types.specs.declared.problem.Require.{Require}
use Rattle.task_rules.specs.Lines.{wanted_name, wanted_level}
use Rattle.task_check.specs.First.{IsFaultless}
use Rattle.task_check.specs.Places.{IsTaskAt}
use Rattle.task_check.specs.Plan.{Detail, OnPatch, Combining, Slot, Old, OldNumber, patches_of, line_is, on_patches, combining, details_of, is_in_window, is_of_number, has_variable, has_number, wants, reads, is_read}
use Rattle.task_check.specs.OldSlots.{is_old, is_old_variable, is_old_number, wants_old, reads_variable, reads_number, requires_old, touches_patch}
use Rattle.task_check.proofs.Accepted.{levels_below, task_in_form}
use Rattle.task_check.proofs.Details.{patches_at}
use Rattle.task_check.proofs.Tests.{any-alike, any-flat_map, any-map, any-places}

or_none : (b c : Bool) → c ≡ false → (b || c) ≡ b
or_none true c none = refl
or_none false c none = none

neither : (a b : Bool) → (a || b) ≡ false → (a ≡ false) × (b ≡ false)
neither true b none = absurd cc
neither false b none = (refl, none)

neither_of : (a b : Bool) → a ≡ false → b ≡ false → (a || b) ≡ false
neither_of a b first second = rw (first, second) refl

both_false : (a b c : Bool) → b ≡ false → c ≡ false → ((a && b) || c) ≡ false
both_false true b c first second = rw (first, second) refl
both_false false b c first second = second

module _ {X : Type 0} where
  any-none : (p : X → Bool) → ((x : X) → p x ≡ false) → (xs : List X) → list_any p xs ≡ false
  any-none p none [] = refl
  any-none p none (x ∷ xs) = or_none (p x) (list_any p xs) (any-none p none xs) ∙ none x

  -- a test that all values answer alike
  any-alone : (p : X → Bool) (b : Bool) (xs : List X) → 0 < length xs → ((k : ℕ) (x : X) → slice_get xs k ≡ Some x → p x ≡ b) → list_any p xs ≡ b
  any-alone p b [] some same = absurd (omega arith)
  any-alone p b (x ∷ []) some same = or_none (p x) false refl ∙ same 0 x refl
  any-alone p b (x ∷ y ∷ ys) some same =
      ap (λ (c : Bool). c || list_any p (y ∷ ys)) (same 0 x refl)
      ∙ ap (λ (c : Bool). b || c) (any-alone p b (y ∷ ys) (omega arith) (λ k z at. same (suc k) z at))
      ∙ twice b
    where
      twice : (c : Bool) → (c || c) ≡ c
      twice true = refl
      twice false = refl

  -- a part of a test that is the same for all values
  any-and : (b : Bool) (p : X → Bool) (xs : List X) → list_any (λ x. b && p x) xs ≡ (b && list_any p xs)
  any-and true p xs = refl
  any-and false p xs = any-none (λ x. false) (λ x. refl) xs

  any-and_right : (b : Bool) (p : X → Bool) (xs : List X) → list_any (λ x. p x && b) xs ≡ (list_any p xs && b)
  any-and_right b p [] = refl
  any-and_right b p (x ∷ xs) = ap (λ (c : Bool). (p x && b) || c) (any-and_right b p xs) ∙ by_tests (p x) b (list_any p xs)
    where
      by_tests : (a b c : Bool) → ((a && b) || (c && b)) ≡ ((a || c) && b)
      by_tests true true c = refl
      by_tests true false true = refl
      by_tests true false false = refl
      by_tests false b c = refl

  any-or : (p q : X → Bool) (xs : List X) → list_any (λ x. p x || q x) xs ≡ (list_any p xs || list_any q xs)
  any-or p q [] = refl
  any-or p q (x ∷ xs) = ap (λ (c : Bool). (p x || q x) || c) (any-or p q xs) ∙ by_tests (p x) (q x) (list_any p xs) (list_any q xs)
    where
      by_tests : (a b c d : Bool) → ((a || b) || (c || d)) ≡ ((a || c) || (b || d))
      by_tests true b c d = refl
      by_tests false true true d = refl
      by_tests false true false d = refl
      by_tests false false c d = refl

module _ {X Y : Type 0} where
  any-exchange : (f : X → Y → Bool) (xs : List X) (ys : List Y) → list_any (λ x. list_any (f x) ys) xs ≡ list_any (λ y. list_any (λ x. f x y) xs) ys
  any-exchange f [] ys = sym (any-none (λ y. false) (λ y. refl) ys)
  any-exchange f (x ∷ xs) ys =
      ap (λ (c : Bool). list_any (f x) ys || c) (any-exchange f xs ys)
      ∙ sym (any-or (f x) (λ y. list_any (λ z. f z y) xs) ys)

-- Some detailed task of a list passes, by its tasks.
module _ (test : Detail → Bool) (p : Problem) (tasks : List Task) where
  abbrev on_some_patch : (place : ℕ) → Task → Bool
  on_some_patch place t = list_any (λ level. list_any (λ material. list_any (λ patch. test (OnPatch place level material patch)) (patches_of p level)) t.materials) t.levels

  any-on_patches : (place : ℕ) (t : Task) → list_any test (on_patches p place t) ≡ on_some_patch place t
  any-on_patches place t =
      any-flat_map test (λ level. flat_map (λ material. map (OnPatch place level material) (patches_of p level)) t.materials) t.levels
      ∙ any-alike (λ level. list_any test (flat_map (λ material. map (OnPatch place level material) (patches_of p level)) t.materials))
      (λ level. list_any (λ material. list_any (λ patch. test (OnPatch place level material patch)) (patches_of p level)) t.materials)
      (λ level.
      any-flat_map test (λ material. map (OnPatch place level material) (patches_of p level)) t.materials
      ∙ any-alike (λ material. list_any test (map (OnPatch place level material) (patches_of p level))) (λ material. list_any (λ patch. test (OnPatch place level material patch)) (patches_of p level))
      (λ material. any-map test (OnPatch place level material) (patches_of p level)) t.materials) t.levels

  by_tasks : (T : Task → Bool) → ((place line : ℕ) → test (Combining place line) ≡ false) →
      ((place : ℕ) (t : Task) → slice_get tasks place ≡ Some t → on_some_patch place t ≡ T t) → list_any test (details_of p tasks) ≡ list_any T tasks
  by_tasks T none_combine each =
      any-flat_map test (λ place. option_map_or (λ t. on_patches p place t ++ combining place t) (slice_get tasks place) []) (counted 0 (length tasks))
      ∙ any-alike (λ place. list_any test (option_map_or (λ t. on_patches p place t ++ combining place t) (slice_get tasks place) [])) (λ place. option_map_or T (slice_get tasks place) false)
      (λ place. by_option place (slice_get tasks place) refl) (counted 0 (length tasks))
      ∙ any-places T tasks
    where
      by_option : (place : ℕ) (o : Option Task) → slice_get tasks place ≡ o →
          list_any test (option_map_or (λ t. on_patches p place t ++ combining place t) o []) ≡ option_map_or T o false
      by_option place None at = refl
      by_option place (Some t) at =
          list_any-append test (on_patches p place t) (combining place t)
          ∙ or_none (list_any test (on_patches p place t)) (list_any test (combining place t))
          (any-map test (Combining place) (filter (line_is t.writes (λ w. is_reduces w.kind)) (counted 0 (length t.writes)))
          ∙ any-none (λ line. test (Combining place line)) (none_combine place) (filter (line_is t.writes (λ w. is_reduces w.kind)) (counted 0 (length t.writes))))
          ∙ any-on_patches place t
          ∙ each place t at

none_of_both : (a b c d : Bool) → ((a && (b && c)) && d) ≡ (a && (b && (c && d)))
none_of_both true true c d = refl
none_of_both true false c d = refl
none_of_both false b c d = refl

-- Variables
module _ (p : Problem) (tasks : List Task) (name level material patch : ℕ) where
  abbrev slot : Slot
  slot = Old name level material patch

  -- what a requirement wants of the slot
  wants_variable : (place : ℕ) (t : Task) (from m near : ℕ) (r : Require) → wants p tasks place t from m near slot r
      ≡ (is_old_variable name r && ((level == wanted_level r.what from) && ((material == m) && is_in_window p t r from near patch)))
  wants_variable place t from m near r = by_parts (is_of_number r.what) r.store
    where
      by_parts : (number : Bool) (at : Store) →
          (if number then has_number tasks at (wanted_name r.what) slot else has_variable tasks place at (wanted_name r.what) m (wanted_level r.what from) slot && is_in_window p t r from near patch)
          ≡ ((is_old at && (not number && (name == wanted_name r.what))) && ((level == wanted_level r.what from) && ((material == m) && is_in_window p t r from near patch)))
      by_parts true store.Old = refl
      by_parts true store.New = refl
      by_parts false store.New = refl
      by_parts false store.Old = none_of_both (name == wanted_name r.what) (level == wanted_level r.what from) (material == m) (is_in_window p t r from near patch)

  moved_out : (v l m i : Bool) → (v && (l && (m && i))) ≡ (m && (v && (l && i)))
  moved_out true true true i = refl
  moved_out true true false i = refl
  moved_out true false true i = refl
  moved_out true false false i = refl
  moved_out false l true i = refl
  moved_out false l false i = refl

  for_material : (place : ℕ) (t : Task) → slice_get tasks place ≡ Some t → (from m : ℕ) →
      list_any (λ near. reads p tasks (OnPatch place from m near) slot) (patches_of p from) ≡ ((material == m) && list_any (wants_old p t name level patch from) t.requirements)
  for_material place t at from m =
      any-alike (λ near. reads p tasks (OnPatch place from m near) slot)
      (λ near. list_any (λ r. is_old_variable name r && ((level == wanted_level r.what from) && ((material == m) && is_in_window p t r from near patch))) t.requirements)
      (λ near. ap (λ (o : Option Task). option_map_or (λ (u : Task). list_any (wants p tasks place u from m near slot) u.requirements) o false) at
      ∙ any-alike (wants p tasks place t from m near slot) (λ r. is_old_variable name r && ((level == wanted_level r.what from) && ((material == m) && is_in_window p t r from near patch)))
      (wants_variable place t from m near) t.requirements) (patches_of p from)
      ∙ any-exchange (λ near r. is_old_variable name r && ((level == wanted_level r.what from) && ((material == m) && is_in_window p t r from near patch))) (patches_of p from) t.requirements
      ∙ any-alike (λ r. list_any (λ near. is_old_variable name r && ((level == wanted_level r.what from) && ((material == m) && is_in_window p t r from near patch))) (patches_of p from))
      (λ r. (material == m) && wants_old p t name level patch from r)
      (λ r.
      any-and (is_old_variable name r) (λ near. (level == wanted_level r.what from) && ((material == m) && is_in_window p t r from near patch)) (patches_of p from)
      ∙ ap (λ (b : Bool). is_old_variable name r && b)
      (any-and (level == wanted_level r.what from) (λ near. (material == m) && is_in_window p t r from near patch) (patches_of p from)
      ∙ ap (λ (b : Bool). (level == wanted_level r.what from) && b) (any-and (material == m) (λ near. is_in_window p t r from near patch) (patches_of p from)))
      ∙ moved_out (is_old_variable name r) (level == wanted_level r.what from) (material == m) (list_any (λ near. is_in_window p t r from near patch) (patches_of p from)))
      t.requirements
      ∙ any-and (material == m) (wants_old p t name level patch from) t.requirements

  pub variable_is_read : is_read p tasks slot ≡ list_any (reads_variable p name level material patch) tasks
  variable_is_read = by_tasks (λ d. reads p tasks d slot) p tasks (reads_variable p name level material patch) (λ place line. refl)
      (λ place t at.
      any-alike (λ from. list_any (λ m. list_any (λ near. reads p tasks (OnPatch place from m near) slot) (patches_of p from)) t.materials)
      (λ from. list_any (λ m. material == m) t.materials && list_any (wants_old p t name level patch from) t.requirements)
      (λ from.
      any-alike (λ m. list_any (λ near. reads p tasks (OnPatch place from m near) slot) (patches_of p from)) (λ m. (material == m) && list_any (wants_old p t name level patch from) t.requirements)
      (for_material place t at from) t.materials
      ∙ any-and_right (list_any (wants_old p t name level patch from) t.requirements) (λ m. material == m) t.materials) t.levels
      ∙ any-and (list_any (λ m. material == m) t.materials) (λ from. list_any (wants_old p t name level patch from) t.requirements) t.levels)

-- where no task reads the variable on the patch, it is read for no material
pub untouched : (p : Problem) (tasks : List Task) (name level material patch : ℕ) → list_any (touches_patch p name level patch) tasks ≡ false →
    is_read p tasks (Old name level material patch) ≡ false
untouched p tasks name level material patch none = variable_is_read p tasks name level material patch ∙ by_list tasks none
  where
    by_list : (ts : List Task) → list_any (touches_patch p name level patch) ts ≡ false → list_any (reads_variable p name level material patch) ts ≡ false
    by_list [] none = refl
    by_list (t ∷ ts) none =
        let parts = neither (touches_patch p name level patch t) (list_any (touches_patch p name level patch) ts) none in
        both_false (list_any (λ m. material == m) t.materials) (touches_patch p name level patch t) (list_any (reads_variable p name level material patch) ts) parts.0 (by_list ts parts.1)

-- where no task requires the variable, no patch is read
pub unrequired : (p : Problem) (tasks : List Task) (name level patch : ℕ) → list_any (requires_old name) tasks ≡ false → list_any (touches_patch p name level patch) tasks ≡ false
unrequired p [] name level patch none = refl
unrequired p (t ∷ ts) name level patch none =
    let parts = neither (requires_old name t) (list_any (requires_old name) ts) none in
    neither_of (touches_patch p name level patch t) (list_any (touches_patch p name level patch) ts)
    (any-none (λ from. list_any (wants_old p t name level patch from) t.requirements) (λ from. by_requirements from t.requirements parts.0) t.levels)
    (unrequired p ts name level patch parts.1)
  where
    by_requirements : (from : ℕ) (rs : List Require) → list_any (is_old_variable name) rs ≡ false → list_any (wants_old p t name level patch from) rs ≡ false
    by_requirements from [] none = refl
    by_requirements from (r ∷ rs) none =
        let parts = neither (is_old_variable name r) (list_any (is_old_variable name) rs) none in
        neither_of (wants_old p t name level patch from r) (list_any (wants_old p t name level patch from) rs)
        (ap (λ (b : Bool). b && ((level == wanted_level r.what from) && list_any (λ near. is_in_window p t r from near patch) (patches_of p from))) parts.0)
        (by_requirements from rs parts.1)

-- Reductions
module _ (p : Problem) (form : IsProblemInForm p) (faultless : IsFaultless p) (list : ℕ) (of_two : list < 2) (name : ℕ) where
  abbrev tasks : List Task
  tasks = task_list p list

  wants_number : (place : ℕ) (t : Task) (from m near : ℕ) (r : Require) → wants p tasks place t from m near (OldNumber name) r ≡ is_old_number name r
  wants_number place t from m near r = by_parts (is_of_number r.what) r.store
    where
      by_parts : (number : Bool) (at : Store) →
          (if number then has_number tasks at (wanted_name r.what) (OldNumber name) else has_variable tasks place at (wanted_name r.what) m (wanted_level r.what from) (OldNumber name) && is_in_window p t r from near 0)
          ≡ (is_old at && (number && (name == wanted_name r.what)))
      by_parts true store.Old = refl
      by_parts true store.New = refl
      by_parts false store.Old = refl
      by_parts false store.New = refl

  some_patch : (place : ℕ) (t : Task) → slice_get tasks place ≡ Some t → (i from : ℕ) → slice_get t.levels i ≡ Some from → 0 < length (patches_of p from)
  some_patch place t at i from at_level =
      let there : IsTaskAt p list place t = record { of_two = of_two; stands = at } in
      let below = all_at (λ l. l < length p.levels) t.levels i from at_level (levels_below p form faultless list place t there) in
      let l = placed p.levels from below in
      let some = (all_at IsLevelInForm p.levels from l.0 l.1 form.levels).some_patch in
      omega (arith, some, patches_at p from l.0 l.1)

  pub number_is_read : is_read p tasks (OldNumber name) ≡ list_any (reads_number name) tasks
  number_is_read = by_tasks (λ d. reads p tasks d (OldNumber name)) p tasks (reads_number name) (λ place line. refl)
      (λ place t at.
      let in_form = task_in_form p form list place t (record { of_two = of_two; stands = at }) in
      let levels = in_form.levels.some in
      let materials = in_form.materials.some in
      any-alone _ (reads_number name t) t.levels (omega (arith, levels)) (λ i from at_level.
      any-alone _ (reads_number name t) t.materials (omega (arith, materials)) (λ j m at_material.
      any-alone _ (reads_number name t) (patches_of p from) (some_patch place t at i from at_level) (λ h near at_patch.
      ap (λ (o : Option Task). option_map_or (λ (u : Task). list_any (wants p tasks place u from m near (OldNumber name)) u.requirements) o false) at
      ∙ any-alike (wants p tasks place t from m near (OldNumber name)) (is_old_number name) (wants_number place t from m near) t.requirements))))
