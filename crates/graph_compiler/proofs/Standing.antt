-- Which slots a list has, and that each of them stands at one place.
use Rattle.std.proofs.Common.{◌≡◌, ◌∙◌, ◌<◌, ◌⊎◌, inl, inr, ℕ, List, [], ◌∷◌, ◌++◌, Bool, true, false, Some, length, map, take, filter, get_or, ap, sym, refl, arith, subst}
use Rattle.std.specs.Prelude.{slice_get, option_map, All, Any, Contains}
use Rattle.std.specs.List.{AllPairs, flat_map, list_any}
use Rattle.std.specs.Option.{option_map_or}
use Rattle.std.proofs.lemmas.Bool.{cases_order, or_left, true≢false}
use Rattle.std.proofs.lemmas.List.Elements.{All-nil, All-cons, All-append, All-filter, All-map, Contains-get_or, filter_passes}
use Rattle.std.proofs.lemmas.List.Folds.{list_any-append}
use Rattle.std.proofs.lemmas.List.Kept.{AllPairs-cons, AllPairs-filter, AllPairs-from_increasing}
use Rattle.std.proofs.lemmas.Option.{slice_get-map, slice_get-get_or, slice_get_within, get_or_from_slice_get}
use Rattle.uts_geom.specs.Spans.{counted}
use Rattle.uts_geom.specs.Counting.{counted-at, length-counted}
use Rattle.uts_geom.specs.Lists.{all_at, any_at, of_option, get-take}
use Rattle.problem_types.specs.Form.{IsProblemInForm}
use Rattle.problem_types.specs.Lists.{is_of_field, is_reduces, task_list}
use Rattle.problem_types.specs.declared.problem.Problem.{Problem}
use Rattle.problem_types.specs.declared.problem.Reduction.{Reduction}
use Rattle.problem_types.specs.declared.problem.Task.{Task}
use Rattle.problem_types.specs.declared.problem.Var.{Var}
use Rattle.problem_types.specs.declared.problem.Write.{Write}
use Rattle.problem_types.specs.declared.problem.WriteKind.{WriteKind}
use Rattle.problem_types.specs.declared.problem.WriteKind.TheVariants as write
use Rattle.task_check.specs.declared.fault.FaultKind.TheVariants as kind
use Rattle.task_check.specs.Faults.{of_reduction, of_variable}
use Rattle.task_check.specs.First.{IsAccepted, IsFaultless}
use Rattle.task_check.specs.Plan.{Detail, OnPatch, Combining, Slot, Old, OldNumber, New, Part, Number, combining, details_of, is_read, line_is, old_numbers, old_variables, on_patches, patch_of, patches_of, reads, slot_written, slots_of, wants, written_by}
use Rattle.graph_compiler.specs.Places.{StandsAt}
use Rattle.graph_compiler.specs.Plan.{is_old}
use Rattle.graph_compiler.specs.Slots.{IsDetailOf, IsNumberOf, IsOfList, IsOnPatch}
use Rattle.graph_compiler.proofs.LastVersions.{list_any-flat_map}
use Rattle.graph_compiler.proofs.ValidDetails.{Before, IsBy, not_itself, one_writer, written_are_new, written_is_by}
use Rattle.graph_compiler.proofs.ValidLists.{counted-below, counted-rises}
use Rattle.graph_compiler.proofs.ValidOrders.{all-flat_map, all-option, at_places, ordered-append, ordered-flat_map, ordered-map, ordered-nil, ordered-option, ordered-weaker}
use Rattle.graph_compiler.proofs.ValidPlans.{olds_are_old, ordered}

-- ---- lists whose values differ

-- the two are not the same
abbrev pub Differ : {A : Type 0} → A → A → Type 0
Differ x y = x ≡ y → ⊥

pub stands_once : {A : Type 0} (xs : List A) → AllPairs Differ xs → (i j : ℕ) (x : A) → slice_get xs i ≡ Some x → slice_get xs j ≡ Some x → i ≡ j
stands_once {A} xs pairs i j x at_i at_j = by_order (cases_order i j)
  where
    by_order : (i ≡ j) ⊎ ((i < j) ⊎ (j < i)) → i ≡ j
    by_order (inl same) = same
    by_order (inr (inl before)) = absurd (at_places Differ xs pairs i j x x before at_i at_j refl)
    by_order (inr (inr after)) = absurd (at_places Differ xs pairs j i x x after at_j at_i refl)

numbers_differ : (n : ℕ) → AllPairs Differ (counted 0 n)
numbers_differ n =
    ordered-weaker (λ (i j : ℕ). i < j) Differ (counted 0 n) (λ i j less same. omega (arith, less, same)) (AllPairs-from_increasing (counted 0 n) (counted-rises n))

pub in_counted : (n : ℕ) → All (λ k. k < length (counted 0 n)) (counted 0 n)
in_counted n k d within = omega (arith, counted-below n k d within, length-counted 0 n)

-- values of two items differ, where each value keeps the key of its item, and the two keys differ
apart : {X A : Type 0} (key : A → ℕ) (of : X → ℕ) (g : X → List A) → ((x : X) → All (λ a. key a ≡ of x) (g x)) →
    (x y : X) → Differ (of x) (of y) → All (λ a. All (Differ a) (g y)) (g x)
apart key of g keeps x y differ = λ i a on. λ j b under. λ same. differ (sym (keeps x i a on) ∙ ap key same ∙ keeps y j b under)

-- ---- old slots

abbrev name_of : Slot → ℕ
name_of (Old name level material patch) = name
name_of (OldNumber name) = name
name_of (New task line level material patch) = 0
name_of (Part task line level material patch) = 0
name_of (Number task line) = 0

abbrev level_of : Slot → ℕ
level_of (Old name level material patch) = level
level_of (OldNumber name) = 0
level_of (New task line level material patch) = level
level_of (Part task line level material patch) = level
level_of (Number task line) = 0

abbrev material_of : Slot → ℕ
material_of (Old name level material patch) = material
material_of (OldNumber name) = 0
material_of (New task line level material patch) = material
material_of (Part task line level material patch) = material
material_of (Number task line) = 0

abbrev line_of : Slot → ℕ
line_of (Old name level material patch) = 0
line_of (OldNumber name) = 0
line_of (New task line level material patch) = line
line_of (Part task line level material patch) = line
line_of (Number task line) = line

abbrev is_old_number : Slot → Bool
is_old_number (Old name level material patch) = false
is_old_number (OldNumber name) = true
is_old_number (New task line level material patch) = false
is_old_number (Part task line level material patch) = false
is_old_number (Number task line) = false

module _ (p : Problem) where
  module _ (name : ℕ) where
    abbrev on_material : (level material : ℕ) → List Slot
    on_material level material = map (Old name level material) (patches_of p level)

    abbrev on_level : ℕ → List Slot
    on_level level = flat_map (on_material level) (counted 0 p.materials.value)

    abbrev on_levels : List Slot
    on_levels = flat_map on_level (counted 0 (length p.levels))

    every_patch : (P : Slot → Type 0) (level material : ℕ) → ((q : ℕ) → q < length (patches_of p level) → P (Old name level material q)) → All P (on_material level material)
    every_patch P level material holds = All-map P (Old name level material) (patches_of p level) (λ i q on.
        holds (get_or (patches_of p level) i q) (in_counted (option_map_or (λ l. length l.patches) (slice_get p.levels level) 0) i q on))

    every_material : (P : Slot → Type 0) (level : ℕ) → ((m q : ℕ) → m < p.materials.value → q < length (patches_of p level) → P (Old name level m q)) → All P (on_level level)
    every_material P level holds = all-flat_map P (on_material level) (counted 0 p.materials.value) (λ i m on.
        every_patch P level (get_or (counted 0 p.materials.value) i m) (λ q. holds (get_or (counted 0 p.materials.value) i m) q (counted-below p.materials.value i m on)))

    every_level : (P : Slot → Type 0) → ((l m q : ℕ) → l < length p.levels → m < p.materials.value → q < length (patches_of p l) → P (Old name l m q)) → All P on_levels
    every_level P holds = all-flat_map P on_level (counted 0 (length p.levels)) (λ i l on.
        every_material P (get_or (counted 0 (length p.levels)) i l) (λ m q. holds (get_or (counted 0 (length p.levels)) i l) m q (counted-below (length p.levels) i l on)))

    patches_differ : (level material : ℕ) → AllPairs Differ (on_material level material)
    patches_differ level material = ordered-map Differ (Old name level material) (patches_of p level)
        (ordered-weaker Differ (λ q r. Differ (Old name level material q) (Old name level material r)) (patches_of p level)
        (λ q r differ same. differ (ap patch_of same)) (numbers_differ (option_map_or (λ l. length l.patches) (slice_get p.levels level) 0)))

    materials_differ : (level : ℕ) → AllPairs Differ (on_level level)
    materials_differ level =
        ordered-flat_map Differ Differ (on_material level) (counted 0 p.materials.value) (numbers_differ p.materials.value) (patches_differ level)
        (apart material_of (λ m. m) (on_material level) (λ m. every_patch (λ s. material_of s ≡ m) level m (λ q below. refl)))

    levels_differ : AllPairs Differ on_levels
    levels_differ =
        ordered-flat_map Differ Differ on_level (counted 0 (length p.levels)) (numbers_differ (length p.levels)) materials_differ
        (apart level_of (λ l. l) on_level (λ l. every_material (λ s. level_of s ≡ l) l (λ m q few below. refl)))

  every_variable : (P : Slot → Type 0) → ((v : Var) (l m q : ℕ) → Contains p.vars v → l < length p.levels → m < p.materials.value → q < length (patches_of p l)
      → P (Old v.name l m q)) → All P (old_variables p)
  every_variable P holds = all-flat_map P (λ (v : Var). on_levels v.name) p.vars (λ i v on.
      every_level (get_or p.vars i v).name P (λ l m q. holds (get_or p.vars i v) l m q (Contains-get_or p.vars i v on)))

  every_number : (P : Slot → Type 0) → ((q : Reduction) → Contains p.reductions q → P (OldNumber q.name)) → All P (old_numbers p)
  every_number P holds = All-map P (λ (q : Reduction). OldNumber q.name) p.reductions (λ i q on. holds (get_or p.reductions i q) (Contains-get_or p.reductions i q on))

  -- no two declarations have one name
  any_before : {A : Type 0} (P : A → Type 0) (xs : List A) (n k : ℕ) (x : A) → k < n → slice_get xs k ≡ Some x → P x → Any P (take n xs)
  any_before P xs n k x before at holds =
      let there = get-take xs n k before ∙ at in (k, x, slice_get_within (take n xs) k x there, get_or_from_slice_get (take n xs) k x x there, holds)

  module _ (faultless : IsFaultless p) where
    variables_differ : AllPairs (λ v w. Differ v.name w.name) p.vars
    variables_differ i j d before below same =
        let w = get_or p.vars j d in
        faultless w.line kind.Twice (of_variable j w kind.Twice (slice_get-get_or p.vars j d below)
        (any_before (λ (v : Var). v.name ≡ w.name) p.vars j i (get_or p.vars i d) before (slice_get-get_or p.vars i d (omega arith)) same))

    reductions_differ : AllPairs (λ q r. Differ q.name r.name) p.reductions
    reductions_differ i j d before below same =
        let w = get_or p.reductions j d in
        faultless w.line kind.Twice (of_reduction j w kind.Twice (slice_get-get_or p.reductions j d below)
        (inr (any_before (λ (v : Reduction). v.name ≡ w.name) p.reductions j i (get_or p.reductions i d) before (slice_get-get_or p.reductions i d (omega arith)) same)))

    old_variables_differ : AllPairs Differ (old_variables p)
    old_variables_differ =
        ordered-flat_map (λ v w. Differ v.name w.name) Differ (λ (v : Var). on_levels v.name) p.vars variables_differ (λ v. levels_differ v.name)
        (apart name_of (λ (v : Var). v.name) (λ v. on_levels v.name) (λ v. every_level v.name (λ s. name_of s ≡ v.name) (λ l m q one two three. refl)))

    old_numbers_differ : AllPairs Differ (old_numbers p)
    old_numbers_differ = ordered-map Differ (λ (q : Reduction). OldNumber q.name) p.reductions
        (ordered-weaker (λ q r. Differ q.name r.name) (λ q r. Differ (OldNumber q.name) (OldNumber r.name)) p.reductions (λ q r differ same. differ (ap name_of same)) reductions_differ)

    -- no two of the slots that might stand for the step before are the same
    pub old_slots_differ : AllPairs Differ (old_variables p ++ old_numbers p)
    old_slots_differ = ordered-append Differ (old_variables p) (old_numbers p) old_variables_differ old_numbers_differ (λ i a on. λ j b under. λ same.
        true≢false (sym (every_number (λ s. is_old_number s ≡ true) (λ q there. refl) j b under) ∙ sym (ap is_old_number same)
        ∙ every_variable (λ s. is_old_number s ≡ false) (λ v l m q there one two three. refl) i a on))

-- ---- slots that detailed tasks write

module _ (tasks : List Task) where
  module _ (task level material patch : ℕ) where
    abbrev in_line : ℕ → Write → List Slot
    in_line line w = slot_written w.kind task line level material patch ∷ []

    abbrev in_task : ℕ → Task → List Slot
    in_task line t = option_map_or (in_line line) (slice_get t.writes line) []

    abbrev at_line : ℕ → List Slot
    at_line line = option_map_or (in_task line) (slice_get tasks task) []

    every_written : (P : Slot → Type 0) (line : ℕ) → ((t : Task) (w : Write) → slice_get tasks task ≡ Some t → slice_get t.writes line ≡ Some w
        → P (slot_written w.kind task line level material patch)) → All P (at_line line)
    every_written P line holds =
        all-option P (in_task line) (slice_get tasks task) (λ t at. all-option P (in_line line) (slice_get t.writes line) (λ w there.
        All-cons P (slot_written w.kind task line level material patch) [] (holds t w at there) (All-nil P)))

    line_of_written : (line : ℕ) (k : WriteKind) → line_of (slot_written k task line level material patch) ≡ line
    line_of_written line write.Computes = refl
    line_of_written line write.Modifies = refl
    line_of_written line (write.Reduces c) = refl

    one_slot : (s : Slot) → AllPairs Differ (s ∷ [])
    one_slot s = AllPairs-cons Differ s [] (All-nil (Differ s)) (ordered-nil Differ)

    lines_differ : (n : ℕ) → AllPairs Differ (flat_map at_line (counted 0 n))
    lines_differ n =
        ordered-flat_map Differ Differ at_line (counted 0 n) (numbers_differ n)
        (λ line. ordered-option Differ (in_task line) (slice_get tasks task) (λ t at. ordered-option Differ (in_line line) (slice_get t.writes line) (λ w there.
        one_slot (slot_written w.kind task line level material patch))))
        (apart line_of (λ k. k) at_line (λ line. every_written (λ s. line_of s ≡ line) line (λ t w at there. line_of_written line w.kind)))

  written_differ : (d : Detail) → AllPairs Differ (written_by tasks d)
  written_differ (OnPatch task level material patch) = lines_differ task level material patch (option_map_or (λ t. length t.writes) (slice_get tasks task) 0)
  written_differ (Combining task line) = AllPairs-cons Differ (Number task line) [] (All-nil (Differ (Number task line))) (ordered-nil Differ)

  all_written_differ : (ds : List Detail) → AllPairs Before ds → AllPairs Differ (flat_map (written_by tasks) ds)
  all_written_differ ds pairs = ordered-flat_map Before Differ (written_by tasks) ds pairs written_differ (λ d e before. λ i a on. λ j b under. λ same.
      let s = get_or (written_by tasks d) i a in
      let by_second : IsBy s e = subst (λ (x : Slot). IsBy x e) (sym same) (written_is_by tasks e j b under) in
      let one : d ≡ e = one_writer s d e (written_is_by tasks d i a on) by_second in
      not_itself e (subst (λ (x : Detail). Before x e) one before))

-- ---- each slot of a list stands once

module _ (p : Problem) (form : IsProblemInForm p) (accepted : IsAccepted p) (list : ℕ) (of_two : list < 2) where
  abbrev tasks_here : List Task
  tasks_here = task_list p list

  slots_differ : AllPairs Differ (slots_of p tasks_here)
  slots_differ = ordered-append Differ (filter (is_read p tasks_here) (old_variables p ++ old_numbers p)) (flat_map (written_by tasks_here) (details_of p tasks_here))
      (AllPairs-filter Differ (is_read p tasks_here) (old_variables p ++ old_numbers p) (old_slots_differ p accepted.faultless))
      (all_written_differ tasks_here (details_of p tasks_here) (ordered p form list of_two))
      (λ i a on. λ j b under. λ same.
      true≢false (sym (olds_are_old p tasks_here i a on) ∙ ap is_old same ∙ written_are_new tasks_here (details_of p tasks_here) j b under))

  -- two places with one slot are one
  pub slots_stand_once : (i j : ℕ) (s : Slot) → StandsAt p tasks_here i s → StandsAt p tasks_here j s → i ≡ j
  slots_stand_once = stands_once (slots_of p tasks_here) slots_differ

-- ---- which slots a list has

module _ (p : Problem) (tasks : List Task) where
  abbrev is_of_list : Slot → Type 0
  is_of_list s = IsOfList p tasks s

  abbrev are_of_list : Detail → Type 0
  are_of_list d = All is_of_list (written_by tasks d)

  olds_are_of_list : All is_of_list (filter (is_read p tasks) (old_variables p ++ old_numbers p))
  olds_are_of_list = All-filter (is_read p tasks) is_of_list (old_variables p ++ old_numbers p)
      (All-append is_of_list (old_variables p) (old_numbers p)
      (every_variable p is_of_list (λ v l m q there level_there material_there patch_there. record {
        variable = v;
        declared = there;
        named = refl;
        of_levels = level_there;
        of_materials = material_there;
        of_patches = patch_there;
      }))
      (every_number p is_of_list (λ q there. (there.0, q, there.1, there.2, refl))))

  module _ (task : ℕ) (t : Task) (at : slice_get tasks task ≡ Some t) where
    of_line : (level material patch line : ℕ) (w : Write) → Contains t.levels level → Contains t.materials material → patch < length (patches_of p level)
        → slice_get t.writes line ≡ Some w → is_of_list (slot_written w.kind task line level material patch)
    of_line level material patch line w level_there material_there patch_there there = by_kind w.kind refl
      where
        on_patch : (fits : WriteKind → Bool) → fits w.kind ≡ true → IsOnPatch p tasks task line level material patch fits
        on_patch fits fit = record {
          t = t;
          w = w;
          task_at = at;
          line_at = there;
          of_kind = fit;
          of_levels = level_there;
          of_materials = material_there;
          of_patches = patch_there;
        }

        by_kind : (k : WriteKind) → w.kind ≡ k → is_of_list (slot_written k task line level material patch)
        by_kind write.Computes is = on_patch is_of_field (ap is_of_field is)
        by_kind write.Modifies is = on_patch is_of_field (ap is_of_field is)
        by_kind (write.Reduces c) is = on_patch is_reduces (ap is_reduces is)

    of_patch : (level material patch : ℕ) → Contains t.levels level → Contains t.materials material → patch < length (patches_of p level) → are_of_list (OnPatch task level material patch)
    of_patch level material patch level_there material_there patch_there =
        all-flat_map is_of_list (at_line tasks task level material patch) (counted 0 (option_map_or (λ u. length u.writes) (slice_get tasks task) 0)) (λ i line on.
        every_written tasks task level material patch is_of_list (get_or (counted 0 (option_map_or (λ u. length u.writes) (slice_get tasks task) 0)) i line) (λ u w also there.
        let same : t ≡ u = cc in
        of_line level material patch (get_or (counted 0 (option_map_or (λ u. length u.writes) (slice_get tasks task) 0)) i line) w level_there material_there patch_there
        (subst (λ (x : Task). slice_get x.writes (get_or (counted 0 (option_map_or (λ u. length u.writes) (slice_get tasks task) 0)) i line) ≡ Some w) (sym same) there)))

    of_combining : (line : ℕ) → line_is t.writes (λ w. is_reduces w.kind) line ≡ true → are_of_list (Combining task line)
    of_combining line reduces =
        let w = of_option (λ (w : Write). is_reduces w.kind) (slice_get t.writes line) reduces in
        All-cons is_of_list (Number task line) [] (record { t = t; w = w.0; task_at = at; line_at = w.1; of_kind = w.2 }) (All-nil is_of_list)

  -- ---- which detailed tasks a list has

  -- what holds of a task on a patch, and for a line that reduces
  module _ (P : Detail → Type 0)
      (on_patch : (task level material patch : ℕ) (t : Task) → slice_get tasks task ≡ Some t → Contains t.levels level → Contains t.materials material → patch < length (patches_of p level)
      → P (OnPatch task level material patch))
      (for_line : (task line : ℕ) (t : Task) → slice_get tasks task ≡ Some t → line_is t.writes (λ w. is_reduces w.kind) line ≡ true → P (Combining task line)) where
    module _ (task : ℕ) (t : Task) (at : slice_get tasks task ≡ Some t) where
      abbrev lines_here : List ℕ
      lines_here = filter (line_is t.writes (λ w. is_reduces w.kind)) (counted 0 (length t.writes))

      of_task : All P (on_patches p task t ++ combining task t)
      of_task = All-append P (on_patches p task t) (combining task t)
          (all-flat_map P (λ level. flat_map (λ material. map (OnPatch task level material) (patches_of p level)) t.materials) t.levels (λ i level on_level.
          all-flat_map P (λ material. map (OnPatch task (get_or t.levels i level) material) (patches_of p (get_or t.levels i level))) t.materials (λ j material on_material.
          All-map P (OnPatch task (get_or t.levels i level) (get_or t.materials j material)) (patches_of p (get_or t.levels i level)) (λ k patch on.
          on_patch task (get_or t.levels i level) (get_or t.materials j material) (get_or (patches_of p (get_or t.levels i level)) k patch) t at
          (Contains-get_or t.levels i level on_level) (Contains-get_or t.materials j material on_material)
          (in_counted (option_map_or (λ l. length l.patches) (slice_get p.levels (get_or t.levels i level)) 0) k patch on)))))
          (All-map P (Combining task) lines_here (λ i line on. for_line task (get_or lines_here i line) t at (filter_passes (line_is t.writes (λ w. is_reduces w.kind)) (counted 0 (length t.writes)) i line on)))

    every_detail : All P (details_of p tasks)
    every_detail = all-flat_map P (λ place. option_map_or (λ t. on_patches p place t ++ combining place t) (slice_get tasks place) []) (counted 0 (length tasks)) (λ i place on.
        all-option P (λ t. on_patches p (get_or (counted 0 (length tasks)) i place) t ++ combining (get_or (counted 0 (length tasks)) i place) t)
        (slice_get tasks (get_or (counted 0 (length tasks)) i place)) (λ t at. of_task (get_or (counted 0 (length tasks)) i place) t at))

  -- a detailed task that stands is one of these
  pub detail_is_of_list : (place : ℕ) (d : Detail) → slice_get (details_of p tasks) place ≡ Some d → IsDetailOf p tasks d
  detail_is_of_list place d at = all_at (IsDetailOf p tasks) (details_of p tasks) place d at (every_detail (IsDetailOf p tasks)
      (λ task level material patch t there level_there material_there patch_there. record {
        t = t;
        task_at = there;
        of_levels = level_there;
        of_materials = material_there;
        of_patches = patch_there;
      })
      (λ task line t there reduces. reduced task line t there reduces))
    where
      reduced : (task line : ℕ) (t : Task) → slice_get tasks task ≡ Some t → line_is t.writes (λ w. is_reduces w.kind) line ≡ true → IsNumberOf tasks task line
      reduced task line t there reduces =
          let w = of_option (λ (w : Write). is_reduces w.kind) (slice_get t.writes line) reduces in
          record { t = t; w = w.0; task_at = there; line_at = w.1; of_kind = w.2 }

  all_of_list : All is_of_list (slots_of p tasks)
  all_of_list = All-append is_of_list (filter (is_read p tasks) (old_variables p ++ old_numbers p)) (flat_map (written_by tasks) (details_of p tasks)) olds_are_of_list
      (all-flat_map is_of_list (written_by tasks) (details_of p tasks)
      (every_detail are_of_list (λ task level material patch t at level_there material_there patch_there. of_patch task t at level material patch level_there material_there patch_there)
      (λ task line t at reduces. of_combining task t at line reduces)))

  -- a slot that stands is one of these
  pub slot_is_of_list : (place : ℕ) (s : Slot) → StandsAt p tasks place s → IsOfList p tasks s
  slot_is_of_list place s at = all_at is_of_list (slots_of p tasks) place s at all_of_list

-- ---- which detailed tasks a list has

pub contained_at : {A : Type 0} (xs : List A) (x : A) → Contains xs x → (k : ℕ) × (slice_get xs k ≡ Some x)
contained_at xs x there = (there.0, slice_get-get_or xs there.0 x there.1 ∙ ap Some there.2)

any_joined : {X A : Type 0} (q : A → Bool) (g : X → List A) (xs : List X) (k : ℕ) (x : X) → slice_get xs k ≡ Some x → list_any q (g x) ≡ true → list_any q (flat_map g xs) ≡ true
any_joined q g xs k x at passes = list_any-flat_map q g xs ∙ any_at (λ y. list_any q (g y)) xs k x at passes

module _ (p : Problem) (tasks : List Task) (task : ℕ) (t : Task) (at : slice_get tasks task ≡ Some t) (level material patch : ℕ)
    (level_there : Contains t.levels level) (material_there : Contains t.materials material) (patch_there : patch < length (patches_of p level)) where
  -- the detailed task of a task on a patch stands in the list
  pub detail_passes : (q : Detail → Bool) → q (OnPatch task level material patch) ≡ true → list_any q (details_of p tasks) ≡ true
  detail_passes q passes =
      any_joined q (λ place. option_map_or (λ u. on_patches p place u ++ combining place u) (slice_get tasks place) []) (counted 0 (length tasks)) task task
      (counted-at (length tasks) task (slice_get_within tasks task t at))
      (ap (λ o. list_any q (option_map_or (λ u. on_patches p task u ++ combining task u) o [])) at
      ∙ list_any-append q (on_patches p task t) (combining task t) ∙ or_left (list_any q (on_patches p task t)) (list_any q (combining task t)) on_some_patch)
    where
      on_some_patch : list_any q (on_patches p task t) ≡ true
      on_some_patch =
          let l = contained_at t.levels level level_there in
          let m = contained_at t.materials material material_there in
          any_joined q (λ level. flat_map (λ material. map (OnPatch task level material) (patches_of p level)) t.materials) t.levels l.0 level l.1
          (any_joined q (λ material. map (OnPatch task level material) (patches_of p level)) t.materials m.0 material m.1
          (any_at q (map (OnPatch task level material) (patches_of p level)) patch (OnPatch task level material patch)
          (slice_get-map (OnPatch task level material) (patches_of p level) patch
          ∙ ap (option_map (OnPatch task level material)) (counted-at (option_map_or (λ l. length l.patches) (slice_get p.levels level) 0) patch
          (omega (arith, patch_there, length-counted 0 (option_map_or (λ l. length l.patches) (slice_get p.levels level) 0))))) passes))

  -- so what one of its requirements wants is read
  pub wanted_is_read : (s : Slot) → list_any (wants p tasks task t level material patch s) t.requirements ≡ true → is_read p tasks s ≡ true
  wanted_is_read s wanted = detail_passes (λ d. reads p tasks d s)
      (ap (λ o. option_map_or (λ (u : Task). list_any (wants p tasks task u level material patch s) u.requirements) o false) at ∙ wanted)
