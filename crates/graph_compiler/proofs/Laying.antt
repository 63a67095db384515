-- Where the slots of a task stand among those of a list.
use Rattle.std.proofs.Common.{◌≡◌, ◌∙◌, ◌<◌, ◌≤◌, ◌+◌, ◌*◌, ◌⊎◌, inl, inr, ℕ, zero, suc, List, [], ◌∷◌, ◌++◌, Bool, true, false, cond, Option, Some, None, length, map, take, get_or, ap, sym, refl, arith, subst, ltb, length-append}
use Rattle.std.specs.Prelude.{slice_get, option_map, filter, All, Contains, ◌==◌}
use Rattle.std.specs.List.{count_by, flat_map, position_or_len, range_with_len, sum_by}
use Rattle.std.specs.Option.{option_map_or, unwrap_or}
use Rattle.std.proofs.Math.Nat.{eq-or-lt_of_le, le_trans, mul-le-mul_left, mul-le-mul_right}
use Rattle.std.proofs.lemmas.Bool.{cases_Bool, cases_lt, eqb-true, eq-eqb, lt-ltb, ltb-true, true≢false}
use Rattle.std.proofs.lemmas.List.{get_or_default, length-map, length-take-le, take-append-le, take_all}
use Rattle.std.proofs.lemmas.List.Concat.{flat_map-append, flat_map_single, length-flat_map}
use Rattle.std.proofs.lemmas.List.Elements.{All-map, All-tail}
use Rattle.std.proofs.lemmas.List.Sums.{fails_before_first, length-filter, passes_at_first, sum_by-cons, sum_by-take-le, sum_by_push}
use Rattle.std.proofs.lemmas.Option.{same_Some, slice_get-get_or, slice_get-map, slice_get_within}
use Rattle.uts_geom.specs.Spans.{counted}
use Rattle.uts_geom.specs.Counting.{counted-at, get_left, get_right, length-counted}
use Rattle.graph_types.specs.Counting.{filter_at}
use Rattle.std.proofs.lemmas.Map.Keys.{sorted_from_strictly_increasing}
use Rattle.std.proofs.lemmas.Map.Views.{length-le_from_below}
use Rattle.uts_geom.specs.Lists.{placed, from_take}
use Rattle.problem_types.specs.Form.{IsNumberList, IsTaskInForm}
use Rattle.problem_types.specs.Lists.{is_reduces}
use Rattle.problem_types.specs.declared.problem.Problem.{Problem}
use Rattle.problem_types.specs.declared.problem.Task.{Task}
use Rattle.problem_types.specs.declared.problem.Write.{Write}
use Rattle.task_check.specs.Bounds.{IsBounded, IsBoundedTask}
use Rattle.task_check.specs.Plan.{Detail, OnPatch, Combining, Slot, Number, combining, is_read, line_is, old_numbers, old_variables, on_patches, patches_of, slot_written, slots_of, written_by}
use Rattle.task_check.specs.Sizes.{part_count, patches_on, reduces_count}
use Rattle.graph_compiler.specs.Layouts.{IsLaidOut, before, parts_before}
use Rattle.graph_compiler.specs.Places.{StandsAt}
use Rattle.graph_compiler.specs.declared.layout.Layout.{Layout}
use Rattle.graph_compiler.proofs.Growing.{counted_more}
use Rattle.graph_compiler.proofs.TaskSlots.{flat_map-flat_map, flat_map-map}
use Rattle.graph_compiler.proofs.ValidLists.{count-range, counted-below, same_numbers}
use Rattle.graph_compiler.proofs.ValidOrders.{all-flat_map}

-- ---- places in joined lists

-- what stands at a place of the i-th list stands behind all lists before it
pub get-joined : {X A : Type 0} (f : X → List A) (xs : List X) (i j : ℕ) (x : X) (y : A) → slice_get xs i ≡ Some x → slice_get (f x) j ≡ Some y
    → slice_get (flat_map f xs) (sum_by (λ z. length (f z)) (take i xs) + j) ≡ Some y
get-joined f [] i j x y at there = absurd cc
get-joined {X} f (z ∷ xs) zero j x y at there =
    let same : x ≡ z = cc in
    let here = subst (λ (w : X). slice_get (f w) j ≡ Some y) same there in
    ap (slice_get (f z ++ flat_map f xs)) (let e : 0 + j ≡ j = omega arith in e) ∙ get_left (f z) (flat_map f xs) j (slice_get_within (f z) j y here) ∙ here
get-joined f (z ∷ xs) (suc i) j x y at there =
    get_right (f z) (flat_map f xs) (sum_by (λ w. length (f w)) (z ∷ take i xs) + j) (sum_by (λ w. length (f w)) (take i xs) + j)
    (omega (arith, sum_by-cons (λ w. length (f w)) z (take i xs)))
    ∙ get-joined f xs i j x y at there

-- a sum of equal numbers
pub sum-equal : {X : Type 0} (f : X → ℕ) (n : ℕ) (xs : List X) → All (λ x. f x ≡ n) xs → (k : ℕ) → k ≤ length xs → sum_by f (take k xs) ≡ k * n
sum-equal f n xs each zero within = omega arith
sum-equal f n [] each (suc k) within = absurd (omega arith)
sum-equal f n (x ∷ xs) each (suc k) within =
    sum_by-cons f x (take k xs)
    ∙ ap (λ (m : ℕ). m + sum_by f (take k xs)) (each 0 x (omega arith))
    ∙ ap (λ (m : ℕ). n + m) (sum-equal f n xs (All-tail (λ y. f y ≡ n) x xs each) k (omega arith))
    ∙ omega arith

pub sum-scaled : {X : Type 0} (f g : X → ℕ) (m : ℕ) → ((x : X) → f x ≡ m * g x) → (xs : List X) → sum_by f xs ≡ m * sum_by g xs
sum-scaled f g m each [] = omega arith
sum-scaled f g m each (x ∷ xs) =
    sum_by-cons f x xs
    ∙ ap (λ (n : ℕ). n + sum_by f xs) (each x)
    ∙ ap (λ (n : ℕ). m * g x + n) (sum-scaled f g m each xs)
    ∙ omega arith
    ∙ ap (λ (n : ℕ). m * n) (sym (sum_by-cons g x xs))

-- the first numbers
pub take-counted : (k n : ℕ) → k ≤ n → take k (counted 0 n) ≡ counted 0 k
take-counted k zero within = ap (λ (m : ℕ). take m (counted 0 0)) (let e : k ≡ 0 = omega arith in e) ∙ ap (counted 0) (let e : 0 ≡ k = omega arith in e)
take-counted k (suc n) within = elim (eq-or-lt_of_le within) [
  | inl whole ↦ ap (λ (m : ℕ). take m (counted 0 (suc n))) whole ∙ take_all (suc n) (counted 0 (suc n)) (omega (arith, length-counted 0 (suc n))) ∙ ap (counted 0) (sym whole)
  | inr less ↦ take-append-le k (counted 0 n) ((0 + n) ∷ []) (omega (arith, length-counted 0 n)) ∙ take-counted k n (omega arith)
]

-- a number that is there stands behind those before it
pub before_at : (numbers : List ℕ) (n : ℕ) → Contains numbers n → slice_get numbers (before n numbers) ≡ Some n
before_at numbers n there =
    ap (λ (o : Option ℕ). slice_get numbers (unwrap_or o 0)) (ap (λ (b : Bool). cond b (Some first) None) (lt-ltb first (length numbers) below))
    ∙ slice_get-get_or numbers first n below ∙ ap Some (eqb-true (get_or numbers first n) n (passes_at_first (λ m. m == n) numbers n below))
  where
    first : ℕ
    first = position_or_len (λ m. m == n) numbers

    none_past : length numbers ≤ first → ⊥
    none_past past =
        let fails : (get_or numbers there.0 n == n) ≡ false = fails_before_first (λ m. m == n) numbers there.0 n (omega (arith, there.1)) in
        true≢false (sym (eq-eqb (get_or numbers there.0 n) n (get_or_default numbers there.0 n _ there.1 ∙ there.2)) ∙ fails)

    below : first < length numbers
    below = elim (cases_lt first (length numbers)) [
      | inl less ↦ less
      | inr past ↦ absurd (none_past past)
    ]

-- ---- the slots of a task

module _ (p : Problem) (tasks : List Task) (place : ℕ) (t : Task) (stands : slice_get tasks place ≡ Some t) where
  -- what a detailed task on a patch writes, line by line
  module _ (level material patch : ℕ) where
    abbrev at_line : ℕ → List Slot
    at_line line = option_map_or (λ w. slot_written w.kind place line level material patch ∷ []) (slice_get t.writes line) []

    written_is : written_by tasks (OnPatch place level material patch) ≡ flat_map at_line (counted 0 (length t.writes))
    written_is = rw stands refl

    one_each : All (λ line. length (at_line line) ≡ 1) (counted 0 (length t.writes))
    one_each = λ k line under.
        let there = placed t.writes (get_or (counted 0 (length t.writes)) k line) (counted-below (length t.writes) k line under) in
        ap (λ (o : Option Write). length (option_map_or (λ w. slot_written w.kind place (get_or (counted 0 (length t.writes)) k line) level material patch ∷ []) o [])) there.1

    written_size : length (written_by tasks (OnPatch place level material patch)) ≡ length t.writes
    written_size =
        ap length written_is
        ∙ length-flat_map at_line (counted 0 (length t.writes))
        ∙ ap (sum_by (λ line. length (at_line line))) (sym (take_all (length t.writes) (counted 0 (length t.writes)) (omega (arith, length-counted 0 (length t.writes)))))
        ∙ sum-equal (λ line. length (at_line line)) 1 (counted 0 (length t.writes)) one_each (length t.writes) (omega (arith, length-counted 0 (length t.writes)))
        ∙ omega arith

    pub written_at : (line : ℕ) (w : Write) → slice_get t.writes line ≡ Some w
        → slice_get (written_by tasks (OnPatch place level material patch)) line ≡ Some (slot_written w.kind place line level material patch)
    written_at line w at =
        let below = slice_get_within t.writes line w at in
        let before_it : sum_by (λ k. length (at_line k)) (take line (counted 0 (length t.writes))) ≡ line * 1 =
        sum-equal (λ k. length (at_line k)) 1 (counted 0 (length t.writes)) one_each line (omega (arith, below, length-counted 0 (length t.writes))) in
        let here : slice_get (at_line line) 0 ≡ Some (slot_written w.kind place line level material patch) =
        ap (λ (o : Option Write). slice_get (option_map_or (λ v. slot_written v.kind place line level material patch ∷ []) o []) 0) at in
        ap (λ (xs : List Slot). slice_get xs line) written_is
        ∙ ap (slice_get (flat_map at_line (counted 0 (length t.writes)))) (let e : line ≡ sum_by (λ k. length (at_line k)) (take line (counted 0 (length t.writes))) + 0 = omega (arith, before_it) in e)
        ∙ get-joined at_line (counted 0 (length t.writes)) line 0 line (slot_written w.kind place line level material patch) (counted-at (length t.writes) line below) here

  -- the detailed tasks on patches
  abbrev on_material : (level material : ℕ) → List Detail
  on_material level material = map (OnPatch place level material) (patches_of p level)

  abbrev on_level : ℕ → List Detail
  on_level level = flat_map (on_material level) t.materials

  material_size : (level material : ℕ) → length (on_material level material) ≡ length (patches_of p level)
  material_size level material = length-map (patches_of p level) (OnPatch place level material)

  materials_size : (level n : ℕ) → n ≤ length t.materials → sum_by (λ m. length (on_material level m)) (take n t.materials) ≡ n * length (patches_of p level)
  materials_size level n within =
      sum-equal (λ m. length (on_material level m)) (length (patches_of p level)) t.materials (λ k m under. material_size level (get_or t.materials k m)) n within

  level_size : (level : ℕ) → length (on_level level) ≡ length t.materials * length (patches_of p level)
  level_size level =
      length-flat_map (on_material level) t.materials
      ∙ ap (sum_by (λ m. length (on_material level m))) (sym (take_all (length t.materials) t.materials (omega arith)))
      ∙ materials_size level (length t.materials) (omega arith)

  levels_size : (levels : List ℕ) → sum_by (λ l. length (on_level l)) levels ≡ length t.materials * patches_on p levels
  levels_size levels = sum-scaled (λ l. length (on_level l)) (λ l. length (patches_of p l)) (length t.materials) level_size levels

  patches_size : length (on_patches p place t) ≡ part_count p t
  patches_size = length-flat_map on_level t.levels ∙ levels_size t.levels

  pub patch_at : (level material patch : ℕ) → Contains t.levels level → Contains t.materials material → patch < length (patches_of p level)
      → slice_get (on_patches p place t) (parts_before p t level material + patch) ≡ Some (OnPatch place level material patch)
  patch_at level material patch level_there material_there patch_there =
      let l = before_at t.levels level level_there in
      let m = before_at t.materials material material_there in
      let count = length (patches_of p level) in
      let on_patch : slice_get (on_material level material) patch ≡ Some (OnPatch place level material patch) =
      slice_get-map (OnPatch place level material) (patches_of p level) patch
      ∙ ap (option_map (OnPatch place level material)) (counted-at (option_map_or (λ l. length l.patches) (slice_get p.levels level) 0) patch
      (omega (arith, patch_there, length-counted 0 (option_map_or (λ l. length l.patches) (slice_get p.levels level) 0)))) in
      let in_level = get-joined (on_material level) t.materials (before material t.materials) patch material (OnPatch place level material patch) m on_patch in
      let lower = materials_size level (before material t.materials) (let w = slice_get_within t.materials (before material t.materials) material m in omega arith) in
      let in_task = get-joined on_level t.levels (before level t.levels) (sum_by (λ n. length (on_material level n)) (take (before material t.materials) t.materials) + patch) level
      (OnPatch place level material patch) l in_level in
      ap (slice_get (on_patches p place t)) (
      let e : parts_before p t level material + patch ≡ sum_by (λ k. length (on_level k)) (take (before level t.levels) t.levels)
      + (sum_by (λ n. length (on_material level n)) (take (before material t.materials) t.materials) + patch) =
      omega (arith, lower, levels_size (take (before level t.levels) t.levels)) in e)
      ∙ in_task

  -- the slots that they write
  pub each_size : All (λ d. length (written_by tasks d) ≡ length t.writes) (on_patches p place t)
  each_size = all-flat_map (λ d. length (written_by tasks d) ≡ length t.writes) on_level t.levels (λ i l on.
      all-flat_map (λ d. length (written_by tasks d) ≡ length t.writes) (on_material (get_or t.levels i l)) t.materials (λ j m under.
      All-map (λ d. length (written_by tasks d) ≡ length t.writes) (OnPatch place (get_or t.levels i l) (get_or t.materials j m)) (patches_of p (get_or t.levels i l)) (λ k patch at.
      written_size (get_or t.levels i l) (get_or t.materials j m) (get_or (patches_of p (get_or t.levels i l)) k patch))))

  abbrev patch_slots : List Slot
  patch_slots = flat_map (written_by tasks) (on_patches p place t)

  patch_slots_size : length patch_slots ≡ part_count p t * length t.writes
  patch_slots_size =
      length-flat_map (written_by tasks) (on_patches p place t)
      ∙ ap (sum_by (λ d. length (written_by tasks d))) (sym (take_all (part_count p t) (on_patches p place t) (omega (arith, patches_size))))
      ∙ sum-equal (λ d. length (written_by tasks d)) (length t.writes) (on_patches p place t) each_size (part_count p t) (omega (arith, patches_size))

  -- what the detailed task of this number writes on its patch
  pub part_slot_at : (part line : ℕ) (d : Detail) (s : Slot) → slice_get (on_patches p place t) part ≡ Some d → slice_get (written_by tasks d) line ≡ Some s
      → slice_get patch_slots (part * length t.writes + line) ≡ Some s
  part_slot_at part line d s at there =
      let before_it = sum-equal (λ e. length (written_by tasks e)) (length t.writes) (on_patches p place t) each_size part (let w = slice_get_within (on_patches p place t) part d at in omega arith) in
      ap (slice_get patch_slots) (let e : part * length t.writes + line ≡ sum_by (λ e. length (written_by tasks e)) (take part (on_patches p place t)) + line = omega (arith, before_it) in e)
      ∙ get-joined (written_by tasks) (on_patches p place t) part line d s at there

  -- the numbers of the lines that reduce
  abbrev reduces_at : ℕ → Bool
  reduces_at line = line_is t.writes (λ w. is_reduces w.kind) line

  abbrev number_slots : List Slot
  number_slots = flat_map (written_by tasks) (combining place t)

  numbers_are : number_slots ≡ map (Number place) (filter reduces_at (counted 0 (length t.writes)))
  numbers_are =
      flat_map-map (written_by tasks) (Combining place) (filter reduces_at (counted 0 (length t.writes)))
      ∙ flat_map_single (Number place) (filter reduces_at (counted 0 (length t.writes)))

  -- how many of the first lines reduce
  reducing_before : (n : ℕ) → n ≤ length t.writes → count_by reduces_at (range_with_len 0 n) ≡ reduces_count (take n t.writes)
  reducing_before n within =
      ap (λ (m : ℕ). count_by reduces_at (range_with_len 0 m)) (let e : n ≡ length (take n t.writes) = omega (arith, length-take-le n t.writes within) in e)
      ∙ count-range reduces_at (λ w. is_reduces w.kind) (take n t.writes) 0 (λ k w at.
      let whole = from_take t.writes n k w at in
      ap (line_is t.writes (λ v. is_reduces v.kind)) (let e : 0 + k ≡ k = omega arith in e)
      ∙ ap (λ (o : Option Write). option_map_or (λ v. is_reduces v.kind) o false) whole.1)

  numbers_size : length number_slots ≡ reduces_count t.writes
  numbers_size =
      ap length numbers_are
      ∙ length-map (filter reduces_at (counted 0 (length t.writes))) (Number place)
      ∙ length-filter reduces_at (counted 0 (length t.writes))
      ∙ ap (count_by reduces_at) (same_numbers 0 (length t.writes))
      ∙ reducing_before (length t.writes) (omega arith)
      ∙ ap reduces_count (take_all (length t.writes) t.writes (omega arith))

  number_at : (line : ℕ) (w : Write) → slice_get t.writes line ≡ Some w → is_reduces w.kind ≡ true → slice_get number_slots (reduces_count (take line t.writes)) ≡ Some (Number place line)
  number_at line w at reduces =
      let below = slice_get_within t.writes line w at in
      ap (λ (xs : List Slot). slice_get xs (reduces_count (take line t.writes))) numbers_are
      ∙ slice_get-map (Number place) (filter reduces_at (counted 0 (length t.writes))) (reduces_count (take line t.writes))
      ∙ ap (option_map (Number place)) (
      ap (λ (xs : List ℕ). slice_get (filter reduces_at xs) (reduces_count (take line t.writes))) (same_numbers 0 (length t.writes))
      ∙ ap (slice_get (filter reduces_at (range_with_len 0 (length t.writes)))) (sym (reducing_before line (omega arith)))
      ∙ filter_at reduces_at (length t.writes) line below (ap (λ (o : Option Write). option_map_or (λ v. is_reduces v.kind) o false) at ∙ reduces))

  -- all that a task writes
  abbrev task_details : List Detail
  task_details = on_patches p place t ++ combining place t

  written_parts : flat_map (written_by tasks) task_details ≡ patch_slots ++ number_slots
  written_parts = flat_map-append (written_by tasks) (on_patches p place t) (combining place t)

  pub task_size : length (flat_map (written_by tasks) task_details) ≡ part_count p t * length t.writes + reduces_count t.writes
  task_size = ap length written_parts ∙ length-append patch_slots number_slots ∙ omega (arith, patch_slots_size, numbers_size)

  pub part_at : (k : ℕ) (s : Slot) → slice_get patch_slots k ≡ Some s → slice_get (flat_map (written_by tasks) task_details) k ≡ Some s
  part_at k s at =
      ap (λ (xs : List Slot). slice_get xs k) written_parts ∙ get_left patch_slots number_slots k (slice_get_within patch_slots k s at) ∙ at

  combined_at : (line : ℕ) (w : Write) → slice_get t.writes line ≡ Some w → is_reduces w.kind ≡ true
      → slice_get (flat_map (written_by tasks) task_details) (part_count p t * length t.writes + reduces_count (take line t.writes)) ≡ Some (Number place line)
  combined_at line w at reduces =
      ap (λ (xs : List Slot). slice_get xs (part_count p t * length t.writes + reduces_count (take line t.writes))) written_parts
      ∙ get_right patch_slots number_slots (part_count p t * length t.writes + reduces_count (take line t.writes)) (reduces_count (take line t.writes)) (omega (arith, patch_slots_size))
      ∙ number_at line w at reduces

  on_patch_at : (level material patch line : ℕ) (w : Write) → Contains t.levels level → Contains t.materials material → patch < length (patches_of p level)
      → slice_get t.writes line ≡ Some w
      → slice_get (flat_map (written_by tasks) task_details) ((parts_before p t level material + patch) * length t.writes + line) ≡ Some (slot_written w.kind place line level material patch)
  on_patch_at level material patch line w level_there material_there patch_there at =
      part_at ((parts_before p t level material + patch) * length t.writes + line) (slot_written w.kind place line level material patch)
      (part_slot_at (parts_before p t level material + patch) line (OnPatch place level material patch) (slot_written w.kind place line level material patch)
      (patch_at level material patch level_there material_there patch_there) (written_at level material patch line w at))

  combining_size : length (combining place t) ≡ reduces_count t.writes
  combining_size = sym (length-map (filter reduces_at (counted 0 (length t.writes))) (Number place) ∙ sym (length-map (filter reduces_at (counted 0 (length t.writes))) (Combining place))) ∙ ap length (sym numbers_are) ∙ numbers_size

  pub each_one : All (λ d. length (written_by tasks d) ≡ 1) (combining place t)
  each_one = All-map (λ d. length (written_by tasks d) ≡ 1) (Combining place) (filter reduces_at (counted 0 (length t.writes))) (λ k line on. refl)

  -- what the combining task of this number writes
  number_slot_at : (number : ℕ) (d : Detail) (s : Slot) → slice_get (combining place t) number ≡ Some d → slice_get (written_by tasks d) 0 ≡ Some s
      → slice_get (flat_map (written_by tasks) task_details) (part_count p t * length t.writes + number) ≡ Some s
  number_slot_at number d s at there =
      let before_it = sum-equal (λ e. length (written_by tasks e)) 1 (combining place t) each_one number (let w = slice_get_within (combining place t) number d at in omega arith) in
      ap (λ (xs : List Slot). slice_get xs (part_count p t * length t.writes + number)) written_parts
      ∙ get_right patch_slots number_slots (part_count p t * length t.writes + number) (sum_by (λ e. length (written_by tasks e)) (take number (combining place t)) + 0) (omega (arith, patch_slots_size, before_it))
      ∙ get-joined (written_by tasks) (combining place t) number 0 d s at there

-- ---- the slots of a list

module _ (p : Problem) (tasks : List Task) where
  abbrev pub details_at : ℕ → List Detail
  details_at place = option_map_or (λ t. on_patches p place t ++ combining place t) (slice_get tasks place) []

  abbrev slots_at : ℕ → List Slot
  slots_at place = flat_map (written_by tasks) (details_at place)

  -- how many old slots there are
  abbrev pub old_count : ℕ
  old_count = length (filter (is_read p tasks) (old_variables p ++ old_numbers p))

  -- where the slots of the task at a place begin
  abbrev pub begins : ℕ → ℕ
  begins place = old_count + sum_by (λ q. length (slots_at q)) (counted 0 place)

  slots_are : slots_of p tasks ≡ filter (is_read p tasks) (old_variables p ++ old_numbers p) ++ flat_map slots_at (counted 0 (length tasks))
  slots_are = ap (λ (xs : List Slot). filter (is_read p tasks) (old_variables p ++ old_numbers p) ++ xs) (flat_map-flat_map (written_by tasks) details_at (counted 0 (length tasks)))

  pub task_slot_at : (place k : ℕ) (s : Slot) → place < length tasks → slice_get (slots_at place) k ≡ Some s → StandsAt p tasks (begins place + k) s
  task_slot_at place k s there at =
      let earlier : sum_by (λ q. length (slots_at q)) (take place (counted 0 (length tasks))) ≡ sum_by (λ q. length (slots_at q)) (counted 0 place) =
      ap (sum_by (λ q. length (slots_at q))) (take-counted place (length tasks) (omega arith)) in
      ap (λ (xs : List Slot). slice_get xs (begins place + k)) slots_are
      ∙ get_right (filter (is_read p tasks) (old_variables p ++ old_numbers p)) (flat_map slots_at (counted 0 (length tasks))) (begins place + k)
      (sum_by (λ q. length (slots_at q)) (take place (counted 0 (length tasks))) + k) (omega (arith, earlier))
      ∙ get-joined slots_at (counted 0 (length tasks)) place k place s (counted-at (length tasks) place there) at

  begins-more : (place : ℕ) → begins (place + 1) ≡ begins place + length (slots_at place)
  begins-more place =
      let more : sum_by (λ q. length (slots_at q)) (counted 0 (place + 1)) ≡ sum_by (λ q. length (slots_at q)) (counted 0 place) + length (slots_at place) =
      ap (sum_by (λ q. length (slots_at q))) (counted_more place) ∙ sum_by_push (λ q. length (slots_at q)) (counted 0 place) place in
      omega (arith, more)

  -- no task's slots end behind the last slot
  begins-within : (place : ℕ) → place ≤ length tasks → begins place ≤ length (slots_of p tasks)
  begins-within place within =
      let all : length (slots_of p tasks) ≡ old_count + length (flat_map slots_at (counted 0 (length tasks))) =
      ap length slots_are ∙ length-append (filter (is_read p tasks) (old_variables p ++ old_numbers p)) (flat_map slots_at (counted 0 (length tasks))) in
      let few = sum_by-take-le (λ q. length (slots_at q)) (counted 0 (length tasks)) place in
      let front : sum_by (λ q. length (slots_at q)) (take place (counted 0 (length tasks))) ≡ sum_by (λ q. length (slots_at q)) (counted 0 place) =
      ap (sum_by (λ q. length (slots_at q))) (take-counted place (length tasks) within) in
      omega (arith, all, few, front, length-flat_map slots_at (counted 0 (length tasks)))

  module _ (place : ℕ) (t : Task) (stands : slice_get tasks place ≡ Some t) where
    slots_here : slots_at place ≡ flat_map (written_by tasks) (on_patches p place t ++ combining place t)
    slots_here = ap (λ (o : Option Task). flat_map (written_by tasks) (option_map_or (λ u. on_patches p place u ++ combining place u) o [])) stands

    pub next_begins : begins (place + 1) ≡ begins place + (part_count p t * length t.writes + reduces_count t.writes)
    next_begins = begins-more place ∙ ap (λ (n : ℕ). begins place + n) (ap length slots_here ∙ task_size p tasks place t stands)

    pub ends_within : length (slots_of p tasks) ≤ 262144 → begins place + (part_count p t * length t.writes + reduces_count t.writes) ≤ 262144
    ends_within few =
        let below = slice_get_within tasks place t stands in
        let within = begins-within (place + 1) (omega (arith, below)) in
        omega (arith, next_begins, within)

    stands_behind : (k : ℕ) (s : Slot) → slice_get (flat_map (written_by tasks) (on_patches p place t ++ combining place t)) k ≡ Some s → StandsAt p tasks (begins place + k) s
    stands_behind k s at = task_slot_at place k s (slice_get_within tasks place t stands) (ap (λ (xs : List Slot). slice_get xs k) slots_here ∙ at)

    -- the layout that begins there is the task's
    pub laid_out : length (slots_of p tasks) ≤ 262144 → (layout : Layout) → layout.first ≡ begins place → layout.parts ≡ part_count p t → layout.lines ≡ length t.writes
        → layout.numbers ≡ reduces_count t.writes → IsLaidOut p tasks place t layout
    laid_out few layout first parts lines numbers = record {
      parts = parts;
      lines = lines;
      numbers = numbers;
      few = rw (first, parts, lines, numbers) (ends_within few);
      on_patch = λ level material patch line w level_there material_there patch_there at.
          rw (first, lines) (stands_behind ((parts_before p t level material + patch) * length t.writes + line) (slot_written w.kind place line level material patch)
          (on_patch_at p tasks place t stands level material patch line w level_there material_there patch_there at));
      combined = λ line w at reduces.
          rw (first, parts, lines) (stands_behind (part_count p t * length t.writes + reduces_count (take line t.writes)) (Number place line) (combined_at p tasks place t stands line w at reduces));
      part_count = patches_size p tasks place t stands ∙ sym parts;
      part = λ part line d s at there.
          rw (first, lines) (stands_behind (part * length t.writes + line) s (part_at p tasks place t stands (part * length t.writes + line) s (part_slot_at p tasks place t stands part line d s at there)));
      number_count = combining_size p tasks place t stands ∙ sym numbers;
      number = λ number d s at there. rw (first, parts, lines) (stands_behind (part_count p t * length t.writes + number) s (number_slot_at p tasks place t stands number d s at there));
    }

-- ---- layouts of the first tasks

pub record AreLaidBefore (p : Problem) (tasks : List Task) (n first : ℕ) (layouts : List Layout) : Type 0 where
  pub first_is : first ≡ begins p tasks n
  pub count : length layouts ≡ n
  pub each : (place : ℕ) (t : Task) (layout : Layout) → slice_get tasks place ≡ Some t → slice_get layouts place ≡ Some layout → IsLaidOut p tasks place t layout

pub laid_none : (p : Problem) (tasks : List Task) (old : ℕ) → old ≡ old_count p tasks → AreLaidBefore p tasks 0 old []
laid_none p tasks old is = record { first_is = omega (arith, is); count = refl; each = λ place t layout stands at. absurd cc }

pub laid_more : (p : Problem) (tasks : List Task) (n first next : ℕ) (layouts more : List Layout) (t : Task) (layout : Layout) → slice_get tasks n ≡ Some t
    → AreLaidBefore p tasks n first layouts → IsLaidOut p tasks n t layout → more ≡ layouts ++ layout ∷ []
    → next ≡ first + (part_count p t * length t.writes + reduces_count t.writes) → AreLaidBefore p tasks (n + 1) next more
laid_more p tasks n first next layouts more t layout stands laid new grows ends = record {
  first_is = ends ∙ ap (λ (m : ℕ). m + (part_count p t * length t.writes + reduces_count t.writes)) laid.first_is ∙ sym (next_begins p tasks n t stands);
  count = ap length grows ∙ length-append layouts (layout ∷ []) ∙ omega (arith, laid.count);
  each = λ place u other there at. by_place place u other there (ap (λ (xs : List Layout). slice_get xs place) (sym grows) ∙ at) (cases_lt place n);
}
  where
    by_place : (place : ℕ) (u : Task) (other : Layout) → slice_get tasks place ≡ Some u → slice_get (layouts ++ layout ∷ []) place ≡ Some other → (place < n) ⊎ (n ≤ place)
        → IsLaidOut p tasks place u other
    by_place place u other there at (inl less) =
        laid.each place u other there (sym (get_left layouts (layout ∷ []) place (omega (arith, laid.count))) ∙ at)
    by_place place u other there at (inr past) =
        let below : place < n + 1 = omega (arith, slice_get_within (layouts ++ layout ∷ []) place other at, length-append layouts (layout ∷ []), laid.count) in
        let here : place ≡ n = omega (arith, below) in
        let same_task : u ≡ t = same_Some u t (sym there ∙ ap (slice_get tasks) here ∙ stands) in
        let same_layout : other ≡ layout = same_Some other layout (sym at ∙ get_right layouts (layout ∷ []) place 0 (omega (arith, here, laid.count))) in
        subst (λ (k : ℕ). IsLaidOut p tasks k u other) (sym here) (subst (λ (v : Task). IsLaidOut p tasks n v other) (sym same_task) (subst (λ (l : Layout). IsLaidOut p tasks n t l) (sym same_layout) new))

-- ---- how many levels and materials a task has

few_numbers : (n most : ℕ) (numbers : List ℕ) → IsNumberList numbers → All (λ m. m < n) numbers → n ≤ most → length numbers ≤ most
few_numbers n most numbers form below within =
    let fit = length-le_from_below n numbers (sorted_from_strictly_increasing numbers form.ascending) below in omega (arith, fit)

pub few_levels : (p : Problem) (t : Task) → IsBounded p → IsBoundedTask p t → IsTaskInForm (length p.names) t → length t.levels ≤ 4
few_levels p t limits bounded form = few_numbers (length p.levels) 4 t.levels form.levels bounded.levels limits.few_levels

pub few_materials : (p : Problem) (t : Task) → IsBounded p → IsBoundedTask p t → IsTaskInForm (length p.names) t → length t.materials ≤ 8
few_materials p t limits bounded form = few_numbers p.materials.value 8 t.materials form.materials bounded.materials limits.materials

-- what is before a number are at most all numbers
pub before_within : (n : ℕ) (numbers : List ℕ) → before n numbers ≤ length numbers
before_within n numbers = elim (cases_Bool (ltb first (length numbers))) [
  | inl less ↦ omega (arith, ap (λ (b : Bool). unwrap_or (cond b (Some first) None) 0) less, ltb-true first (length numbers) less)
  | inr past ↦ omega (arith, ap (λ (b : Bool). unwrap_or (cond b (Some first) None) 0) past)
]
  where
    first : ℕ
    first = position_or_len (λ m. m == n) numbers

-- so are the detailed tasks before those of a level and a material few
pub few_parts : (p : Problem) (t : Task) (level material levels count : ℕ) → length t.materials ≤ 8 → levels ≤ 4096 → count ≤ 1024
    → length t.materials * levels + before material t.materials * count ≤ 65536
few_parts p t level material levels count few few_levels few_count =
    let on_levels : length t.materials * levels ≤ 8 * 4096 = le_trans (mul-le-mul_left (length t.materials) few_levels) (mul-le-mul_right 4096 few) in
    let lower : before material t.materials * count ≤ 8 * 1024 =
    le_trans (mul-le-mul_left (before material t.materials) few_count) (mul-le-mul_right 1024 (let b : before material t.materials ≤ 8 = omega (arith, before_within material t.materials) in b)) in
    omega (arith, on_levels, lower)
