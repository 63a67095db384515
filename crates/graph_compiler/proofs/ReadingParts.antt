-- What a detailed task reads that combines the parts of a line.
use Rattle.std.proofs.Common.{◌≡◌, ◌∙◌, ◌<◌, ◌+◌, ◌*◌, ℕ, List, [], ◌∷◌, Bool, true, Some, length, map, get_or, ap, sym, refl, arith, subst}
use Rattle.std.specs.Prelude.{slice_get, All, Contains, ◌==◌, ◌&&◌}
use Rattle.std.specs.List.{flat_map}
use Rattle.std.specs.List.Sorted.{IsStrictlyIncreasing}
use Rattle.std.proofs.lemmas.Bool.{and_parts, eq-eqb, eqb-true}
use Rattle.std.proofs.lemmas.List.{length-map}
use Rattle.std.proofs.lemmas.List.Elements.{All-from_get_or, All-map, All-tail, filter_passes}
use Rattle.std.proofs.lemmas.Option.{same_Some, slice_get_within}
use Rattle.uts_geom.specs.Spans.{counted}
use Rattle.uts_geom.specs.Counting.{length-counted}
use Rattle.uts_geom.specs.Lists.{all_at, of_option, placed}
use Rattle.problem_types.specs.Form.{IsProblemInForm}
use Rattle.problem_types.specs.Lists.{is_reduces, task_list}
use Rattle.problem_types.specs.declared.problem.Problem.{Problem}
use Rattle.problem_types.specs.declared.problem.Task.{Task}
use Rattle.problem_types.specs.declared.problem.Write.{Write}
use Rattle.problem_types.specs.declared.problem.WriteKind.{WriteKind}
use Rattle.problem_types.specs.declared.problem.WriteKind.TheVariants as write
use Rattle.task_check.specs.First.{IsAccepted}
use Rattle.task_check.specs.Plan.{Detail, OnPatch, Combining, Slot, Old, OldNumber, New, Part, Number, combining, is_part_of, line_is, on_patches, patches_of, reads, slot_written, slots_of, written_by}
use Rattle.graph_types.specs.Graph.{has}
use Rattle.graph_types.specs.Counting.{has_at, has_from}
use Rattle.graph_compiler.specs.Layouts.{IsLaidOut, parts_before}
use Rattle.graph_compiler.specs.Places.{StandsAt}
use Rattle.graph_compiler.specs.Reading.{part_slots, places_read, reducing_lines}
use Rattle.graph_compiler.specs.declared.layout.Layout.{Layout}
use Rattle.graph_compiler.proofs.Ascending.{are_places}
use Rattle.graph_compiler.proofs.Laying.{patch_at, written_at}
use Rattle.graph_compiler.proofs.Searching.{at_number}
use Rattle.graph_compiler.proofs.Standing.{slot_is_of_list, slots_stand_once}
use Rattle.graph_compiler.proofs.ValidOrders.{all-flat_map}
use Rattle.graph_compiler.proofs.Writing.{same_answers}

-- a detailed task of the task on a patch
pub record IsOn (task : ℕ) (d : Detail) : Type 0 where
  pub level : ℕ
  pub material : ℕ
  pub patch : ℕ
  pub is : d ≡ OnPatch task level material patch

on_each : (p : Problem) (task : ℕ) (t : Task) → All (IsOn task) (on_patches p task t)
on_each p task t = all-flat_map (IsOn task) (λ level. flat_map (λ material. map (OnPatch task level material) (patches_of p level)) t.materials) t.levels (λ i l on.
    all-flat_map (IsOn task) (λ material. map (OnPatch task (get_or t.levels i l) material) (patches_of p (get_or t.levels i l))) t.materials (λ j m under.
    All-map (IsOn task) (OnPatch task (get_or t.levels i l) (get_or t.materials j m)) (patches_of p (get_or t.levels i l)) (λ k q at.
    record { level = get_or t.levels i l; material = get_or t.materials j m; patch = get_or (patches_of p (get_or t.levels i l)) k q; is = refl })))

-- the slot of a line that reduces is a part
part_written : (k : WriteKind) (task line level material patch : ℕ) → is_reduces k ≡ true → slot_written k task line level material patch ≡ Part task line level material patch
part_written write.Computes task line level material patch reduces = absurd cc
part_written write.Modifies task line level material patch reduces = absurd cc
part_written (write.Reduces c) task line level material patch reduces = refl

module _ (p : Problem) (form : IsProblemInForm p) (accepted : IsAccepted p) (list : ℕ) (of_two : list < 2) (task : ℕ) (t : Task) (stands : slice_get (task_list p list) task ≡ Some t)
    (layout : Layout) (laid : IsLaidOut p (task_list p list) task t layout) (line : ℕ) (w : Write) (at_line : slice_get t.writes line ≡ Some w) (reduces : is_reduces w.kind ≡ true) where
  abbrev tasks : List Task
  tasks = task_list p list

  abbrev slot : ℕ → ℕ
  slot part = layout.first + (part * layout.lines + line)

  some_line : line < layout.lines
  some_line = omega (arith, slice_get_within t.writes line w at_line, laid.lines)

  -- each part stands where it is said
  stands_there : (part : ℕ) → part < layout.parts → (level : ℕ) × (material : ℕ) × (patch : ℕ) × StandsAt p tasks (slot part) (Part task line level material patch)
  stands_there part below =
      let d = placed (on_patches p task t) part (omega (arith, below, laid.part_count)) in
      let on = all_at (IsOn task) (on_patches p task t) part d.0 d.1 (on_each p task t) in
      let written : slice_get (written_by tasks d.0) line ≡ Some (Part task line on.level on.material on.patch) =
      ap (λ (e : Detail). slice_get (written_by tasks e) line) on.is
      ∙ written_at p tasks task t stands on.level on.material on.patch line w at_line
      ∙ ap Some (part_written w.kind task line on.level on.material on.patch reduces) in
      (on.level, on.material, on.patch, laid.part part line d.0 (Part task line on.level on.material on.patch) d.1 written)

  slots_at : (k : ℕ) → k < layout.parts → get_or (part_slots layout line) k 0 ≡ slot k
  slots_at k below = at_number slot layout.parts k 0 below

  size : length (part_slots layout line) ≡ layout.parts
  size = length-map (counted 0 layout.parts) slot ∙ length-counted 0 layout.parts

  ascends : IsStrictlyIncreasing (part_slots layout line)
  ascends = λ k below.
      let next : k + 1 < layout.parts = omega (arith, below, size) in
      omega (arith, slots_at k (omega (arith, next)), slots_at (k + 1) next, some_line)

  within : All (λ place. place < length (slots_of p tasks)) (part_slots layout line)
  within = All-from_get_or (λ place. place < length (slots_of p tasks)) (part_slots layout line) 0 (λ k below.
      let short : k < layout.parts = omega (arith, below, size) in
      let there = stands_there k short in
      omega (arith, slots_at k short, slice_get_within (slots_of p tasks) (slot k) (Part task line there.0 there.1 there.2) there.3))

  is_part : (x : Slot) (level material patch : ℕ) → x ≡ Part task line level material patch → is_part_of task line x ≡ true
  is_part x level material patch is = ap (is_part_of task line) is ∙ ap (λ (b : Bool). b && (line == line)) (eq-eqb task task refl) ∙ eq-eqb line line refl

  listed : (place : ℕ) (x : Slot) → StandsAt p tasks place x → has (part_slots layout line) place ≡ true → is_part_of task line x ≡ true
  listed place x at there =
      let found = has_at (part_slots layout line) place there in
      let short : found.0 < layout.parts = omega (arith, found.1, size) in
      let here : place ≡ slot found.0 = sym (sym (at_number slot layout.parts found.0 place short) ∙ found.2) in
      let part = stands_there found.0 short in
      let same : x ≡ Part task line part.0 part.1 part.2 = same_Some x (Part task line part.0 part.1 part.2) (sym at ∙ ap (slice_get (slots_of p tasks)) here ∙ part.3) in
      is_part x part.0 part.1 part.2 same

  has_part : (place : ℕ) (x : Slot) → StandsAt p tasks place x → is_part_of task line x ≡ true → has (part_slots layout line) place ≡ true
  has_part place (Old name level material patch) at is = absurd cc
  has_part place (OldNumber name) at is = absurd cc
  has_part place (New writer other level material patch) at is = absurd cc
  has_part place (Number writer other) at is = absurd cc
  has_part place (Part writer other level material patch) at is =
      let two = and_parts (writer == task) (other == line) is in
      let same_task : writer ≡ task = eqb-true writer task two.0 in
      let same_line : other ≡ line = eqb-true other line two.1 in
      let here : StandsAt p tasks place (Part task line level material patch) =
      at ∙ ap (λ (n : ℕ). Some (Part n other level material patch)) same_task ∙ ap (λ (n : ℕ). Some (Part task n level material patch)) same_line in
      let on = slot_is_of_list p tasks place (Part task line level material patch) here in
      let same_t : on.t ≡ t = same_Some on.t t (sym on.task_at ∙ stands) in
      let level_there = subst (λ (u : Task). Contains u.levels level) same_t on.of_levels in
      let material_there = subst (λ (u : Task). Contains u.materials material) same_t on.of_materials in
      let part = parts_before p t level material + patch in
      let stands_at : StandsAt p tasks (slot part) (Part task line level material patch) =
      laid.on_patch level material patch line w level_there material_there on.of_patches at_line ∙ ap Some (part_written w.kind task line level material patch reduces) in
      let same_place : place ≡ slot part = slots_stand_once p form accepted list of_two place (slot part) (Part task line level material patch) here stands_at in
      let below : part < layout.parts = omega (
        arith,
        laid.part_count,
        slice_get_within (on_patches p task t) part (OnPatch task level material patch) (patch_at p tasks task t stands level material patch level_there material_there on.of_patches),
      ) in
      has_from (part_slots layout line) part place (omega (arith, below, size)) (slots_at part below ∙ sym same_place)

  pub parts_are : part_slots layout line ≡ places_read p tasks (Combining task line)
  parts_are = are_places (reads p tasks (Combining task line)) (slots_of p tasks) (part_slots layout line) ascends within
      (λ place x at. same_answers (has (part_slots layout line) place) (is_part_of task line x) (listed place x at) (has_part place x at))

-- two lists made of one are the same where they agree on each item
map-same-all : {X A : Type 0} (f g : X → A) (xs : List X) → All (λ x. f x ≡ g x) xs → map f xs ≡ map g xs
map-same-all f g [] same = refl
map-same-all {X} {A} f g (x ∷ xs) same =
    ap (λ (y : A). y ∷ map f xs) (same 0 x (omega arith)) ∙ ap (λ (ys : List A). g x ∷ ys) (map-same-all f g xs (All-tail (λ y. f y ≡ g y) x xs same))

map-map : {X Y A : Type 0} (f : Y → A) (g : X → Y) (xs : List X) → map f (map g xs) ≡ map (λ x. f (g x)) xs
map-map f g [] = refl
map-map {X} {Y} {A} f g (x ∷ xs) = ap (λ (ys : List A). f (g x) ∷ ys) (map-map f g xs)

-- what the combining detailed tasks of a task read
pub lines_are : (p : Problem) (form : IsProblemInForm p) (accepted : IsAccepted p) (tasks : List Task) → (list : ℕ) × (list < 2) × (tasks ≡ task_list p list) → (task : ℕ) (t : Task)
    → slice_get tasks task ≡ Some t → (layout : Layout) → IsLaidOut p tasks task t layout → map (part_slots layout) (reducing_lines t) ≡ map (places_read p tasks) (combining task t)
lines_are p form accepted tasks of_list task t stands layout laid =
    map-same-all (part_slots layout) (λ line. places_read p tasks (Combining task line)) (reducing_lines t) each
    ∙ sym (map-map (places_read p tasks) (Combining task) (reducing_lines t))
  where
    list : ℕ
    list = of_list.0

    is : tasks ≡ task_list p list
    is = of_list.2

    at_one : (line : ℕ) → line_is t.writes (λ w. is_reduces w.kind) line ≡ true → part_slots layout line ≡ places_read p tasks (Combining task line)
    at_one line passes =
        let w = of_option (λ (v : Write). is_reduces v.kind) (slice_get t.writes line) passes in
        parts_are p form accepted list of_list.1 task t (ap (λ (ts : List Task). slice_get ts task) (sym is) ∙ stands) layout (subst (λ (ts : List Task). IsLaidOut p ts task t layout) is laid) line w.0 w.1 w.2
        ∙ ap (λ (ts : List Task). places_read p ts (Combining task line)) (sym is)

    each : All (λ line. part_slots layout line ≡ places_read p tasks (Combining task line)) (reducing_lines t)
    each = λ k line on. at_one (get_or (reducing_lines t) k line) (filter_passes (line_is t.writes (λ w. is_reduces w.kind)) (counted 0 (length t.writes)) k line on)
