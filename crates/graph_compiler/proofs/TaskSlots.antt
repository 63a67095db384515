-- What the detailed tasks of a list write, task by task.
use Rattle.std.proofs.Common.{◌≡◌, ◌∙◌, ◌≤◌, ◌<◌, ◌+◌, ◌⊎◌, inl, inr, ℕ, zero, suc, List, [], ◌∷◌, ◌++◌, Bool, true, false, cond, Option, Some, None, length, map, take, filter, get_or, ap, sym, refl, arith, append-nil}
use Rattle.std.specs.Prelude.{slice_get, if◌then◌else◌}
use Rattle.std.specs.List.{count_by, flat_map}
use Rattle.std.specs.Option.{option_map_or}
use Rattle.std.proofs.lemmas.List.{map-append, take_all}
use Rattle.std.proofs.lemmas.List.Concat.{flat_map-append, flat_map_single}
use Rattle.std.proofs.lemmas.Option.{slice_get_cases}
use Rattle.uts_geom.specs.Spans.{counted}
use Rattle.problem_types.specs.Lists.{is_reduces}
use Rattle.problem_types.specs.declared.problem.Problem.{Problem}
use Rattle.problem_types.specs.declared.problem.Task.{Task}
use Rattle.problem_types.specs.declared.problem.Write.{Write}
use Rattle.problem_types.specs.declared.problem.WriteKind.{WriteKind}
use Rattle.problem_types.specs.declared.problem.WriteKind.TheVariants as write
use Rattle.task_rules.specs.Lines.{is_modifies}
use Rattle.task_check.specs.Plan.{Detail as DetailedTask, OnPatch, Combining, Slot as TaskSlot, combining, details_of, line_is, on_patches, patches_of, slot_written, written_by}
use Rattle.graph_compiler.specs.Shown.{modifies_variable, of_line, shown_slot, version_written}
use Rattle.graph_compiler.specs.Written.{kind_written, line_slot, number_slot, number_slots, on_level, patch_slots, slot_on, task_slots, version_by_kind}
use Rattle.graph_compiler.specs.declared.plan.Slot.{Slot}
use Rattle.graph_compiler.specs.declared.plan.SlotKind.TheVariants as kind
use Rattle.graph_compiler.proofs.Growing.{flat_map-next}

-- lists for each item, joined
pub flat_map-map : {X Y A : Type 0} (f : Y → List A) (g : X → Y) (xs : List X) → flat_map f (map g xs) ≡ flat_map (λ x. f (g x)) xs
flat_map-map f g [] = refl
flat_map-map f g (x ∷ xs) = ap (λ rest. f (g x) ++ rest) (flat_map-map f g xs)

pub flat_map-flat_map : {X Y A : Type 0} (g : Y → List A) (h : X → List Y) (xs : List X) → flat_map g (flat_map h xs) ≡ flat_map (λ x. flat_map g (h x)) xs
flat_map-flat_map g h [] = refl
flat_map-flat_map g h (x ∷ xs) = flat_map-append g (h x) (flat_map h xs) ∙ ap (λ rest. flat_map g (h x) ++ rest) (flat_map-flat_map g h xs)

pub map-flat_map : {X Y A : Type 0} (f : Y → A) (h : X → List Y) (xs : List X) → map f (flat_map h xs) ≡ flat_map (λ x. map f (h x)) xs
map-flat_map f h [] = refl
map-flat_map f h (x ∷ xs) = map-append f (h x) (flat_map h xs) ∙ ap (λ rest. map f (h x) ++ rest) (map-flat_map f h xs)

flat_map-same : {X A : Type 0} (f g : X → List A) → ((x : X) → f x ≡ g x) → (xs : List X) → flat_map f xs ≡ flat_map g xs
flat_map-same f g same [] = refl
flat_map-same f g same (x ∷ xs) = ap (λ first. first ++ flat_map f xs) (same x) ∙ ap (λ rest. g x ++ rest) (flat_map-same f g same xs)

flat_map-filter : {X A : Type 0} (f : X → List A) (test : X → Bool) (xs : List X) → flat_map f (filter test xs) ≡ flat_map (λ x. cond (test x) (f x) []) xs
flat_map-filter f test [] = refl
flat_map-filter {X} {A} f test (x ∷ xs) = by_test (test x) ∙ ap (λ rest. cond (test x) (f x) [] ++ rest) (flat_map-filter f test xs)
  where
    by_test : (b : Bool) → flat_map f (cond b (x ∷ filter test xs) (filter test xs)) ≡ cond b (f x) [] ++ flat_map f (filter test xs)
    by_test true = refl
    by_test false = refl

-- the items of a list by their places
at_places : {X A : Type 0} (f : X → List A) (xs : List X) (n : ℕ) → n ≤ length xs → flat_map (λ k. option_map_or f (slice_get xs k) []) (counted 0 n) ≡ flat_map f (take n xs)
at_places f xs zero below = refl
at_places {X} {A} f xs (suc n) below = by_item (slice_get_cases xs n).1 (at_places f xs n (omega arith))
  where
    each : ℕ → List A
    each k = option_map_or f (slice_get xs k) []

    by_item : ((x : X) × (n < length xs) × (slice_get xs n ≡ Some x) × (get_or xs n x ≡ x)) ⊎ ((length xs ≤ n) × (slice_get xs n ≡ None)) →
        flat_map (λ k. option_map_or f (slice_get xs k) []) (counted 0 n) ≡ flat_map f (take n xs) →
        flat_map (λ k. option_map_or f (slice_get xs k) []) (counted 0 n ++ (0 + n) ∷ []) ≡ flat_map f (take (suc n) xs)
    by_item (inl (x, less, at, same)) before =
        flat_map-append (λ k. option_map_or f (slice_get xs k) []) (counted 0 n) ((0 + n) ∷ [])
        ∙ ap (λ front. front ++ (option_map_or f (slice_get xs (0 + n)) [] ++ [])) before
        ∙ ap (λ last. flat_map f (take n xs) ++ last) (append-nil (option_map_or f (slice_get xs (0 + n)) []))
        ∙ ap (λ (k : ℕ). flat_map f (take n xs) ++ option_map_or f (slice_get xs k) []) (let e : 0 + n ≡ n = omega arith in e)
        ∙ ap (λ (o : Option X). flat_map f (take n xs) ++ option_map_or f o []) at
        ∙ sym (flat_map-next f xs n x less (sym same))
        ∙ ap (λ (k : ℕ). flat_map f (take k xs)) (let e : n + 1 ≡ suc n = omega arith in e)
    by_item (inr (past, none)) before = absurd (omega arith)

pub at_all_places : {X A : Type 0} (f : X → List A) (xs : List X) → flat_map (λ k. option_map_or f (slice_get xs k) []) (counted 0 (length xs)) ≡ flat_map f xs
at_all_places f xs = at_places f xs (length xs) (omega arith) ∙ ap (flat_map f) (take_all (length xs) xs (omega arith))

-- the task `t` at its place in the list
module _ (p : Problem) (tasks : List Task) (task : ℕ) (t : Task) (stands : slice_get tasks task ≡ Some t) where
  of_line_is : (line : ℕ) (w : Write) (number : Write → ℕ) → slice_get t.writes line ≡ Some w → of_line tasks task line number ≡ number w
  of_line_is line w number at =
      ap (λ (o : Option Task). option_map_or (λ u. option_map_or number (slice_get u.writes line) 0) o 0) stands
      ∙ ap (λ (o : Option Write). option_map_or number o 0) at

  -- what a line writes on a patch
  line_shown : (line level material patch : ℕ) (w : Write) → slice_get t.writes line ≡ Some w →
      shown_slot tasks (slot_written w.kind task line level material patch) ≡ line_slot (take task tasks) level material patch w
  line_shown line level material patch w at = by_kind w.kind refl
    where
      by_kind : (k : WriteKind) → w.kind ≡ k → shown_slot tasks (slot_written k task line level material patch)
          ≡ record { kind = kind_written k; name = w.name; material = material; level = level; patch = patch; version = version_by_kind k (count_by (modifies_variable w.name material level) (take task tasks)) }
      by_kind write.Computes is =
          let named = of_line_is line w (λ v. v.name) at in
          let versioned = of_line_is line w (version_written tasks task material level) at in
          let plain : version_written tasks task material level w ≡ count_by (modifies_variable w.name material level) (take task tasks) =
          ap (λ (k : WriteKind). count_by (modifies_variable w.name material level) (take task tasks) + (if is_modifies k then 1 else 0)) is ∙ omega arith in
          rw (named, versioned, plain) refl
      by_kind write.Modifies is =
          let named = of_line_is line w (λ v. v.name) at in
          let versioned = of_line_is line w (version_written tasks task material level) at in
          let plain : version_written tasks task material level w ≡ count_by (modifies_variable w.name material level) (take task tasks) + 1 =
          ap (λ (k : WriteKind). count_by (modifies_variable w.name material level) (take task tasks) + (if is_modifies k then 1 else 0)) is in
          rw (named, versioned, plain) refl
      by_kind (write.Reduces c) is = let named = of_line_is line w (λ v. v.name) at in rw named refl

  abbrev shown_of : DetailedTask → List Slot
  shown_of d = map (shown_slot tasks) (written_by tasks d)

  -- what a detailed task on a patch writes
  on_patch_shown : (level material patch : ℕ) → shown_of (OnPatch task level material patch) ≡ map (line_slot (take task tasks) level material patch) t.writes
  on_patch_shown level material patch =
      ap (map (shown_slot tasks)) by_task
      ∙ map-flat_map (shown_slot tasks) here (counted 0 (length t.writes))
      ∙ flat_map-same (λ line. map (shown_slot tasks) (here line)) (λ line. option_map_or (λ w. line_slot (take task tasks) level material patch w ∷ []) (slice_get t.writes line) [])
      (λ line. by_line line (slice_get t.writes line) refl) (counted 0 (length t.writes))
      ∙ at_all_places (λ w. line_slot (take task tasks) level material patch w ∷ []) t.writes
      ∙ flat_map_single (line_slot (take task tasks) level material patch) t.writes
    where
      here : ℕ → List TaskSlot
      here line = option_map_or (λ w. slot_written w.kind task line level material patch ∷ []) (slice_get t.writes line) []

      by_task : written_by tasks (OnPatch task level material patch) ≡ flat_map (λ line. option_map_or (λ w. slot_written w.kind task line level material patch ∷ []) (slice_get t.writes line) []) (counted 0 (length t.writes))
      by_task = rw stands refl

      by_line : (line : ℕ) (o : Option Write) → slice_get t.writes line ≡ o →
          map (shown_slot tasks) (option_map_or (λ w. slot_written w.kind task line level material patch ∷ []) o []) ≡ option_map_or (λ w. line_slot (take task tasks) level material patch w ∷ []) o []
      by_line line None at = refl
      by_line line (Some w) at = ap (λ (s : Slot). s ∷ []) (line_shown line level material patch w at)

  patches_shown : flat_map shown_of (on_patches p task t) ≡ patch_slots p (take task tasks) t
  patches_shown =
      flat_map-flat_map shown_of (λ level. flat_map (λ material. map (OnPatch task level material) (patches_of p level)) t.materials) t.levels
      ∙ flat_map-same (λ level. flat_map shown_of (flat_map (λ material. map (OnPatch task level material) (patches_of p level)) t.materials))
      (λ level. flat_map (on_level p (take task tasks) t.writes level) t.materials) on_a_level t.levels
    where
      for_material : (level material : ℕ) → flat_map shown_of (map (OnPatch task level material) (patches_of p level)) ≡ on_level p (take task tasks) t.writes level material
      for_material level material =
          flat_map-map shown_of (OnPatch task level material) (patches_of p level)
          ∙ flat_map-same (λ patch. shown_of (OnPatch task level material patch)) (λ patch. map (line_slot (take task tasks) level material patch) t.writes)
          (on_patch_shown level material) (patches_of p level)

      on_a_level : (level : ℕ) → flat_map shown_of (flat_map (λ material. map (OnPatch task level material) (patches_of p level)) t.materials)
          ≡ flat_map (on_level p (take task tasks) t.writes level) t.materials
      on_a_level level =
          flat_map-flat_map shown_of (λ material. map (OnPatch task level material) (patches_of p level)) t.materials
          ∙ flat_map-same (λ material. flat_map shown_of (map (OnPatch task level material) (patches_of p level))) (on_level p (take task tasks) t.writes level)
          (for_material level) t.materials

  numbers_shown : flat_map shown_of (combining task t) ≡ number_slots t.writes
  numbers_shown =
      flat_map-map shown_of (Combining task) (filter (line_is t.writes (λ w. is_reduces w.kind)) (counted 0 (length t.writes)))
      ∙ flat_map-filter (λ line. shown_of (Combining task line)) (line_is t.writes (λ w. is_reduces w.kind)) (counted 0 (length t.writes))
      ∙ flat_map-same (λ line. cond (line_is t.writes (λ w. is_reduces w.kind) line) (shown_of (Combining task line)) [])
      (λ line. option_map_or (λ w. cond (is_reduces w.kind) (number_slot w ∷ []) []) (slice_get t.writes line) [])
      (λ line. by_line line (slice_get t.writes line) refl) (counted 0 (length t.writes))
      ∙ at_all_places (λ w. cond (is_reduces w.kind) (number_slot w ∷ []) []) t.writes
    where
      by_line : (line : ℕ) (o : Option Write) → slice_get t.writes line ≡ o →
          cond (option_map_or (λ w. is_reduces w.kind) o false) (shown_of (Combining task line)) [] ≡ option_map_or (λ w. cond (is_reduces w.kind) (number_slot w ∷ []) []) o []
      by_line line None at = refl
      by_line line (Some w) at =
          ap (λ (n : ℕ). cond (is_reduces w.kind) (record { kind = kind.Number; name = n; material = 0; level = 0; patch = 0; version = 0 } ∷ []) [])
          (of_line_is line w (λ v. v.name) at)

  -- what a task writes
  pub task_shown : flat_map shown_of (on_patches p task t ++ combining task t) ≡ task_slots p (take task tasks) t
  task_shown =
      flat_map-append shown_of (on_patches p task t) (combining task t)
      ∙ ap (λ front. front ++ flat_map shown_of (combining task t)) patches_shown
      ∙ ap (λ back. patch_slots p (take task tasks) t ++ back) numbers_shown

-- what the tasks before a place write
abbrev pub slots_before : Problem → List Task → (place : ℕ) → List Slot
slots_before p tasks n = flat_map (λ place. option_map_or (task_slots p (take place tasks)) (slice_get tasks place) []) (counted 0 n)

pub all_shown : (p : Problem) (tasks : List Task) → map (shown_slot tasks) (flat_map (written_by tasks) (details_of p tasks)) ≡ slots_before p tasks (length tasks)
all_shown p tasks =
    map-flat_map (shown_slot tasks) (written_by tasks) (details_of p tasks)
    ∙ flat_map-flat_map (λ d. map (shown_slot tasks) (written_by tasks d)) (λ place. option_map_or (λ t. on_patches p place t ++ combining place t) (slice_get tasks place) [])
    (counted 0 (length tasks))
    ∙ flat_map-same (λ place. flat_map (λ d. map (shown_slot tasks) (written_by tasks d)) (option_map_or (λ t. on_patches p place t ++ combining place t) (slice_get tasks place) []))
    (λ place. option_map_or (task_slots p (take place tasks)) (slice_get tasks place) []) (λ place. by_task place (slice_get tasks place) refl) (counted 0 (length tasks))
  where
    by_task : (place : ℕ) (o : Option Task) → slice_get tasks place ≡ o →
        flat_map (λ d. map (shown_slot tasks) (written_by tasks d)) (option_map_or (λ t. on_patches p place t ++ combining place t) o [])
        ≡ option_map_or (task_slots p (take place tasks)) o []
    by_task place None at = refl
    by_task place (Some t) at = task_shown p tasks place t at

-- what a task writes on a level, from what its lines write on patch 0
pub on_level_is : (p : Problem) (earlier : List Task) (writes : List Write) (level material : ℕ) →
    flat_map (λ patch. map (slot_on patch) (map (line_slot earlier level material 0) writes)) (patches_of p level) ≡ on_level p earlier writes level material
on_level_is p earlier writes level material =
    flat_map-same (λ patch. map (slot_on patch) (map (line_slot earlier level material 0) writes))
    (λ patch. map (line_slot earlier level material patch) writes) (λ patch. on_patch patch writes) (patches_of p level)
  where
    on_patch : (patch : ℕ) (ws : List Write) → map (slot_on patch) (map (line_slot earlier level material 0) ws) ≡ map (line_slot earlier level material patch) ws
    on_patch patch [] = refl
    on_patch patch (w ∷ ws) = ap (λ rest. line_slot earlier level material patch w ∷ rest) (on_patch patch ws)
