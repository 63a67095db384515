-- Which slots are the parts of a line that reduces: one for each level, material and patch of its task, in order.
use Rattle.std.proofs.Common.{◌≡◌, ◌∙◌, ◌≢◌, ℕ, List, [], ◌∷◌, ◌++◌, Bool, true, false, cond, Option, None, Some, length, map, filter, ap, refl, eqb-true}
use Rattle.std.specs.Prelude.{slice_get, All, ◌==◌, ◌&&◌}
use Rattle.std.specs.List.{flat_map}
use Rattle.std.specs.Option.{option_map_or}
use Rattle.std.proofs.lemmas.Bool.{and_from, and_parts, eq-eqb, false_from_ne_true}
use Rattle.std.proofs.lemmas.List.{append-nil}
use Rattle.std.proofs.lemmas.List.Concat.{flat_map-append, flat_map_single}
use Rattle.std.proofs.lemmas.List.Elements.{All-append, All-filter, All-map, filter-append}
use Rattle.std.proofs.lemmas.List.Folds.{flat_map-map}
use Rattle.std.proofs.lemmas.Option.{slice_get_within}
use Rattle.uts_geom.specs.Spans.{counted}
use Rattle.problem_types.specs.Lists.{is_reduces}
use Rattle.problem_types.specs.declared.problem.Problem.{Problem}
use Rattle.problem_types.specs.declared.problem.Reduction.{Reduction}
use Rattle.problem_types.specs.declared.problem.Task.{Task}
use Rattle.problem_types.specs.declared.problem.Var.{Var}
use Rattle.problem_types.specs.declared.problem.Write.{Write}
use Rattle.problem_types.specs.declared.problem.WriteKind.{WriteKind}
use Rattle.problem_types.specs.declared.problem.WriteKind.TheVariants as write
use Rattle.task_check.specs.Plan.{Detail, OnPatch, Combining, Slot, Old, OldNumber, Part, combining, details_of, is_part_of, is_read, line_is, old_numbers, old_variables, on_patches, patches_of, slot_written, slots_of, written_by}
use Rattle.slot_contents.proofs.Joined.{All-flat_map, filter-flat_map, filter_nil, flat_map-flat_map, flat_map_nil, flat_map_one, flat_map_same}

-- the parts of a line of a task, by level, material and patch
abbrev pub parts_of : Problem → (task line : ℕ) → Task → List Slot
parts_of p task line t = flat_map (λ level. flat_map (λ material. map (Part task line level material) (patches_of p level)) t.materials) t.levels

-- a line that reduces writes such slots
reduction_slot : (k : WriteKind) (task line level material patch : ℕ) → is_reduces k ≡ true → slot_written k task line level material patch ≡ Part task line level material patch
reduction_slot write.Computes task line level material patch is = absurd cc
reduction_slot write.Modifies task line level material patch is = absurd cc
reduction_slot (write.Reduces c) task line level material patch is = refl

module _ (p : Problem) (tasks : List Task) (task line : ℕ) where
  -- ---- slots for the step before

  abbrev is_part : Slot → Bool
  is_part s = is_part_of task line s

  abbrev IsNone : Slot → Type 0
  IsNone s = is_part s ≡ false

  abbrev old_slots : List Slot
  old_slots = filter (is_read p tasks) (old_variables p ++ old_numbers p)

  old_variables_none : All IsNone (old_variables p)
  old_variables_none =
      All-flat_map IsNone (λ (v : Var). flat_map (λ level. flat_map (λ material. map (Old v.name level material) (patches_of p level)) (counted 0 p.materials.value)) (counted 0 (length p.levels))) p.vars
      (λ v. All-flat_map IsNone (λ level. flat_map (λ material. map (Old v.name level material) (patches_of p level)) (counted 0 p.materials.value)) (counted 0 (length p.levels))
      (λ level. All-flat_map IsNone (λ material. map (Old v.name level material) (patches_of p level)) (counted 0 p.materials.value)
      (λ material. All-map IsNone (Old v.name level material) (patches_of p level) (λ k d below. refl))))

  old_numbers_none : All IsNone (old_numbers p)
  old_numbers_none = All-map IsNone (λ (q : Reduction). OldNumber q.name) p.reductions (λ k d below. refl)

  old_slots_none : filter is_part old_slots ≡ []
  old_slots_none = filter_nil is_part old_slots (All-filter (is_read p tasks) IsNone (old_variables p ++ old_numbers p)
      (All-append IsNone (old_variables p) (old_numbers p) old_variables_none old_numbers_none))

  -- ---- what a detailed task writes

  abbrev kept : Detail → List Slot
  kept d = filter is_part (written_by tasks d)

  slots_kept : filter is_part (slots_of p tasks) ≡ flat_map kept (details_of p tasks)
  slots_kept =
      filter-append is_part old_slots (flat_map (written_by tasks) (details_of p tasks))
      ∙ (ap (λ (a : List Slot). a ++ filter is_part (flat_map (written_by tasks) (details_of p tasks))) old_slots_none
      ∙ filter-flat_map is_part (written_by tasks) (details_of p tasks))

  module _ (place level material patch : ℕ) where
    abbrev slots_in : ℕ → Task → List Slot
    slots_in l t = option_map_or (λ w. slot_written w.kind place l level material patch ∷ []) (slice_get t.writes l) []

    abbrev slots_at : ℕ → List Slot
    slots_at l = option_map_or (slots_in l) (slice_get tasks place) []

    abbrev line_count : ℕ
    line_count = option_map_or (λ t. length t.writes) (slice_get tasks place) 0

    by_line : kept (OnPatch place level material patch) ≡ flat_map (λ l. filter is_part (slots_at l)) (counted 0 line_count)
    by_line = filter-flat_map is_part slots_at (counted 0 line_count)

    -- a line that is another one
    no_part : (l : ℕ) → ((place == task) && (l == line)) ≡ false → filter is_part (slots_at l) ≡ []
    no_part l other = by_task (slice_get tasks place)
      where
        by_kind : (k : WriteKind) → filter is_part (slot_written k place l level material patch ∷ []) ≡ []
        by_kind write.Computes = refl
        by_kind write.Modifies = refl
        by_kind (write.Reduces c) = ap (λ (b : Bool). cond b (Part place l level material patch ∷ []) []) other

        by_write : (o : Option Write) → filter is_part (option_map_or (λ w. slot_written w.kind place l level material patch ∷ []) o []) ≡ []
        by_write None = refl
        by_write (Some w) = by_kind w.kind

        by_task : (o : Option Task) → filter is_part (option_map_or (slots_in l) o []) ≡ []
        by_task None = refl
        by_task (Some t) = by_write (slice_get t.writes l)

    other_task : place ≢ task → kept (OnPatch place level material patch) ≡ []
    other_task other = by_line ∙ flat_map_nil (λ l. filter is_part (slots_at l)) (λ l. no_part l (false_from_ne_true ((place == task) && (l == line)) (λ same.
        other (eqb-true place task (and_parts (place == task) (l == line) same).0)))) (counted 0 line_count)

  -- ---- the detailed tasks of a task

  abbrev details_at : ℕ → List Detail
  details_at place = option_map_or (λ t. on_patches p place t ++ combining place t) (slice_get tasks place) []

  module _ (place : ℕ) (t : Task) where
    abbrev on_patches_kept : List Slot
    on_patches_kept = flat_map (λ level. flat_map (λ material. flat_map (λ patch. kept (OnPatch place level material patch)) (patches_of p level)) t.materials) t.levels

    abbrev reducing_lines : List ℕ
    reducing_lines = filter (line_is t.writes (λ w. is_reduces w.kind)) (counted 0 (length t.writes))

    combining_kept : flat_map kept (combining place t) ≡ []
    combining_kept = flat_map-map kept (Combining place) reducing_lines ∙ flat_map_nil (λ l. kept (Combining place l)) (λ l. refl) reducing_lines

    patches_kept : flat_map kept (on_patches p place t) ≡ on_patches_kept
    patches_kept =
        flat_map-flat_map kept (λ level. flat_map (λ material. map (OnPatch place level material) (patches_of p level)) t.materials) t.levels
        ∙ flat_map_same (λ level. flat_map kept (flat_map (λ material. map (OnPatch place level material) (patches_of p level)) t.materials))
        (λ level. flat_map (λ material. flat_map (λ patch. kept (OnPatch place level material patch)) (patches_of p level)) t.materials) (λ level.
        flat_map-flat_map kept (λ material. map (OnPatch place level material) (patches_of p level)) t.materials
        ∙ flat_map_same (λ material. flat_map kept (map (OnPatch place level material) (patches_of p level)))
        (λ material. flat_map (λ patch. kept (OnPatch place level material patch)) (patches_of p level)) (λ material.
        flat_map-map kept (OnPatch place level material) (patches_of p level)) t.materials) t.levels

    details_kept : flat_map kept (on_patches p place t ++ combining place t) ≡ on_patches_kept
    details_kept =
        flat_map-append kept (on_patches p place t) (combining place t)
        ∙ (ap (λ (a : List Slot). flat_map kept (on_patches p place t) ++ a) combining_kept ∙ (append-nil (flat_map kept (on_patches p place t)) ∙ patches_kept))

  other_place : (place : ℕ) → place ≢ task → flat_map kept (details_at place) ≡ []
  other_place place other = by_task (slice_get tasks place)
    where
      by_task : (o : Option Task) → flat_map kept (option_map_or (λ t. on_patches p place t ++ combining place t) o []) ≡ []
      by_task None = refl
      by_task (Some t) =
          details_kept place t
          ∙ flat_map_nil (λ level. flat_map (λ material. flat_map (λ patch. kept (OnPatch place level material patch)) (patches_of p level)) t.materials) (λ level.
          flat_map_nil (λ material. flat_map (λ patch. kept (OnPatch place level material patch)) (patches_of p level)) (λ material.
          flat_map_nil (λ patch. kept (OnPatch place level material patch)) (λ patch. other_task place level material patch other) (patches_of p level)) t.materials) t.levels

  -- ---- the task of the line

  module _ (t : Task) (w : Write) (stands : slice_get tasks task ≡ Some t) (line_at : slice_get t.writes line ≡ Some w) (reduces : is_reduces w.kind ≡ true) where
    module _ (level material patch : ℕ) where
      the_part : filter is_part (slots_at task level material patch line) ≡ Part task line level material patch ∷ []
      the_part =
          ap (λ (o : Option Task). filter is_part (option_map_or (slots_in task level material patch line) o [])) stands
          ∙ (ap (λ (o : Option Write). filter is_part (option_map_or (λ v. slot_written v.kind task line level material patch ∷ []) o [])) line_at
          ∙ (ap (λ (s : Slot). filter is_part (s ∷ [])) (reduction_slot w.kind task line level material patch reduces)
          ∙ ap (λ (b : Bool). cond b (Part task line level material patch ∷ []) []) (and_from (task == task) (line == line) (eq-eqb task task refl) (eq-eqb line line refl))))

      this_task : kept (OnPatch task level material patch) ≡ Part task line level material patch ∷ []
      this_task =
          by_line task level material patch
          ∙ (ap (λ (o : Option Task). flat_map (λ l. filter is_part (slots_at task level material patch l)) (counted 0 (option_map_or (λ u. length u.writes) o 0))) stands
          ∙ (flat_map_one (λ l. filter is_part (slots_at task level material patch l)) line (length t.writes) (slice_get_within t.writes line w line_at) (λ l other.
          no_part task level material patch l (false_from_ne_true ((task == task) && (l == line)) (λ same. other (eqb-true l line (and_parts (task == task) (l == line) same).1))))
          ∙ the_part))

    this_place : flat_map kept (details_at task) ≡ parts_of p task line t
    this_place =
        ap (λ (o : Option Task). flat_map kept (option_map_or (λ u. on_patches p task u ++ combining task u) o [])) stands
        ∙ (details_kept task t
        ∙ flat_map_same (λ level. flat_map (λ material. flat_map (λ patch. kept (OnPatch task level material patch)) (patches_of p level)) t.materials)
        (λ level. flat_map (λ material. map (Part task line level material) (patches_of p level)) t.materials) (λ level.
        flat_map_same (λ material. flat_map (λ patch. kept (OnPatch task level material patch)) (patches_of p level))
        (λ material. map (Part task line level material) (patches_of p level)) (λ material.
        flat_map_same (λ patch. kept (OnPatch task level material patch)) (λ patch. Part task line level material patch ∷ []) (this_task level material) (patches_of p level)
        ∙ flat_map_single (Part task line level material) (patches_of p level)) t.materials) t.levels)

    pub parts_stand : filter (is_part_of task line) (slots_of p tasks) ≡ parts_of p task line t
    parts_stand =
        slots_kept
        ∙ (flat_map-flat_map kept details_at (counted 0 (length tasks))
        ∙ (flat_map_one (λ place. flat_map kept (details_at place)) task (length tasks) (slice_get_within tasks task t stands) other_place ∙ this_place))
