-- Which slots stand in a list, and which of them a detailed task reads.
use Rattle.std.proofs.Common.{◌≡◌, ◌∙◌, ◌<◌, ℕ, List, [], ◌∷◌, ◌++◌, Bool, true, false, Option, Some, length, map, filter, ap, sym, refl, arith, subst}
use Rattle.std.specs.Prelude.{slice_get, Contains, ◌&&◌}
use Rattle.std.specs.List.{flat_map, list_any}
use Rattle.std.specs.Option.{option_map_or}
use Rattle.std.proofs.lemmas.Bool.{and_from, cond-false, cond-true}
use Rattle.std.proofs.lemmas.List.Elements.{Contains-append_left, Contains-append_right}
use Rattle.std.proofs.lemmas.Option.{slice_get_within}
use Rattle.uts_geom.specs.Spans.{counted}
use Rattle.uts_geom.specs.Counting.{length-counted}
use Rattle.uts_geom.specs.Lists.{contains_at}
use Rattle.problem_types.specs.Lists.{is_of_field, is_reduces}
use Rattle.problem_types.specs.declared.problem.Level.{Level}
use Rattle.problem_types.specs.declared.problem.Problem.{Problem}
use Rattle.problem_types.specs.declared.problem.Reduction.{Reduction}
use Rattle.problem_types.specs.declared.problem.Require.{Require}
use Rattle.problem_types.specs.declared.problem.Task.{Task}
use Rattle.problem_types.specs.declared.problem.Var.{Var}
use Rattle.problem_types.specs.declared.problem.Write.{Write}
use Rattle.problem_types.specs.declared.problem.WriteKind.{WriteKind}
use Rattle.problem_types.specs.declared.problem.WriteKind.TheVariants as write
use Rattle.task_rules.specs.Lines.{wanted_level, wanted_name}
use Rattle.task_check.specs.Plan.{Detail, OnPatch, Combining, Slot, Old, OldNumber, New, Number, combining, details_of, has_number, has_variable, is_in_window, is_of_number, is_read, line_is, old_numbers, old_variables, on_patches, patch_of, patches_of, reads, slot_written, slots_of, wants, written_by}
use Rattle.slot_contents.proofs.Listed.{any_in, in_counted, in_filter, in_flat_map, in_map}

-- the patches of a level by their numbers
module _ (p : Problem) (level : ℕ) where
  abbrev patch_count : ℕ
  patch_count = option_map_or (λ l. length l.patches) (slice_get p.levels level) 0

  in_patches : (patch : ℕ) → patch < length (patches_of p level) → Contains (patches_of p level) patch
  in_patches patch below = in_counted patch_count patch (omega (arith, below, length-counted 0 patch_count))

  pub length-patches : (l : Level) → slice_get p.levels level ≡ Some l → length (patches_of p level) ≡ length l.patches
  length-patches l at = length-counted 0 patch_count ∙ ap (λ (o : Option Level). option_map_or (λ m. length m.patches) o 0) at

-- ---- slots for the step before

-- those that might stand
module _ (p : Problem) where
  pub in_old_variables : (v : Var) (level material patch : ℕ) → Contains p.vars v → level < length p.levels → material < p.materials.value → patch < length (patches_of p level) →
      Contains (old_variables p) (Old v.name level material patch)
  in_old_variables v level material patch v_there level_there material_there patch_there =
      in_flat_map (λ (u : Var). flat_map (λ level. flat_map (λ material. map (Old u.name level material) (patches_of p level)) (counted 0 p.materials.value)) (counted 0 (length p.levels)))
      p.vars v (Old v.name level material patch) v_there
      (in_flat_map (λ level. flat_map (λ material. map (Old v.name level material) (patches_of p level)) (counted 0 p.materials.value))
      (counted 0 (length p.levels)) level (Old v.name level material patch) (in_counted (length p.levels) level level_there)
      (in_flat_map (λ material. map (Old v.name level material) (patches_of p level))
      (counted 0 p.materials.value) material (Old v.name level material patch) (in_counted p.materials.value material material_there)
      (in_map (Old v.name level material) (patches_of p level) patch (in_patches p level patch patch_there))))

  pub in_old_numbers : (q : Reduction) → Contains p.reductions q → Contains (old_numbers p) (OldNumber q.name)
  in_old_numbers q there = in_map (λ (u : Reduction). OldNumber u.name) p.reductions q there

module _ (p : Problem) (tasks : List Task) where
  -- they stand where they are read
  pub old_stands : (s : Slot) → Contains (old_variables p ++ old_numbers p) s → is_read p tasks s ≡ true → Contains (slots_of p tasks) s
  old_stands s there read =
      Contains-append_left (filter (is_read p tasks) (old_variables p ++ old_numbers p)) (flat_map (written_by tasks) (details_of p tasks)) s
      (in_filter (is_read p tasks) (old_variables p ++ old_numbers p) s there read)

  -- what a detailed task writes stands
  written_stands : (d : Detail) (s : Slot) → Contains (details_of p tasks) d → Contains (written_by tasks d) s → Contains (slots_of p tasks) s
  written_stands d s d_there there =
      Contains-append_right (filter (is_read p tasks) (old_variables p ++ old_numbers p)) (flat_map (written_by tasks) (details_of p tasks)) s
      (in_flat_map (written_by tasks) (details_of p tasks) d s d_there there)

  -- what a detailed task reads is read
  pub read_by : (d : Detail) (s : Slot) → Contains (details_of p tasks) d → reads p tasks d s ≡ true → is_read p tasks s ≡ true
  read_by d s there is = any_in (λ e. reads p tasks e s) (details_of p tasks) d there is

-- a line that writes a variable writes such slots
field_slot : (k : WriteKind) (task line level material patch : ℕ) → is_of_field k ≡ true → slot_written k task line level material patch ≡ New task line level material patch
field_slot write.Computes task line level material patch is = refl
field_slot write.Modifies task line level material patch is = refl
field_slot (write.Reduces c) task line level material patch is = absurd cc

-- ---- a task of a list

module _ (p : Problem) (tasks : List Task) (task : ℕ) (t : Task) (at : slice_get tasks task ≡ Some t) where
  of_task : (d : Detail) → Contains (on_patches p task t ++ combining task t) d → Contains (details_of p tasks) d
  of_task d there =
      in_flat_map (λ place. option_map_or (λ u. on_patches p place u ++ combining place u) (slice_get tasks place) []) (counted 0 (length tasks)) task d
      (in_counted (length tasks) task (slice_get_within tasks task t at))
      (subst (λ (o : Option Task). Contains (option_map_or (λ u. on_patches p task u ++ combining task u) o []) d) (sym at) there)

  module _ (level material patch : ℕ) (level_there : Contains t.levels level) (material_there : Contains t.materials material) (patch_there : patch < length (patches_of p level)) where
    -- its detailed task on a patch
    pub on_patch_stands : Contains (details_of p tasks) (OnPatch task level material patch)
    on_patch_stands = of_task (OnPatch task level material patch)
        (Contains-append_left (on_patches p task t) (combining task t) (OnPatch task level material patch)
        (in_flat_map (λ level. flat_map (λ material. map (OnPatch task level material) (patches_of p level)) t.materials) t.levels level (OnPatch task level material patch) level_there
        (in_flat_map (λ material. map (OnPatch task level material) (patches_of p level)) t.materials material (OnPatch task level material patch) material_there
        (in_map (OnPatch task level material) (patches_of p level) patch (in_patches p level patch patch_there)))))

    abbrev slots_in : Task → ℕ → List Slot
    slots_in u line = option_map_or (λ w. slot_written w.kind task line level material patch ∷ []) (slice_get u.writes line) []

    -- the slot of a line that writes a variable
    pub new_stands : (line : ℕ) (w : Write) → slice_get t.writes line ≡ Some w → is_of_field w.kind ≡ true → Contains (slots_of p tasks) (New task line level material patch)
    new_stands line w line_at of_field = written_stands p tasks (OnPatch task level material patch) (New task line level material patch) on_patch_stands
        (subst (λ (o : Option Task). Contains (flat_map (λ k. option_map_or (λ u. slots_in u k) o []) (counted 0 (option_map_or (λ u. length u.writes) o 0))) (New task line level material patch)) (sym at)
        (in_flat_map (slots_in t) (counted 0 (length t.writes)) line (New task line level material patch) (in_counted (length t.writes) line (slice_get_within t.writes line w line_at))
        (subst (λ (o : Option Write). Contains (option_map_or (λ v. slot_written v.kind task line level material patch ∷ []) o []) (New task line level material patch)) (sym line_at)
        (contains_at (slot_written w.kind task line level material patch ∷ []) 0 (New task line level material patch) (ap Some (field_slot w.kind task line level material patch of_field))))))

  -- the slot of a line that reduces
  pub number_stands : (line : ℕ) (w : Write) → slice_get t.writes line ≡ Some w → is_reduces w.kind ≡ true → Contains (slots_of p tasks) (Number task line)
  number_stands line w line_at reduces = written_stands p tasks (Combining task line) (Number task line)
      (of_task (Combining task line) (Contains-append_right (on_patches p task t) (combining task t) (Combining task line)
      (in_map (Combining task) (filter (line_is t.writes (λ v. is_reduces v.kind)) (counted 0 (length t.writes))) line
      (in_filter (line_is t.writes (λ v. is_reduces v.kind)) (counted 0 (length t.writes)) line (in_counted (length t.writes) line (slice_get_within t.writes line w line_at))
      (ap (λ (o : Option Write). option_map_or (λ v. is_reduces v.kind) o false) line_at ∙ reduces)))))
      (contains_at (Number task line ∷ []) 0 (Number task line) refl)

-- ---- what a detailed task reads

module _ (p : Problem) (tasks : List Task) (task : ℕ) (t : Task) (level material patch : ℕ) (s : Slot) (r : Require) where
  -- what one of its requirements wants
  pub wanted_is_read : slice_get tasks task ≡ Some t → Contains t.requirements r → wants p tasks task t level material patch s r ≡ true → reads p tasks (OnPatch task level material patch) s ≡ true
  wanted_is_read at r_there wanted =
      ap (λ (o : Option Task). option_map_or (λ u. list_any (wants p tasks task u level material patch s) u.requirements) o false) at
      ∙ any_in (wants p tasks task t level material patch s) t.requirements r r_there wanted

  abbrev has_it : Bool
  has_it = has_variable tasks task r.store (wanted_name r.what) material (wanted_level r.what level) s

  abbrev in_window : Bool
  in_window = is_in_window p t r level patch (patch_of s)

  abbrev has_number_of_it : Bool
  has_number_of_it = has_number tasks r.store (wanted_name r.what) s

  pub wants_variable : is_of_number r.what ≡ false → has_it ≡ true → in_window ≡ true → wants p tasks task t level material patch s r ≡ true
  wants_variable variable has within = cond-false (is_of_number r.what) has_number_of_it (has_it && in_window) variable ∙ and_from has_it in_window has within

  pub wants_number : is_of_number r.what ≡ true → has_number_of_it ≡ true → wants p tasks task t level material patch s r ≡ true
  wants_number number has = cond-true (is_of_number r.what) has_number_of_it (has_it && in_window) number ∙ has
