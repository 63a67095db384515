-- The last versions of variables, by how many tasks modify them.
use Rattle.std.proofs.Common.{◌≡◌, ◌∙◌, ◌≤◌, ◌<◌, ◌+◌, ◌⊎◌, inl, inr, ℕ, zero, suc, List, [], ◌∷◌, ◌++◌, Bool, true, false, cond, Some, length, map, take, filter, get_or, ap, sym, refl, arith}
use Rattle.std.specs.Prelude.{not, slice_get, nat_lt, Contains, ◌&&◌, ◌||◌, ◌==◌}
use Rattle.std.specs.List.{count_by, flat_map, list_any}
use Rattle.std.specs.Option.{option_map_or}
use Rattle.std.proofs.lemmas.Bool.{and_parts, and_from, or_cases, or_left, or_right, ltb-true, lt-ltb, le-ltb, eqb-true}
use Rattle.std.proofs.lemmas.List.{map-append, take_more}
use Rattle.std.proofs.lemmas.List.Folds.{list_any-append, Any-from_list_any, list_any-from_Any}
use Rattle.std.proofs.lemmas.List.Sums.{sum_by_push}
use Rattle.std.proofs.lemmas.Option.{slice_get_within, slice_get-get_or, get_or_from_slice_get}
use Rattle.uts_geom.specs.Spans.{counted}
use Rattle.uts_geom.specs.Counting.{counted-at}
use Rattle.problem_types.specs.Form.{IsProblemInForm}
use Rattle.problem_types.specs.Lists.{is_reduces, runs_on}
use Rattle.problem_types.specs.declared.problem.Problem.{Problem}
use Rattle.problem_types.specs.declared.problem.Level.{Level}
use Rattle.problem_types.specs.declared.problem.Task.{Task}
use Rattle.problem_types.specs.declared.problem.Write.{Write}
use Rattle.problem_types.specs.declared.problem.WriteKind.{WriteKind}
use Rattle.problem_types.specs.declared.problem.WriteKind.TheVariants as write
use Rattle.task_rules.specs.Lines.{has_modifies, is_modifies}
use Rattle.task_check.specs.Bounds.{AreBoundedTasks, IsBoundedTask}
use Rattle.task_check.specs.Plan.{Old, OldNumber, details_of, is_read, old_numbers, old_variables, patches_of, written_by}
use Rattle.graph_compiler.specs.Kept.{is_last_version, is_new, is_outdated_by}
use Rattle.graph_compiler.specs.Plan.{slots_of_list}
use Rattle.graph_compiler.specs.Shown.{modifies_variable, shown_slot}
use Rattle.graph_compiler.specs.Written.{kind_written, line_slot, number_slot, number_slots, on_level, patch_slots, task_slots, version_by_kind}
use Rattle.graph_compiler.specs.declared.plan.Slot.{Slot}
use Rattle.graph_compiler.specs.declared.plan.SlotKind.{SlotKind}
use Rattle.graph_compiler.specs.declared.plan.SlotKind.TheVariants as kind
use Rattle.graph_compiler.proofs.Growing.{flat_map-counted}
use Rattle.graph_compiler.proofs.TaskSlots.{all_shown, slots_before}

-- tests of the items of joined lists
pub list_any-map : {X Y : Type 0} (q : Y → Bool) (f : X → Y) (xs : List X) → list_any q (map f xs) ≡ list_any (λ x. q (f x)) xs
list_any-map q f [] = refl
list_any-map q f (x ∷ xs) = ap (λ b. q (f x) || b) (list_any-map q f xs)

pub list_any-flat_map : {X Y : Type 0} (q : Y → Bool) (f : X → List Y) (xs : List X) → list_any q (flat_map f xs) ≡ list_any (λ x. list_any q (f x)) xs
list_any-flat_map q f [] = refl
list_any-flat_map q f (x ∷ xs) = list_any-append q (f x) (flat_map f xs) ∙ ap (λ b. list_any q (f x) || b) (list_any-flat_map q f xs)

none_of : {X : Type 0} (q : X → Bool) → ((x : X) → q x ≡ false) → (xs : List X) → list_any q xs ≡ false
none_of q none [] = refl
none_of q none (x ∷ xs) = rw (none x) (none_of q none xs)

none_left : {X : Type 0} (q test : X → Bool) (xs : List X) → list_any q xs ≡ false → list_any q (filter test xs) ≡ false
none_left q test [] none = refl
none_left {X} q test (x ∷ xs) none = by_here (q x) refl (test x) none (none_left q test xs)
  where
    by_here : (a : Bool) → q x ≡ a → (b : Bool) → list_any q (x ∷ xs) ≡ false → (list_any q xs ≡ false → list_any q (filter test xs) ≡ false) →
        list_any q (cond b (x ∷ filter test xs) (filter test xs)) ≡ false
    by_here true is b none rest = absurd (let some : list_any q (x ∷ xs) ≡ true = rw is refl in cc)
    by_here false is true none rest = rw is (rest (rw is at none))
    by_here false is false none rest = rest (rw is at none)

-- an item that passes
some : {X : Type 0} (q : X → Bool) (xs : List X) → list_any q xs ≡ true → (x : X) × Contains xs x × (q x ≡ true)
some q xs is = let found = Any-from_list_any q xs is in (found.1, (found.0, found.2, found.3), found.4)

here : {X : Type 0} (q : X → Bool) (xs : List X) (x : X) → Contains xs x → q x ≡ true → list_any q xs ≡ true
here q xs x (k, below, at) passes = list_any-from_Any q xs (k, x, below, at, passes)

same_tests : (a b : Bool) → (a ≡ true → b ≡ true) → (b ≡ true → a ≡ true) → a ≡ b
same_tests true true there back = refl
same_tests true false there back = sym (there refl)
same_tests false true there back = back refl
same_tests false false there back = refl

module _ (p : Problem) (s : Slot) where
  abbrev modified : List Task → ℕ
  modified earlier = count_by (modifies_variable s.name s.material s.level) earlier

  abbrev step_of : Task → ℕ
  step_of t = cond (modifies_variable s.name s.material s.level t) 1 0

  -- a line that writes a later version
  from_line : (earlier : List Task) (t : Task) (level material patch : ℕ) (w : Write) → Contains t.levels level → Contains t.materials material → Contains t.writes w →
      is_outdated_by s (line_slot earlier level material patch w) ≡ true → s.version < modified earlier + step_of t
  from_line earlier t level material patch w on_level on_material of_task is = by_kind w.kind refl
    where
      parts : (is_new (kind_written w.kind) ≡ true) × (((w.name == s.name) && ((material == s.material) && ((level == s.level)
          && nat_lt s.version (version_by_kind w.kind (count_by (modifies_variable w.name material level) earlier))))) ≡ true)
      parts = and_parts _ _ is

      rest : ((w.name == s.name) ≡ true) × (((material == s.material) && ((level == s.level)
          && nat_lt s.version (version_by_kind w.kind (count_by (modifies_variable w.name material level) earlier)))) ≡ true)
      rest = and_parts _ _ parts.1

      further : ((material == s.material) ≡ true) × (((level == s.level)
          && nat_lt s.version (version_by_kind w.kind (count_by (modifies_variable w.name material level) earlier))) ≡ true)
      further = and_parts _ _ rest.1

      last : ((level == s.level) ≡ true) × (nat_lt s.version (version_by_kind w.kind (count_by (modifies_variable w.name material level) earlier)) ≡ true)
      last = and_parts _ _ further.1

      alike : count_by (modifies_variable w.name material level) earlier ≡ modified earlier
      alike =
          ap (λ (n : ℕ). count_by (modifies_variable n material level) earlier) (eqb-true w.name s.name rest.0)
          ∙ ap (λ (m : ℕ). count_by (modifies_variable s.name m level) earlier) (eqb-true material s.material further.0)
          ∙ ap (λ (l : ℕ). count_by (modifies_variable s.name s.material l) earlier) (eqb-true level s.level last.0)

      below : (k : WriteKind) → w.kind ≡ k → s.version < version_by_kind k (count_by (modifies_variable w.name material level) earlier)
      below k is_kind = rw is_kind at (ltb-true s.version (version_by_kind w.kind (count_by (modifies_variable w.name material level) earlier)) last.1)

      modifies : w.kind ≡ write.Modifies → modifies_variable s.name s.material s.level t ≡ true
      modifies is_kind =
          and_from (runs_on t s.material s.level) (has_modifies t.writes s.name)
          (and_from (list_any (λ m. m == s.material) t.materials) (list_any (λ l. l == s.level) t.levels)
          (here (λ m. m == s.material) t.materials material on_material further.0) (here (λ l. l == s.level) t.levels level on_level last.0))
          (here (λ v. (v.name == s.name) && is_modifies v.kind) t.writes w of_task
          (and_from (w.name == s.name) (is_modifies w.kind) rest.0 (ap is_modifies is_kind)))

      by_kind : (k : WriteKind) → w.kind ≡ k → s.version < modified earlier + step_of t
      by_kind write.Computes is_kind = omega (arith, below write.Computes is_kind, alike)
      by_kind write.Modifies is_kind =
          omega (arith, below write.Modifies is_kind, alike, ap (λ (b : Bool). cond {A = ℕ} b 1 0) (modifies is_kind))
      by_kind (write.Reduces c) is_kind = absurd (let none : is_new (kind_written w.kind) ≡ false = ap (λ (k : WriteKind). is_new (kind_written k)) is_kind in let new = parts.0 in cc)

  no_number : (w : Write) (b : Bool) → list_any (is_outdated_by s) (cond b (number_slot w ∷ []) []) ≡ false
  no_number w true = refl
  no_number w false = refl

  no_numbers : (writes : List Write) → list_any (is_outdated_by s) (number_slots writes) ≡ false
  no_numbers writes =
      list_any-flat_map (is_outdated_by s) (λ w. cond (is_reduces w.kind) (number_slot w ∷ []) []) writes
      ∙ none_of (λ w. list_any (is_outdated_by s) (cond (is_reduces w.kind) (number_slot w ∷ []) [])) (λ w. no_number w (is_reduces w.kind)) writes

  -- a task that writes a later version
  from_task : (earlier : List Task) (t : Task) → list_any (is_outdated_by s) (task_slots p earlier t) ≡ true → s.version < modified earlier + step_of t
  from_task earlier t is =
      by_part (or_cases (list_any (is_outdated_by s) (patch_slots p earlier t)) (list_any (is_outdated_by s) (number_slots t.writes))
      (sym (list_any-append (is_outdated_by s) (patch_slots p earlier t) (number_slots t.writes)) ∙ is))
    where
      by_part : (list_any (is_outdated_by s) (patch_slots p earlier t) ≡ true) ⊎ (list_any (is_outdated_by s) (number_slots t.writes) ≡ true) → s.version < modified earlier + step_of t
      by_part (inr number) = absurd (let none = no_numbers t.writes in cc)
      by_part (inl on_patch) =
          let level = some (λ level. list_any (is_outdated_by s) (flat_map (on_level p earlier t.writes level) t.materials)) t.levels
          (sym (list_any-flat_map (is_outdated_by s) (λ level. flat_map (on_level p earlier t.writes level) t.materials) t.levels) ∙ on_patch) in
          let material = some (λ material. list_any (is_outdated_by s) (on_level p earlier t.writes level.0 material)) t.materials
          (sym (list_any-flat_map (is_outdated_by s) (on_level p earlier t.writes level.0) t.materials) ∙ level.2) in
          let patch = some (λ patch. list_any (is_outdated_by s) (map (line_slot earlier level.0 material.0 patch) t.writes)) (patches_of p level.0)
          (sym (list_any-flat_map (is_outdated_by s) (λ patch. map (line_slot earlier level.0 material.0 patch) t.writes) (patches_of p level.0)) ∙ material.2) in
          let line = some (λ w. is_outdated_by s (line_slot earlier level.0 material.0 patch.0 w)) t.writes
          (sym (list_any-map (is_outdated_by s) (line_slot earlier level.0 material.0 patch.0) t.writes) ∙ patch.2) in
          from_line earlier t level.0 material.0 patch.0 line.0 level.1 material.1 line.1 line.2

  -- a level has a first patch
  first_patch : IsProblemInForm p → (level : ℕ) → level < length p.levels → (l : Level) → slice_get p.levels level ≡ Some l → Contains (patches_of p level) 0
  first_patch form level below l at =
      let some_patch = (form.levels level l (slice_get_within p.levels level l at)).some_patch in
      let same : get_or p.levels level l ≡ l = get_or_from_slice_get p.levels level l l at in
      let some_here : 1 ≤ length l.patches = rw same at some_patch in
      let stands = counted-at (length l.patches) 0 (omega (arith, some_here)) in
      rw at (0, slice_get_within (counted 0 (length l.patches)) 0 0 stands, get_or_from_slice_get (counted 0 (length l.patches)) 0 0 0 stands)

  -- a task that modifies the variable writes a version for each one before
  to_task : IsProblemInForm p → (earlier : List Task) (t : Task) → IsBoundedTask p t → modifies_variable s.name s.material s.level t ≡ true →
      s.version < modified earlier + 1 → list_any (is_outdated_by s) (task_slots p earlier t) ≡ true
  to_task form earlier t bounded is below =
      let parts = and_parts (runs_on t s.material s.level) (has_modifies t.writes s.name) is in
      let runs = and_parts (list_any (λ m. m == s.material) t.materials) (list_any (λ l. l == s.level) t.levels) parts.0 in
      let material = some (λ m. m == s.material) t.materials runs.0 in
      let level = some (λ l. l == s.level) t.levels runs.1 in
      let line = some (λ w. (w.name == s.name) && is_modifies w.kind) t.writes parts.1 in
      let of_line = and_parts (line.0.name == s.name) (is_modifies line.0.kind) line.2 in
      let kind = modifying line.0.kind of_line.1 in
      let there : level.0 < length p.levels = rw (sym level.1.2) (bounded.levels level.1.0 level.0 level.1.1) in
      let stands = slice_get-get_or p.levels level.0 (record { line = 0; ratio = 0; boxes = []; patches = [] }) there in
      let patch = first_patch form level.0 there _ stands in
      let alike : count_by (modifies_variable line.0.name material.0 level.0) earlier ≡ modified earlier =
      ap (λ (n : ℕ). count_by (modifies_variable n material.0 level.0) earlier) (eqb-true line.0.name s.name of_line.0)
      ∙ ap (λ (m : ℕ). count_by (modifies_variable s.name m level.0) earlier) (eqb-true material.0 s.material material.2)
      ∙ ap (λ (l : ℕ). count_by (modifies_variable s.name s.material l) earlier) (eqb-true level.0 s.level level.2) in
      let version : version_by_kind line.0.kind (count_by (modifies_variable line.0.name material.0 level.0) earlier) ≡ modified earlier + 1 =
      ap (λ (k : WriteKind). version_by_kind k (count_by (modifies_variable line.0.name material.0 level.0) earlier)) kind ∙ ap (λ (n : ℕ). n + 1) alike in
      let passes : is_outdated_by s (line_slot earlier level.0 material.0 0 line.0) ≡ true =
      and_from _ _ (ap (λ (k : WriteKind). is_new (kind_written k)) kind) (and_from _ _ of_line.0 (and_from _ _ material.2 (and_from _ _ level.2
      (lt-ltb s.version (version_by_kind line.0.kind (count_by (modifies_variable line.0.name material.0 level.0) earlier)) (omega (arith, version)))))) in
      list_any-append (is_outdated_by s) (patch_slots p earlier t) (number_slots t.writes)
      ∙ or_left _ _
      (list_any-flat_map (is_outdated_by s) (λ level. flat_map (on_level p earlier t.writes level) t.materials) t.levels
      ∙ here (λ level. list_any (is_outdated_by s) (flat_map (on_level p earlier t.writes level) t.materials)) t.levels level.0 level.1
      (list_any-flat_map (is_outdated_by s) (on_level p earlier t.writes level.0) t.materials
      ∙ here (λ material. list_any (is_outdated_by s) (on_level p earlier t.writes level.0 material)) t.materials material.0 material.1
      (list_any-flat_map (is_outdated_by s) (λ patch. map (line_slot earlier level.0 material.0 patch) t.writes) (patches_of p level.0)
      ∙ here (λ patch. list_any (is_outdated_by s) (map (line_slot earlier level.0 material.0 patch) t.writes)) (patches_of p level.0) 0 patch
      (list_any-map (is_outdated_by s) (line_slot earlier level.0 material.0 0) t.writes
      ∙ here (λ w. is_outdated_by s (line_slot earlier level.0 material.0 0 w)) t.writes line.0 line.1 passes))))
    where
      modifying : (k : WriteKind) → is_modifies k ≡ true → k ≡ write.Modifies
      modifying write.Computes is_so = absurd cc
      modifying write.Modifies is_so = refl
      modifying (write.Reduces c) is_so = absurd cc

  module _ (tasks : List Task) (form : IsProblemInForm p) (bounded : AreBoundedTasks p tasks) where
    one_more : (n : ℕ) (t : Task) → slice_get tasks n ≡ Some t → modified (take (n + 1) tasks) ≡ modified (take n tasks) + step_of t
    one_more n t at =
        let below = slice_get_within tasks n t at in
        ap modified (take_more tasks n t below ∙ ap (λ u. take n tasks ++ u ∷ []) (get_or_from_slice_get tasks n t t at))
        ∙ sum_by_push step_of (take n tasks) t

    -- the slots of the tasks before a place have a later version where more of these tasks modify the variable
    before : (n : ℕ) → n ≤ length tasks → list_any (is_outdated_by s) (slots_before p tasks n) ≡ nat_lt s.version (modified (take n tasks))
    before zero within = sym (le-ltb s.version 0 (omega arith))
    before (suc n) within =
        by_next (get_or tasks n (record { line = 0; name = 0; levels = []; materials = []; requirements = []; writes = [] }))
        (slice_get-get_or tasks n (record { line = 0; name = 0; levels = []; materials = []; requirements = []; writes = [] }) (omega arith)) (before n (omega arith))
      where
        by_next : (t : Task) → slice_get tasks n ≡ Some t → list_any (is_outdated_by s) (slots_before p tasks n) ≡ nat_lt s.version (modified (take n tasks)) →
            list_any (is_outdated_by s) (slots_before p tasks (suc n)) ≡ nat_lt s.version (modified (take (suc n) tasks))
        by_next t at so_far =
            let e : n + 1 ≡ suc n = omega arith in
            let split : list_any (is_outdated_by s) (slots_before p tasks (n + 1)) ≡ (list_any (is_outdated_by s) (slots_before p tasks n) || list_any (is_outdated_by s) (task_slots p (take n tasks) t)) =
            ap (list_any (is_outdated_by s)) (flat_map-counted (λ place. option_map_or (task_slots p (take place tasks)) (slice_get tasks place) []) n)
            ∙ list_any-append (is_outdated_by s) (slots_before p tasks n) (option_map_or (task_slots p (take n tasks)) (slice_get tasks n) [])
            ∙ ap (λ o. list_any (is_outdated_by s) (slots_before p tasks n) || list_any (is_outdated_by s) (option_map_or (task_slots p (take n tasks)) o [])) at in
            let more = one_more n t at in
            ap (λ (k : ℕ). list_any (is_outdated_by s) (slots_before p tasks k)) (sym e) ∙ split
            ∙ same_tests _ (nat_lt s.version (modified (take (n + 1) tasks))) (forward so_far more) (backward at so_far more)
            ∙ ap (λ (k : ℕ). nat_lt s.version (modified (take k tasks))) e
          where
            forward : list_any (is_outdated_by s) (slots_before p tasks n) ≡ nat_lt s.version (modified (take n tasks)) →
                modified (take (n + 1) tasks) ≡ modified (take n tasks) + step_of t →
                (list_any (is_outdated_by s) (slots_before p tasks n) || list_any (is_outdated_by s) (task_slots p (take n tasks) t)) ≡ true →
                nat_lt s.version (modified (take (n + 1) tasks)) ≡ true
            forward so_far more is = elim (or_cases _ _ is) [
              | inl earlier ↦ lt-ltb s.version (modified (take (n + 1) tasks)) (omega (arith, ltb-true s.version (modified (take n tasks)) (sym so_far ∙ earlier), more))
              | inr now ↦ lt-ltb s.version (modified (take (n + 1) tasks)) (omega (arith, from_task (take n tasks) t now, more))
            ]

            backward : slice_get tasks n ≡ Some t → list_any (is_outdated_by s) (slots_before p tasks n) ≡ nat_lt s.version (modified (take n tasks)) →
                modified (take (n + 1) tasks) ≡ modified (take n tasks) + step_of t → nat_lt s.version (modified (take (n + 1) tasks)) ≡ true →
                (list_any (is_outdated_by s) (slots_before p tasks n) || list_any (is_outdated_by s) (task_slots p (take n tasks) t)) ≡ true
            backward at so_far more is = by_test (modifies_variable s.name s.material s.level t) refl
              where
                task_bounded : IsBoundedTask p t
                task_bounded =
                    let below = slice_get_within tasks n t at in
                    let same = get_or_from_slice_get tasks n t t at in
                    rw same at (bounded.tasks n t below)

                by_test : (b : Bool) → modifies_variable s.name s.material s.level t ≡ b →
                    (list_any (is_outdated_by s) (slots_before p tasks n) || list_any (is_outdated_by s) (task_slots p (take n tasks) t)) ≡ true
                by_test true modifies =
                    or_right _ _ (to_task form (take n tasks) t task_bounded modifies
                    (omega (arith, ltb-true s.version (modified (take (n + 1) tasks)) is, more, ap (λ (b : Bool). cond {A = ℕ} b 1 0) modifies)))
                by_test false leaves =
                    or_left _ _ (so_far ∙ lt-ltb s.version (modified (take n tasks))
                    (omega (arith, ltb-true s.version (modified (take (n + 1) tasks)) is, more, ap (λ (b : Bool). cond {A = ℕ} b 1 0) leaves)))

    no_old : list_any (is_outdated_by s) (map (shown_slot tasks) (filter (is_read p tasks) (old_variables p ++ old_numbers p))) ≡ false
    no_old =
        list_any-map (is_outdated_by s) (shown_slot tasks) (filter (is_read p tasks) (old_variables p ++ old_numbers p))
        ∙ none_left (λ x. is_outdated_by s (shown_slot tasks x)) (is_read p tasks) (old_variables p ++ old_numbers p)
        (list_any-append (λ x. is_outdated_by s (shown_slot tasks x)) (old_variables p) (old_numbers p)
        ∙ ap (λ b. b || list_any (λ x. is_outdated_by s (shown_slot tasks x)) (old_numbers p)) no_variables
        ∙ list_any-map (λ x. is_outdated_by s (shown_slot tasks x)) (λ q. OldNumber q.name) p.reductions
        ∙ none_of (λ q. is_outdated_by s (shown_slot tasks (OldNumber q.name))) (λ q. refl) p.reductions)
      where
        no_variables : list_any (λ x. is_outdated_by s (shown_slot tasks x)) (old_variables p) ≡ false
        no_variables =
            list_any-flat_map (λ x. is_outdated_by s (shown_slot tasks x)) _ p.vars
            ∙ none_of _ (λ v. list_any-flat_map (λ x. is_outdated_by s (shown_slot tasks x)) _ (counted 0 (length p.levels))
            ∙ none_of _ (λ level. list_any-flat_map (λ x. is_outdated_by s (shown_slot tasks x)) _ (counted 0 p.materials.value)
            ∙ none_of _ (λ material. list_any-map (λ x. is_outdated_by s (shown_slot tasks x)) (Old v.name level material) (patches_of p level)
            ∙ none_of (λ patch. is_outdated_by s (shown_slot tasks (Old v.name level material patch))) (λ patch. refl) (patches_of p level))
            (counted 0 p.materials.value)) (counted 0 (length p.levels))) p.vars

    -- a slot is outdated where more tasks of the list modify its variable than its version tells
    pub outdated_is : list_any (is_outdated_by s) (slots_of_list p tasks) ≡ nat_lt s.version (modified tasks)
    outdated_is =
        ap (list_any (is_outdated_by s)) (map-append (shown_slot tasks) (filter (is_read p tasks) (old_variables p ++ old_numbers p)) (flat_map (written_by tasks) (details_of p tasks)))
        ∙ list_any-append (is_outdated_by s) (map (shown_slot tasks) (filter (is_read p tasks) (old_variables p ++ old_numbers p))) (map (shown_slot tasks) (flat_map (written_by tasks) (details_of p tasks)))
        ∙ ap (λ b. b || list_any (is_outdated_by s) (map (shown_slot tasks) (flat_map (written_by tasks) (details_of p tasks)))) no_old
        ∙ ap (list_any (is_outdated_by s)) (all_shown p tasks)
        ∙ before (length tasks) (omega arith)
        ∙ ap (λ ts. nat_lt s.version (modified ts)) (whole tasks)
      where
        whole : (ts : List Task) → take (length ts) ts ≡ ts
        whole [] = refl
        whole (t ∷ ts) = ap (λ rest. t ∷ rest) (whole ts)

pub last_version_is : (p : Problem) (s : Slot) (tasks : List Task) (result : Bool) → result ≡ not (nat_lt s.version (count_by (modifies_variable s.name s.material s.level) tasks)) →
    s.kind ≡ kind.New → IsProblemInForm p → AreBoundedTasks p tasks → result ≡ is_last_version (slots_of_list p tasks) s
last_version_is p s tasks result is new form bounded =
    is ∙ ap not (sym (outdated_is p s tasks form bounded))
    ∙ ap (λ (k : SlotKind). is_new k && not (list_any (is_outdated_by s) (slots_of_list p tasks))) (sym new)
