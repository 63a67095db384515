-- How many slots the detailed tasks of an accepted problem read: task by task, requirement by requirement.
use Rattle.std.proofs.Common.{◌≡◌, ◌∙◌, ◌≤◌, ◌<◌, ◌+◌, ◌*◌, ℕ, zero, suc, List, [], ◌∷◌, ◌++◌, Bool, true, false, cond, Option, Some, length, map, ap, sym, refl, arith, subst}
use Rattle.std.specs.Prelude.{slice_get, ◌==◌, ◌||◌, if◌then◌else◌, Contains, filter}
use Rattle.std.specs.List.{count_by, sum_by, flat_map, list_any}
use Rattle.std.specs.Option.{option_map_or}
use Rattle.std.proofs.lemmas.Bool.{eq-eqb}
use Rattle.std.proofs.lemmas.List.Sums.{sum_by-append, sum_by-le-sum_by}
use Rattle.std.proofs.lemmas.List.Elements.{All-contains}
use Rattle.kernel_ast.specs.declared.expression.Store.{Store}
use Rattle.uts_geom.specs.Spans.{counted, do_meet}
use Rattle.uts_geom.specs.declared.span.Span.{Span}
use Rattle.uts_geom.specs.Counting.{counted-at, within}
use Rattle.uts_geom.specs.Lists.{contains_at, placed, any_at}
use Rattle.problem_types.specs.Form.{IsProblemInForm}
use Rattle.problem_types.specs.Lists.{task_list, is_reduces, centring_of}
use Rattle.problem_types.specs.declared.problem.Problem.{Problem}
use Rattle.problem_types.specs.declared.problem.Level.{Level}
use Rattle.problem_types.specs.declared.problem.Task.{Task}
use Rattle.problem_types.specs.declared.problem.Require.{Require}
use Rattle.problem_types.specs.declared.problem.What.{What}
use Rattle.problem_types.specs.declared.problem.What.TheVariants as what
use Rattle.problem_types.specs.declared.problem.Write.{Write}
use Rattle.patch_regions.specs.Regions.{owned_span}
use Rattle.task_rules.specs.Lines.{wanted_name, wanted_level}
use Rattle.task_rules.specs.Names.{WantsMissingLevel}
use Rattle.task_check.specs.declared.fault.FaultKind.TheVariants as kind
use Rattle.task_check.specs.Faults.{of_require}
use Rattle.task_check.specs.Places.{IsTaskAt, IsRequireAt}
use Rattle.task_check.specs.First.{IsFaultless}
use Rattle.task_check.specs.Plan.{Detail, OnPatch, Combining, Slot, patches_of, on_patches, combining, details_of, old_variables, old_numbers, slots_of, written_by, wanted_window, is_in_window, is_of_number, wants, is_part_of, reads, is_read}
use Rattle.task_check.specs.Counts.{read_count}
use Rattle.task_check.specs.Reaches.{reach_of, reached_level, reach_window, touched_count, touch_count}
use Rattle.task_check.specs.Reading.{requirement_reads, level_reads, patch_reads, part_reads, task_reads}
use Rattle.task_check.specs.declared.plan.reach.Reach.{Reach}
use Rattle.task_check.specs.declared.plan.reach.Reach.TheVariants as reach
use Rattle.task_check.specs.Supplies.{seen_of}
use Rattle.task_check.proofs.Accepted.{levels_below, materials_below, is_known, wanted_below}
use Rattle.task_check.proofs.Sums.{sum-same, sum-filter, sum-exchange, sum-constant, sum-each, sum-times, count-some}
use Rattle.task_check.proofs.Once.{of_both, never_repeats}
use Rattle.task_check.proofs.PlanSums.{by_place-same, by_place-sum, sum-details, sum-on_patches, sum-combining}
use Rattle.task_check.proofs.OldSlots.{no_old_variable, no_old_number}
use Rattle.task_check.proofs.Details.{length-on_patches}
use Rattle.task_check.proofs.Parts.{parts_once}
use Rattle.task_check.proofs.Apart.{HasCoarser, repeated}
use Rattle.task_check.proofs.Wanted.{count-olds, wanted_once}
use Rattle.task_check.proofs.Touching.{touch_count_is}

-- A filter that lets through what is counted.
pub count-filter : {X : Type 0} (q p : X → Bool) (xs : List X) → ((x : X) → q x ≡ true → p x ≡ true) → count_by q (filter p xs) ≡ count_by q xs
count-filter {X} q p xs lets =
    sum-filter (λ x. cond (q x) 1 0) p xs
    ∙ sum-same (λ x. cond (p x) (cond (q x) 1 0) 0) (λ x. cond (q x) 1 0) xs (λ k x at. by_tests (p x) (q x) (lets x))
  where
    by_tests : (a b : Bool) → (b ≡ true → a ≡ true) → cond {A = ℕ} a (cond b 1 0) 0 ≡ cond b 1 0
    by_tests true b lets = refl
    by_tests false true lets = absurd (let no_way = lets refl in cc)
    by_tests false false lets = refl

-- Values that stand in lists made of other lists.
any_left : {X : Type 0} (p : X → Bool) (xs ys : List X) → list_any p xs ≡ true → list_any p (xs ++ ys) ≡ true
any_left p [] ys some = absurd cc
any_left {X} p (x ∷ xs) ys some = by_test (p x) some (any_left p xs ys)
  where
    by_test : (b : Bool) → (b || list_any p xs) ≡ true → (list_any p xs ≡ true → list_any p (xs ++ ys) ≡ true) → (b || list_any p (xs ++ ys)) ≡ true
    by_test true some rest = refl
    by_test false some rest = rest some

any_right : {X : Type 0} (p : X → Bool) (xs ys : List X) → list_any p ys ≡ true → list_any p (xs ++ ys) ≡ true
any_right p [] ys some = some
any_right {X} p (x ∷ xs) ys some = by_test (p x) (any_right p xs ys some)
  where
    by_test : (b : Bool) → list_any p (xs ++ ys) ≡ true → (b || list_any p (xs ++ ys)) ≡ true
    by_test true rest = refl
    by_test false rest = rest

any-flat_map : {X A : Type 0} (p : A → Bool) (f : X → List A) (xs : List X) (k : ℕ) (x : X) → slice_get xs k ≡ Some x → list_any p (f x) ≡ true → list_any p (flat_map f xs) ≡ true
any-flat_map p f [] k x at some = absurd cc
any-flat_map p f (y ∷ ys) zero x at some = let same : x ≡ y = cc in any_left p (f y) (flat_map f ys) (subst (λ z. list_any p (f z) ≡ true) same some)
any-flat_map p f (y ∷ ys) (suc k) x at some = any_right p (f y) (flat_map f ys) (any-flat_map p f ys k x at some)

any-map : {X A : Type 0} (p : A → Bool) (f : X → A) (xs : List X) (k : ℕ) (x : X) → slice_get xs k ≡ Some x → p (f x) ≡ true → list_any p (map f xs) ≡ true
any-map p f [] k x at passes = absurd cc
any-map p f (y ∷ ys) zero x at passes = let same : x ≡ y = cc in by_test (p (f y)) (subst (λ z. p (f z) ≡ true) same passes)
  where
    by_test : (b : Bool) → b ≡ true → (b || list_any p (map f ys)) ≡ true
    by_test true is = refl
    by_test false is = absurd cc
any-map p f (y ∷ ys) (suc k) x at passes = by_test (p (f y)) (any-map p f ys k x at passes)
  where
    by_test : (b : Bool) → list_any p (map f ys) ≡ true → (b || list_any p (map f ys)) ≡ true
    by_test true rest = refl
    by_test false rest = rest

-- a detailed task on a patch stands among the detailed tasks
pub among_details : (test : Detail → Bool) (p : Problem) (tasks : List Task) (place : ℕ) (t : Task) (i level j material h patch : ℕ) →
    slice_get tasks place ≡ Some t → slice_get t.levels i ≡ Some level → slice_get t.materials j ≡ Some material → slice_get (patches_of p level) h ≡ Some patch →
    test (OnPatch place level material patch) ≡ true → list_any test (details_of p tasks) ≡ true
among_details test p tasks place t i level j material h patch at at_level at_material at_patch passes =
    any-flat_map test (λ k. option_map_or (λ u. on_patches p k u ++ combining k u) (slice_get tasks k) []) (counted 0 (length tasks)) place place
    (counted-at (length tasks) place (within tasks place t at))
    (subst (λ (o : Option Task). list_any test (option_map_or (λ u. on_patches p place u ++ combining place u) o []) ≡ true) (sym at)
    (any_left test (on_patches p place t) (combining place t)
    (any-flat_map test (λ l. flat_map (λ m. map (OnPatch place l m) (patches_of p l)) t.materials) t.levels i level at_level
    (any-flat_map test (λ m. map (OnPatch place level m) (patches_of p level)) t.materials j material at_material
    (any-map test (OnPatch place level material) (patches_of p level) h patch at_patch passes)))))

-- The slots that a requirement reads for the patches of a level, by what it reaches.

-- how many slots a requirement reads for a patch
abbrev pub reads_for : Problem → Task → (level patch : ℕ) → Require → ℕ
reads_for p t level patch r = if is_of_number r.what then 1 else count_by (is_in_window p t r level patch) (patches_of p (wanted_level r.what level))

abbrev pub is_touched : Problem → Task → Store → What → (level patch other : ℕ) → Bool
is_touched p t at w level patch other =
    option_map_or (λ l. option_map_or (λ wanted. do_meet (owned_span (centring_of p (wanted_name w)) wanted other) (wanted_window p t at w level l patch))
    (slice_get p.levels (wanted_level w level)) false) (slice_get p.levels level) false

module _ (p : Problem) (t : Task) (level : ℕ) (below : level < length p.levels) where
  abbrev patches_in : Option Level → List ℕ
  patches_in o = counted 0 (option_map_or (λ l. length l.patches) o 0)

  -- the count, over two levels that may be there
  abbrev touched_between : Store → What → Option Level → Option Level → ℕ
  touched_between at w here there = sum_by (λ patch. count_by (λ other.
      option_map_or (λ l. option_map_or (λ wanted. do_meet (owned_span (centring_of p (wanted_name w)) wanted other) (wanted_window p t at w level l patch)) there false) here false)
      (patches_in there)) (patches_in here)

  touched_on : (at : Store) (w : What) (reach : Reach) → wanted_level w level < length p.levels → wanted_level w level ≡ reached_level reach level →
      ((l : Level) (patch : ℕ) → wanted_window p t at w level l patch ≡ reach_window p reach (centring_of p (wanted_name w)) level l patch) →
      touched_between at w (slice_get p.levels level) (slice_get p.levels (wanted_level w level)) ≡ touch_count p level reach (centring_of p (wanted_name w))
  touched_on at w reach wanted_there same_level same_window =
      let here = placed p.levels level below in
      let wanted = placed p.levels (wanted_level w level) wanted_there in
      ap (λ (o : Option Level). touched_between at w o (slice_get p.levels (wanted_level w level))) here.1
      ∙ ap (λ (o : Option Level). touched_between at w (Some here.0) o) wanted.1
      ∙ sum-same (λ patch. touched_count (centring_of p (wanted_name w)) wanted.0 (wanted_window p t at w level here.0 patch))
      (λ patch. touched_count (centring_of p (wanted_name w)) wanted.0 (reach_window p reach (centring_of p (wanted_name w)) level here.0 patch)) (counted 0 (length here.0.patches))
      (λ k patch on. ap (λ (s : Span). touched_count (centring_of p (wanted_name w)) wanted.0 s) (same_window here.0 patch))
      ∙ sym (touch_count_is p level reach (centring_of p (wanted_name w)) here.0 wanted.0 here.1 (ap (slice_get p.levels) (sym same_level) ∙ wanted.1))

  abbrev for_patches : Store → What → ℕ
  for_patches at w = sum_by (λ patch. if is_of_number w then 1
      else count_by (λ other. option_map_or (λ l. option_map_or (λ wanted. do_meet (owned_span (centring_of p (wanted_name w)) wanted other) (wanted_window p t at w level l patch))
      (slice_get p.levels (wanted_level w level)) false) (slice_get p.levels level) false) (patches_of p (wanted_level w level))) (patches_of p level)

  by_what : (at : Store) (w : What) → wanted_level w level < length p.levels →
      for_patches at w ≡ option_map_or (λ reach. touch_count p level reach (centring_of p (wanted_name w))) (reach_of t at w) (length (patches_of p level))
  by_what at (what.Same var layers) there = touched_on at (what.Same var layers) (reach.Same (seen_of t var at layers)) there refl (λ l patch. refl)
  by_what at (what.Coarse var layers) there = touched_on at (what.Coarse var layers) (reach.Coarse layers) there refl (λ l patch. refl)
  by_what at (what.Fine var) there = touched_on at (what.Fine var) reach.Fine there refl (λ l patch. refl)
  by_what at (what.Number name) there = sum-constant 1 (patches_of p level) ∙ omega arith

  -- summed over the patches of the level
  pub by_requirement : (r : Require) → wanted_level r.what level < length p.levels → sum_by (λ patch. reads_for p t level patch r) (patches_of p level) ≡ requirement_reads p t level r
  by_requirement r there = by_what r.store r.what there

-- A count that is none stays none behind a filter.
count-filter_none : {X : Type 0} (q p : X → Bool) (xs : List X) → count_by q xs ≡ 0 → count_by q (filter p xs) ≡ 0
count-filter_none {X} q p xs none =
    let less = sum_by-le-sum_by (λ x. cond (p x) (cond (q x) 1 0) 0) (λ x. cond (q x) 1 0) xs (λ x. at_most (p x) (cond (q x) 1 0)) in
    omega (arith, less, none, sum-filter (λ x. cond (q x) 1 0) p xs)
  where
    at_most : (b : Bool) (n : ℕ) → cond b n 0 ≤ n
    at_most true n = omega arith
    at_most false n = omega arith

has_coarser : (w : What) (count level : ℕ) (levels : List ℕ) → Contains levels level → (WantsMissingLevel count levels w → ⊥) → HasCoarser level w
has_coarser (what.Same var layers) count level levels runs none = tt
has_coarser (what.Coarse var layers) count zero levels runs none = absurd (none runs)
has_coarser (what.Coarse var layers) count (suc level) levels runs none = omega arith
has_coarser (what.Fine var) count level levels runs none = tt
has_coarser (what.Number name) count level levels runs none = tt

module _ (p : Problem) (form : IsProblemInForm p) (faultless : IsFaultless p) (list : ℕ) (of_two : list < 2) where
  abbrev tasks : List Task
  tasks = task_list p list

  abbrev reads_of_detail : Detail → ℕ
  reads_of_detail d = count_by (reads p tasks d) (slots_of p tasks)

  module _ (place : ℕ) (t : Task) (at : slice_get tasks place ≡ Some t) where
    there : IsTaskAt p list place t
    there = record { of_two = of_two; stands = at }

    level_below : (i level : ℕ) → slice_get t.levels i ≡ Some level → level < length p.levels
    level_below i level at_level = All-contains (λ l. l < length p.levels) t.levels level (levels_below p form faultless list place t there) (contains_at t.levels i level at_level)

    require_at : (k : ℕ) (r : Require) → slice_get t.requirements k ≡ Some r → IsRequireAt p list place t k r
    require_at k r at_line = record { task = there; stands = at_line }

    wanted_there : (i level k : ℕ) (r : Require) → slice_get t.levels i ≡ Some level → slice_get t.requirements k ≡ Some r → wanted_level r.what level < length p.levels
    wanted_there i level k r at_level at_line =
        wanted_below p faultless list place t k r (require_at k r at_line) level (contains_at t.levels i level at_level) (level_below i level at_level)

    coarser_there : (i level k : ℕ) (r : Require) → slice_get t.levels i ≡ Some level → slice_get t.requirements k ≡ Some r → HasCoarser level r.what
    coarser_there i level k r at_level at_line =
        has_coarser r.what (length p.levels) level t.levels (contains_at t.levels i level at_level)
        (λ missing. faultless r.line kind.MissingLevel (of_require list place t k r kind.MissingLevel (require_at k r at_line) missing))

    -- a detailed task on a patch
    module _ (i level j material h patch : ℕ) (at_level : slice_get t.levels i ≡ Some level) (at_material : slice_get t.materials j ≡ Some material)
        (at_patch : slice_get (patches_of p level) h ≡ Some patch) where
      reads_by_wants : (s : Slot) → reads p tasks (OnPatch place level material patch) s ≡ list_any (wants p tasks place t level material patch s) t.requirements
      reads_by_wants s = ap (λ (o : Option Task). option_map_or (λ (u : Task). list_any (wants p tasks place u level material patch s) u.requirements) o false) at

      is_read_where_wanted : (k : ℕ) (r : Require) → slice_get t.requirements k ≡ Some r → (s : Slot) → wants p tasks place t level material patch s r ≡ true → is_read p tasks s ≡ true
      is_read_where_wanted k r at_line s wanted =
          among_details (λ d. reads p tasks d s) p tasks place t i level j material h patch at at_level at_material at_patch
          (reads_by_wants s ∙ any_at (wants p tasks place t level material patch s) t.requirements k r at_line wanted)

      by_wanted : (k : ℕ) (r : Require) → slice_get t.requirements k ≡ Some r → count_by (λ s. wants p tasks place t level material patch s r) (slots_of p tasks) ≡ reads_for p t level patch r
      by_wanted k r at_line =
          sum_by-append (λ s. cond (wants p tasks place t level material patch s r) 1 0) (filter (is_read p tasks) (old_variables p ++ old_numbers p)) (flat_map (written_by tasks) (details_of p tasks))
          ∙ ap (λ n. n + count_by (λ s. wants p tasks place t level material patch s r) (flat_map (written_by tasks) (details_of p tasks)))
          (count-filter (λ s. wants p tasks place t level material patch s r) (is_read p tasks) (old_variables p ++ old_numbers p) (is_read_where_wanted k r at_line))
          ∙ wanted_once p form faultless list of_two place t material
          (All-contains (λ m. m < p.materials.value) t.materials material (materials_below p form faultless list place t there) (contains_at t.materials j material at_material))
          r.store r.what level (is_in_window p t r level patch) (is_known p faultless list place t k r (require_at k r at_line))
          (of_both (list_any (λ m. m == material) t.materials) (list_any (λ l. l == level) t.levels)
          (any_at (λ m. m == material) t.materials j material at_material (eq-eqb material material refl))
          (any_at (λ l. l == level) t.levels i level at_level (eq-eqb level level refl)))
          (wanted_there i level k r at_level at_line)
          (λ nothing. faultless r.line kind.MissingCompute (of_require list place t k r kind.MissingCompute (require_at k r at_line) nothing))

      by_detail : reads_of_detail (OnPatch place level material patch) ≡ sum_by (reads_for p t level patch) t.requirements
      by_detail =
          sum-same (λ s. cond (reads p tasks (OnPatch place level material patch) s) 1 0) (λ s. cond (list_any (wants p tasks place t level material patch s) t.requirements) 1 0) (slots_of p tasks)
          (λ k s on. ap (λ (b : Bool). cond b 1 0) (reads_by_wants s))
          ∙ count-some (λ r s. wants p tasks place t level material patch s r) t.requirements (slots_of p tasks)
          (λ a b q r s before at_a at_b first second.
          let same = repeated tasks place material level q.store r.store q.what r.what (is_in_window p t q level patch) (is_in_window p t r level patch) s
          (coarser_there i level a q at_level at_a) (coarser_there i level b r at_level at_b) first second in
          never_repeats p faultless list place t there a b q r before at_a at_b (record { store = same.0; relation = same.1; name = same.2 }))
          ∙ sum-same (λ r. count_by (λ s. wants p tasks place t level material patch s r) (slots_of p tasks)) (reads_for p t level patch) t.requirements by_wanted

    -- the detailed tasks of a task on patches
    by_patches : sum_by reads_of_detail (on_patches p place t) ≡ patch_reads p t
    by_patches =
        sum-on_patches reads_of_detail p place t
        ∙ sum-same (λ level. sum_by (λ material. sum_by (λ patch. reads_of_detail (OnPatch place level material patch)) (patches_of p level)) t.materials)
        (level_reads p t) t.levels
        (λ i level at_level.
        sum-same (λ material. sum_by (λ patch. reads_of_detail (OnPatch place level material patch)) (patches_of p level)) (λ material. sum_by (requirement_reads p t level) t.requirements) t.materials
        (λ j material at_material.
        sum-same (λ patch. reads_of_detail (OnPatch place level material patch)) (λ patch. sum_by (reads_for p t level patch) t.requirements) (patches_of p level)
        (λ h patch at_patch. by_detail i level j material h patch at_level at_material at_patch)
        ∙ sum-exchange (λ patch r. reads_for p t level patch r) (patches_of p level) t.requirements
        ∙ sum-same (λ r. sum_by (λ patch. reads_for p t level patch r) (patches_of p level)) (requirement_reads p t level) t.requirements
        (λ k r at_line. by_requirement p t level (level_below i level at_level) r (wanted_there i level k r at_level at_line)))
        ∙ sum-constant (sum_by (requirement_reads p t level) t.requirements) t.materials
        ∙ sym (sum-times (length t.materials) (requirement_reads p t level) t.requirements))

    -- and those that combine
    by_parts : (line : ℕ) (w : Write) → slice_get t.writes line ≡ Some w → is_reduces w.kind ≡ true → reads_of_detail (Combining place line) ≡ length (on_patches p place t)
    by_parts line w at_line reducing =
        sum_by-append (λ s. cond (is_part_of place line s) 1 0) (filter (is_read p tasks) (old_variables p ++ old_numbers p)) (flat_map (written_by tasks) (details_of p tasks))
        ∙ omega (
          arith,
          parts_once p tasks place line t w at at_line reducing,
          count-filter_none (is_part_of place line) (is_read p tasks) (old_variables p ++ old_numbers p)
              (let none_of_variables = no_old_variable (is_part_of place line) p (λ n l m patch. refl) in
              let none_of_numbers = no_old_number (is_part_of place line) p (λ n. refl) in
              omega (arith, none_of_variables, none_of_numbers, count-olds (is_part_of place line) p)),
        )

    by_combining : sum_by reads_of_detail (combining place t) ≡ part_reads p t
    by_combining =
        sum-combining reads_of_detail place t
        ∙ by_place-same t.writes (λ line w. cond (is_reduces w.kind) (reads_of_detail (Combining place line)) 0) (λ line w. cond (is_reduces w.kind) (length (on_patches p place t)) 0)
        (λ line w at_line. by_test (is_reduces w.kind) (reads_of_detail (Combining place line)) (length (on_patches p place t)) (by_parts line w at_line))
        ∙ by_place-sum (λ (w : Write). cond (is_reduces w.kind) (length (on_patches p place t)) 0) t.writes
        ∙ sum-each (λ (w : Write). is_reduces w.kind) (λ (w : Write). cond (is_reduces w.kind) (length (on_patches p place t)) 0) (length (on_patches p place t)) t.writes (λ line w at_line. refl)
        ∙ ap (λ n. count_by (λ (w : Write). is_reduces w.kind) t.writes * n) (length-on_patches p place t)
      where
        by_test : (b : Bool) (m n : ℕ) → (b ≡ true → m ≡ n) → cond b m 0 ≡ cond b n 0
        by_test true m n same = same refl
        by_test false m n same = refl

  -- the pairs of a detailed task and a slot that it reads, task by task
  pub read_count_is : read_count p tasks ≡ sum_by (task_reads p) tasks
  read_count_is =
      sum-details reads_of_detail p tasks
      ∙ by_place-same tasks (λ place t. sum_by reads_of_detail (on_patches p place t) + sum_by reads_of_detail (combining place t)) (λ place t. task_reads p t)
      (λ place t at. ap (λ n. n + sum_by reads_of_detail (combining place t)) (by_patches place t at) ∙ ap (λ n. patch_reads p t + n) (by_combining place t at))
      ∙ by_place-sum (task_reads p) tasks
