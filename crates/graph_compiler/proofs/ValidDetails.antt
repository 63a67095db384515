-- Detailed tasks stand in order, and each slot that they write has one writer.
use Rattle.std.proofs.Common.{◌≡◌, ◌∙◌, ◌<◌, ◌≤◌, ◌⊎◌, inl, inr, ℕ, List, [], ◌∷◌, ◌++◌, true, false, Some, length, map, get_or, ap, sym, refl, arith, subst, eqb-true, eq-eqb}
use Rattle.std.specs.Prelude.{slice_get, ◌==◌, ◌&&◌, All, filter}
use Rattle.std.specs.List.{AllPairs, count_by, flat_map, list_any}
use Rattle.std.specs.List.Sorted.{IsStrictlyIncreasing}
use Rattle.std.specs.Option.{option_map_or}
use Rattle.std.proofs.lemmas.Bool.{and_parts, cases_order, false_from_ne_true}
use Rattle.std.proofs.lemmas.List.Elements.{All-nil, All-cons, All-append, All-map}
use Rattle.std.proofs.lemmas.List.Folds.{list_any_at}
use Rattle.std.proofs.lemmas.List.Kept.{AllPairs-filter, AllPairs-from_increasing}
use Rattle.uts_geom.specs.Spans.{counted}
use Rattle.uts_geom.specs.Lists.{all_at, at_place}
use Rattle.problem_types.specs.Lists.{is_reduces}
use Rattle.problem_types.specs.declared.problem.Problem.{Problem}
use Rattle.problem_types.specs.declared.problem.Task.{Task}
use Rattle.problem_types.specs.declared.problem.Write.{Write}
use Rattle.problem_types.specs.declared.problem.WriteKind.{WriteKind}
use Rattle.problem_types.specs.declared.problem.WriteKind.TheVariants as kind
use Rattle.task_check.specs.Plan.{Detail, OnPatch, Combining, Slot, Old, OldNumber, New, Part, Number, patches_of, line_is, on_patches, combining, details_of, slot_written, written_by}
use Rattle.graph_compiler.specs.Plan.{is_same, is_writing, is_old}
use Rattle.graph_compiler.proofs.ValidLists.{count-none, count-one, counted-rises}
use Rattle.graph_compiler.proofs.ValidOrders.{all-flat_map, all-option, at_places, ordered-append, ordered-option, ordered-map, ordered-flat_map, ordered-weaker}

-- The order of detailed tasks: by task, level, material and patch, and behind those on patches the ones that combine, by line.
abbrev pub Before : Detail → Detail → Type 0
Before (OnPatch t l m q) (OnPatch u k n r) = (t < u) ⊎ ((t ≡ u) × ((l < k) ⊎ ((l ≡ k) × ((m < n) ⊎ ((m ≡ n) × (q < r))))))
Before (OnPatch t l m q) (Combining u k) = t ≤ u
Before (Combining t l) (OnPatch u k n r) = t < u
Before (Combining t l) (Combining u k) = (t < u) ⊎ ((t ≡ u) × (l < k))

-- the place of the task
abbrev pub task_of : Detail → ℕ
task_of (OnPatch t l m q) = t
task_of (Combining t l) = t

before_by_task : (d e : Detail) → task_of d < task_of e → Before d e
before_by_task (OnPatch t l m q) (OnPatch u k n r) less = inl less
before_by_task (OnPatch t l m q) (Combining u k) less = omega arith
before_by_task (Combining t l) (OnPatch u k n r) less = less
before_by_task (Combining t l) (Combining u k) less = inl less

pub not_itself : (d : Detail) → Before d d → ⊥
not_itself (OnPatch t l m q) (inl less) = omega arith
not_itself (OnPatch t l m q) (inr (same, inl less)) = omega arith
not_itself (OnPatch t l m q) (inr (same, inr (also, inl less))) = omega arith
not_itself (OnPatch t l m q) (inr (same, inr (also, inr (too, less)))) = omega arith
not_itself (Combining t l) (inl less) = omega arith
not_itself (Combining t l) (inr (same, less)) = omega arith

-- the first stands before the second, wherever both stand
pub record Precedes (d e : Detail) : Type 0 where
  pub not_after : Before e d → ⊥
  pub differs : d ≡ e → ⊥

pub precedes_by_task : (d e : Detail) → task_of d < task_of e → Precedes d e
precedes_by_task d e less = record {
  not_after = not_after d e less;
  differs = λ same. let alike = ap task_of same in omega (arith, less, alike);
}
  where
    not_after : (d e : Detail) → task_of d < task_of e → Before e d → ⊥
    not_after (OnPatch t l m q) (OnPatch u k n r) less (inl back) = omega arith
    not_after (OnPatch t l m q) (OnPatch u k n r) less (inr (same, rest)) = omega arith
    not_after (OnPatch t l m q) (Combining u k) less back = omega arith
    not_after (Combining t l) (OnPatch u k n r) less back = omega arith
    not_after (Combining t l) (Combining u k) less (inl back) = omega arith
    not_after (Combining t l) (Combining u k) less (inr (same, rest)) = omega arith

pub parts_precede : (t l m q line : ℕ) → Precedes (OnPatch t l m q) (Combining t line)
parts_precede t l m q line = record { not_after = λ back. omega (arith, back); differs = λ same. cc }

-- what detailed tasks in order keep
module _ (ds : List Detail) (pairs : AllPairs Before ds) where
  pub in_order : (i j : ℕ) (d e : Detail) → slice_get ds i ≡ Some d → slice_get ds j ≡ Some e → Precedes d e → i < j
  in_order i j d e at_i at_j precedes = by_order (cases_order i j)
    where
      by_order : (i ≡ j) ⊎ ((i < j) ⊎ (j < i)) → i < j
      by_order (inl same) = absurd (precedes.differs (let there : slice_get ds i ≡ Some e = ap (slice_get ds) same ∙ at_j in cc))
      by_order (inr (inl before)) = before
      by_order (inr (inr after)) = absurd (precedes.not_after (at_places Before ds pairs j i e d after at_j at_i))

  pub once : (i j : ℕ) (d : Detail) → slice_get ds i ≡ Some d → slice_get ds j ≡ Some d → i ≡ j
  once i j d at_i at_j = by_order (cases_order i j)
    where
      by_order : (i ≡ j) ⊎ ((i < j) ⊎ (j < i)) → i ≡ j
      by_order (inl same) = same
      by_order (inr (inl before)) = absurd (not_itself d (at_places Before ds pairs i j d d before at_i at_j))
      by_order (inr (inr after)) = absurd (not_itself d (at_places Before ds pairs j i d d after at_j at_i))

-- The detailed tasks of a list stand in order, where the levels and the materials of each task ascend.
module _ (p : Problem) where
  below : (n : ℕ) → AllPairs (λ i j. i < j) (counted 0 n)
  below n = AllPairs-from_increasing (counted 0 n) (counted-rises n)

  patches_rise : (level : ℕ) → AllPairs (λ i j. i < j) (patches_of p level)
  patches_rise level = below (option_map_or (λ l. length l.patches) (slice_get p.levels level) 0)

  module _ (place : ℕ) where
    abbrev patches_in : (level material : ℕ) → List Detail
    patches_in level material = map (OnPatch place level material) (patches_of p level)

    abbrev materials_in : (materials : List ℕ) (level : ℕ) → List Detail
    materials_in materials level = flat_map (patches_in level) materials

    -- what holds of each one on a patch
    every_in_patches : (P : Detail → Type 0) (level material : ℕ) → ((q : ℕ) → P (OnPatch place level material q)) → All P (patches_in level material)
    every_in_patches P level material holds = All-map P (OnPatch place level material) (patches_of p level) (λ i q on. holds (get_or (patches_of p level) i q))

    every_in_materials : (P : Detail → Type 0) (materials : List ℕ) (level : ℕ) → ((m q : ℕ) → P (OnPatch place level m q)) → All P (materials_in materials level)
    every_in_materials P materials level holds =
        all-flat_map P (patches_in level) materials (λ i m on. every_in_patches P level (get_or materials i m) (holds (get_or materials i m)))

    every_on_patches : (P : Detail → Type 0) (t : Task) → ((l m q : ℕ) → P (OnPatch place l m q)) → All P (on_patches p place t)
    every_on_patches P t holds =
        all-flat_map P (materials_in t.materials) t.levels (λ i l on. every_in_materials P t.materials (get_or t.levels i l) (holds (get_or t.levels i l)))

    abbrev lines_of : Task → List ℕ
    lines_of t = filter (line_is t.writes (λ w. is_reduces w.kind)) (counted 0 (length t.writes))

    every_combining : (P : Detail → Type 0) (t : Task) → ((line : ℕ) → P (Combining place line)) → All P (combining place t)
    every_combining P t holds = All-map P (Combining place) (lines_of t) (λ i line on. holds (get_or (lines_of t) i line))

    -- those on patches
    ordered_patches : (level material : ℕ) → AllPairs Before (patches_in level material)
    ordered_patches level material = ordered-map Before (OnPatch place level material) (patches_of p level)
        (ordered-weaker (λ q r. q < r) (λ q r. Before (OnPatch place level material q) (OnPatch place level material r)) (patches_of p level)
        (λ q r less. inr (refl, inr (refl, inr (refl, less)))) (patches_rise level))

    ordered_materials : (materials : List ℕ) → IsStrictlyIncreasing materials → (level : ℕ) → AllPairs Before (materials_in materials level)
    ordered_materials materials rise level =
        ordered-flat_map (λ m n. m < n) Before (patches_in level) materials (AllPairs-from_increasing materials rise) (ordered_patches level)
        (λ m n less. every_in_patches (λ d. All (Before d) (patches_in level n)) level m (λ q.
        every_in_patches (Before (OnPatch place level m q)) level n (λ r. inr (refl, inr (refl, inl less)))))

    ordered_on_patches : (t : Task) → IsStrictlyIncreasing t.levels → IsStrictlyIncreasing t.materials → AllPairs Before (on_patches p place t)
    ordered_on_patches t levels_rise materials_rise =
        ordered-flat_map (λ k l. k < l) Before (materials_in t.materials) t.levels
        (AllPairs-from_increasing t.levels levels_rise) (ordered_materials t.materials materials_rise)
        (λ k l less. every_in_materials (λ d. All (Before d) (materials_in t.materials l)) t.materials k (λ m q.
        every_in_materials (Before (OnPatch place k m q)) t.materials l (λ n r. inr (refl, inl less))))

    ordered_combining : (t : Task) → AllPairs Before (combining place t)
    ordered_combining t =
        ordered-map Before (Combining place) (lines_of t)
        (ordered-weaker (λ i j. i < j) (λ i j. Before (Combining place i) (Combining place j)) (lines_of t)
        (λ i j less. inr (refl, less))
        (AllPairs-filter (λ i j. i < j) (line_is t.writes (λ w. is_reduces w.kind)) (counted 0 (length t.writes)) (below (length t.writes))))

    combine_behind : (t : Task) → All (λ d. All (Before d) (combining place t)) (on_patches p place t)
    combine_behind t = every_on_patches (λ d. All (Before d) (combining place t)) t (λ l m q.
        every_combining (Before (OnPatch place l m q)) t (λ line. let e : place ≤ place = omega arith in e))

    abbrev details_in : Task → List Detail
    details_in t = on_patches p place t ++ combining place t

    of_task : (t : Task) → All (λ d. task_of d ≡ place) (details_in t)
    of_task t = All-append (λ d. task_of d ≡ place) (on_patches p place t) (combining place t)
        (every_on_patches (λ d. task_of d ≡ place) t (λ l m q. refl)) (every_combining (λ d. task_of d ≡ place) t (λ line. refl))

    ordered_in : (t : Task) → IsStrictlyIncreasing t.levels → IsStrictlyIncreasing t.materials → AllPairs Before (details_in t)
    ordered_in t levels_rise materials_rise =
        ordered-append Before (on_patches p place t) (combining place t) (ordered_on_patches t levels_rise materials_rise) (ordered_combining t) (combine_behind t)

  module _ (tasks : List Task) where
    abbrev details_at : ℕ → List Detail
    details_at place = option_map_or (details_in place) (slice_get tasks place) []

    of_task_at : (place : ℕ) → All (λ d. task_of d ≡ place) (details_at place)
    of_task_at place = all-option (λ d. task_of d ≡ place) (details_in place) (slice_get tasks place) (λ t at. of_task place t)

    pub ordered_details : ((place : ℕ) (t : Task) → slice_get tasks place ≡ Some t → IsStrictlyIncreasing t.levels × IsStrictlyIncreasing t.materials) →
        AllPairs Before (details_of p tasks)
    ordered_details rise =
        ordered-flat_map (λ i j. i < j) Before details_at (counted 0 (length tasks)) (below (length tasks))
        (λ place. ordered-option Before (details_in place) (slice_get tasks place) (λ t at. ordered_in place t (rise place t at).0 (rise place t at).1))
        (λ i j less k d under h e within. before_by_task (get_or (details_at i) k d) (get_or (details_at j) h e)
        (let first = of_task_at i k d under in let second = of_task_at j h e within in omega (arith, less, first, second)))

-- Who writes a slot.
abbrev pub IsBy : Slot → Detail → Type 0
IsBy (Old name level material patch) d = ⊥
IsBy (OldNumber name) d = ⊥
IsBy (New task line level material patch) d = d ≡ OnPatch task level material patch
IsBy (Part task line level material patch) d = d ≡ OnPatch task level material patch
IsBy (Number task line) d = d ≡ Combining task line

pub one_writer : (s : Slot) (d e : Detail) → IsBy s d → IsBy s e → d ≡ e
one_writer (Old name level material patch) d e first second = absurd first
one_writer (OldNumber name) d e first second = absurd first
one_writer (New task line level material patch) d e first second = first ∙ sym second
one_writer (Part task line level material patch) d e first second = first ∙ sym second
one_writer (Number task line) d e first second = first ∙ sym second

none_writes_old : (s : Slot) (d : Detail) → is_old s ≡ true → IsBy s d → ⊥
none_writes_old (Old name level material patch) d old by = by
none_writes_old (OldNumber name) d old by = by
none_writes_old (New task line level material patch) d old by = cc
none_writes_old (Part task line level material patch) d old by = cc
none_writes_old (Number task line) d old by = cc

written_is_new : (s : Slot) (d : Detail) → IsBy s d → is_old s ≡ false
written_is_new (Old name level material patch) d by = absurd by
written_is_new (OldNumber name) d by = absurd by
written_is_new (New task line level material patch) d by = refl
written_is_new (Part task line level material patch) d by = refl
written_is_new (Number task line) d by = refl

two_same : (a b c d : ℕ) → ((a == b) && (c == d)) ≡ true → (a ≡ b) × (c ≡ d)
two_same a b c d same = let two = and_parts (a == b) (c == d) same in (eqb-true a b two.0, eqb-true c d two.1)

pub same_is : (s x : Slot) → is_same s x ≡ true → s ≡ x
same_is (Old a b c d) (Old e f g h) same =
    let first = and_parts (a == e) ((b == f) && ((c == g) && (d == h))) same in
    let second = and_parts (b == f) ((c == g) && (d == h)) first.1 in
    let third = two_same c g d h second.1 in
    let p : a ≡ e = eqb-true a e first.0 in
    let q : b ≡ f = eqb-true b f second.0 in
    let r : c ≡ g = third.0 in
    let s : d ≡ h = third.1 in
    cc
same_is (OldNumber a) (OldNumber e) same = ap OldNumber (eqb-true a e same)
same_is (New a b c d i) (New e f g h j) same =
    let first = and_parts (a == e) ((b == f) && ((c == g) && ((d == h) && (i == j)))) same in
    let second = and_parts (b == f) ((c == g) && ((d == h) && (i == j))) first.1 in
    let third = and_parts (c == g) ((d == h) && (i == j)) second.1 in
    let fourth = two_same d h i j third.1 in
    let p : a ≡ e = eqb-true a e first.0 in
    let q : b ≡ f = eqb-true b f second.0 in
    let r : c ≡ g = eqb-true c g third.0 in
    let s : d ≡ h = fourth.0 in
    let t : i ≡ j = fourth.1 in
    cc
same_is (Part a b c d i) (Part e f g h j) same =
    let first = and_parts (a == e) ((b == f) && ((c == g) && ((d == h) && (i == j)))) same in
    let second = and_parts (b == f) ((c == g) && ((d == h) && (i == j))) first.1 in
    let third = and_parts (c == g) ((d == h) && (i == j)) second.1 in
    let fourth = two_same d h i j third.1 in
    let p : a ≡ e = eqb-true a e first.0 in
    let q : b ≡ f = eqb-true b f second.0 in
    let r : c ≡ g = eqb-true c g third.0 in
    let s : d ≡ h = fourth.0 in
    let t : i ≡ j = fourth.1 in
    cc
same_is (Number a b) (Number e f) same =
    let both = two_same a e b f same in
    let p : a ≡ e = both.0 in
    let q : b ≡ f = both.1 in
    cc
same_is s x same = absurd cc

itself : (n : ℕ) → (n == n) ≡ true
itself n = eq-eqb n n refl

pub same_itself : (s : Slot) → is_same s s ≡ true
same_itself (Old a b c d) = rw (itself a, itself b, itself c, itself d) refl
same_itself (OldNumber a) = itself a
same_itself (New a b c d e) = rw (itself a, itself b, itself c, itself d, itself e) refl
same_itself (Part a b c d e) = rw (itself a, itself b, itself c, itself d, itself e) refl
same_itself (Number a b) = rw (itself a, itself b) refl

module _ (tasks : List Task) where
  of_line : (task line level material patch : ℕ) (k : WriteKind) → IsBy (slot_written k task line level material patch) (OnPatch task level material patch)
  of_line task line level material patch kind.Computes = refl
  of_line task line level material patch kind.Modifies = refl
  of_line task line level material patch (kind.Reduces c) = refl

  module _ (task level material patch : ℕ) where
    abbrev is_by_it : Slot → Type 0
    is_by_it s = IsBy s (OnPatch task level material patch)

    abbrev written_in_line : ℕ → Write → List Slot
    written_in_line line w = slot_written w.kind task line level material patch ∷ []

    abbrev written_in_task : ℕ → Task → List Slot
    written_in_task line t = option_map_or (written_in_line line) (slice_get t.writes line) []

    abbrev written_at : ℕ → List Slot
    written_at line = option_map_or (written_in_task line) (slice_get tasks task) []

    line_is_by : (line : ℕ) → All is_by_it (written_at line)
    line_is_by line =
        all-option is_by_it (written_in_task line) (slice_get tasks task) (λ t at.
        all-option is_by_it (written_in_line line) (slice_get t.writes line) (λ w there.
        All-cons is_by_it (slot_written w.kind task line level material patch) [] (of_line task line level material patch w.kind) (All-nil is_by_it)))

    all_by : (lines : List ℕ) → All is_by_it (flat_map written_at lines)
    all_by lines = all-flat_map is_by_it written_at lines (λ i line on. line_is_by (get_or lines i line))

  pub written_is_by : (d : Detail) → All (λ s. IsBy s d) (written_by tasks d)
  written_is_by (OnPatch task level material patch) = all_by task level material patch (counted 0 (option_map_or (λ t. length t.writes) (slice_get tasks task) 0))
  written_is_by (Combining task line) = All-cons (λ s. IsBy s (Combining task line)) (Number task line) [] refl (All-nil (λ s. IsBy s (Combining task line)))

  pub writer_is : (d : Detail) (s : Slot) → is_writing tasks d s ≡ true → IsBy s d
  writer_is d s writing =
      let there = at_place (is_same s) (written_by tasks d) writing in
      subst (λ (x : Slot). IsBy x d) (sym (same_is s there.1 there.3)) (all_at (λ x. IsBy x d) (written_by tasks d) there.0 there.1 there.2 (written_is_by d))

  pub old_unwritten : (s : Slot) → is_old s ≡ true → (ds : List Detail) → count_by (λ d. is_writing tasks d s) ds ≡ 0
  old_unwritten s old ds = count-none (λ d. is_writing tasks d s) ds (λ k d at. false_from_ne_true (is_writing tasks d s) (λ writing. none_writes_old s d old (writer_is d s writing)))

  module _ (ds : List Detail) where
    -- each slot that is written has a writer
    some_writer : All (λ s. list_any (λ d. is_writing tasks d s) ds ≡ true) (flat_map (written_by tasks) ds)
    some_writer = all-flat_map (λ s. list_any (λ d. is_writing tasks d s) ds ≡ true) (written_by tasks) ds (λ i d under. λ j s within.
        list_any_at (λ e. is_writing tasks e (get_or (written_by tasks (get_or ds i d)) j s)) ds i d under
        (list_any_at (is_same (get_or (written_by tasks (get_or ds i d)) j s)) (written_by tasks (get_or ds i d)) j s within
        (same_itself (get_or (written_by tasks (get_or ds i d)) j s))))

    pub written_are_new : All (λ s. is_old s ≡ false) (flat_map (written_by tasks) ds)
    written_are_new = all-flat_map (λ s. is_old s ≡ false) (written_by tasks) ds (λ i d under. λ j s within.
        written_is_new (get_or (written_by tasks (get_or ds i d)) j s) (get_or ds i d) (written_is_by (get_or ds i d) j s within))

    -- and one only
    pub written_once : AllPairs Before ds → (k : ℕ) (s : Slot) → slice_get (flat_map (written_by tasks) ds) k ≡ Some s → count_by (λ d. is_writing tasks d s) ds ≡ 1
    written_once pairs k s at =
        let some = all_at (λ x. list_any (λ d. is_writing tasks d x) ds ≡ true) (flat_map (written_by tasks) ds) k s at some_writer in
        let writer = at_place (λ d. is_writing tasks d s) ds some in
        count-one (λ d. is_writing tasks d s) ds writer.0 writer.1 writer.2 writer.3 (λ j e there also.
        let same = one_writer s e writer.1 (writer_is e s also) (writer_is writer.1 s writer.3) in
        once ds pairs j writer.0 writer.1 (there ∙ ap Some same) writer.2)
