-- A read of a kernel gives, in the part of the requirement that supplies it, the number of the definition.
use Rattle.std.proofs.Common.{◌≡◌, ◌∙◌, ℕ, zero, suc, ℤ, pos, negsuc, ◌+◌, ◌<◌, ◌≤◌, ◌⊎◌, inl, inr, Bool, true, false, List, length, map, refl, sym, ap, subst, arith}
use Rattle.std.specs.Prelude.{All, Contains, ◌&&◌, if◌then◌else◌, nat_abs, slice_index}
use Rattle.std.specs.List.{filter}
use Rattle.std.specs.Option.{option_map_or}
use Rattle.std.proofs.lemmas.Int.{ints}
use Rattle.std.proofs.lemmas.List.{length-map}
use Rattle.std.proofs.lemmas.List.Elements.{All-contains, All-filter, All-weaker, filter_agree}
use Rattle.uts_geom.specs.Spans.{index, is_between, is_inside}
use Rattle.uts_geom.specs.declared.centring.Centring.{Centring}
use Rattle.uts_geom.specs.declared.index.Index.{Index}
use Rattle.uts_geom.specs.declared.span.Span.{Span}
use Rattle.kernel_ast.specs.Form.{is_fine}
use Rattle.kernel_ast.specs.declared.expression.Store.{Store}
use Rattle.kernel_ast.specs.declared.expression.How.{How}
use Rattle.kernel_ast.specs.declared.expression.How.TheVariants as how
use Rattle.kernel_ast.specs.declared.expression.Read.{Read}
use Rattle.problem_types.specs.Levels.{HasNearBounds, IsProper, cells_of}
use Rattle.problem_types.specs.Lists.{centring_of}
use Rattle.problem_types.specs.Regions.{children_of, coarse_index, end_of, is_in_space, moved, offset_of, ratio_of}
use Rattle.problem_types.specs.declared.problem.Ghost.{Ghost}
use Rattle.problem_types.specs.declared.problem.Problem.{Problem}
use Rattle.problem_types.specs.declared.problem.Level.{Level}
use Rattle.problem_types.specs.declared.problem.Require.{Require}
use Rattle.problem_types.specs.declared.problem.Task.{Task}
use Rattle.problem_types.specs.declared.problem.What.{What}
use Rattle.problem_types.specs.declared.problem.What.TheVariants as what
use Rattle.grid_levels.specs.Good.{HasMultiples}
use Rattle.patch_regions.specs.Regions.{owned_span, patch_at}
use Rattle.ghost_rules.specs.Laws.{OffsetsFitWindows}
use Rattle.ghost_rules.specs.Windows.{is_offset_allowed}
use Rattle.ghost_rules.specs.declared.seen.Seen.{Seen}
use Rattle.ghost_rules.specs.declared.seen.Seen.TheVariants as sees
use Rattle.ghost_gather.specs.Windows.{number_seen}
use Rattle.task_rules.specs.Lines.{wanted_level, wanted_name}
use Rattle.task_rules.specs.Names.{WantsMissingLevel}
use Rattle.task_check.specs.Bounds.{IsBoundedRequire}
use Rattle.task_check.specs.Laws.{AcceptedProblemsAreBounded}
use Rattle.task_check.specs.Plan.{Slot, is_of_number, refined, wanted_window, window_seen}
use Rattle.task_check.specs.Supplies.{Covers, seen_of}
use Rattle.refine_coarsen.specs.FineFolds.{fine_fold_of, folded, number_within}
use Rattle.refine_coarsen.specs.Levels.{children_at}
use Rattle.kernel_eval.specs.Environments.{fine_number, is_near, is_ratio, is_read_in, number_in_part}
use Rattle.kernel_eval.specs.declared.part.Part.{Part}
use Rattle.uts_model.specs.WholeField.{number_read}
use Rattle.slot_contents.specs.Contents.{stood}
use Rattle.slot_contents.specs.Laws.{IsTaskOf, RunsAt, OutsideStandsOutside, WindowsAreCovered}
use Rattle.run_task.specs.Gathered.{HasSeen, IsPartOf, form_of, ratio_wanted, slots_read}
use Rattle.run_task.specs.declared.work.Site.{Site}
use Rattle.run_task.proofs.Children.{children_inside}
use Rattle.run_task.proofs.Offsets.{axes_of_inside, bounds_of, inside_on_axes, reads_among_coarse, reads_among_layers, reads_among_own}
use Rattle.run_task.proofs.Lists.{same_maps, there_at}
use Rattle.run_task.proofs.TasksAtSites.{IsLaid, level_bounded, patch_proper, task_bounded}
use Rattle.run_task.proofs.WholeWindows.{detail_at, is_as_stood, space_is}

-- ---- numbers and forms

ratio_passes : (n : ℕ) → (n ≡ 2) ⊎ (n ≡ 4) → is_ratio (pos n) ≡ true
ratio_passes n (inl two) = rw two refl
ratio_passes n (inr four) = rw four refl

below_bound : (low high a : ℕ) → a < high → is_between (negsuc low) (pos high) (pos a) ≡ true
below_bound low high a below = grind (arith, ints)

near_on_axis : (low high : ℕ) (reaches : Bool) (n : ℤ) → high ≤ 4096 → is_between (pos low) (end_of reaches high) n ≡ true → is_between (negsuc 65535) (pos 65537) n ≡ true
near_on_axis low high reaches (negsuc a) near runs = absurd (cc)
near_on_axis low high true (pos a) near runs = let at = bounds_of low (high + 1) a runs in below_bound 65535 65537 a (omega (arith, at.1))
near_on_axis low high false (pos a) near runs = let at = bounds_of low high a runs in below_bound 65535 65537 a (omega (arith, at.1))

-- an index that a patch owns is near
owned_is_near : (l : Level) (patch : ℕ) (c : Centring) (i : Index) → HasNearBounds (patch_at l patch) → is_inside (owned_span c l patch) i ≡ true → is_near i ≡ true
owned_is_near l patch c i near owned =
    let q = patch_at l patch in
    let on = axes_of_inside (owned_span c l patch) i owned in
    inside_on_axes (record { lo = index (negsuc 65535) (negsuc 65535) (negsuc 65535); hi = index (pos 65537) (pos 65537) (pos 65537) }) i (record {
      x = near_on_axis (slice_index q.lo 0) (slice_index q.hi 0) _ i.x (near 0 (omega arith)).1 on.x;
      y = near_on_axis (slice_index q.lo 1) (slice_index q.hi 1) _ i.y (near 1 (omega arith)).1 on.y;
      z = near_on_axis (slice_index q.lo 2) (slice_index q.hi 2) _ i.z (near 2 (omega arith)).1 on.z;
    })

fine_in_part : (part : Part) (h : How) (by : List ℤ) (i : Index) → is_fine h ≡ true → number_in_part part h by i ≡ fine_number part h i
fine_in_part part how.FineSum by i fine = refl
fine_in_part part how.FineMin by i fine = refl
fine_in_part part how.FineMax by i fine = refl
fine_in_part part how.FineCount by i fine = refl
fine_in_part part h by i fine = absurd (cc)

-- the four folds of the definition
folded_is : (p : Problem) (field : ℕ → Index → ℤ) (r : Read) (level : ℕ) (i : Index) (h : How) → is_fine h ≡ true →
    number_read p field r level i h ≡ folded h (map (field (level + 1)) (children_of p level (centring_of p r.name) i))
folded_is p field r level i how.FineSum fine = refl
folded_is p field r level i how.FineMin fine = refl
folded_is p field r level i how.FineMax fine = refl
folded_is p field r level i how.FineCount fine =
    ap (λ (n : ℕ). pos n) (sym (length-map (children_of p level (centring_of p r.name) i) (field (level + 1))))
folded_is p field r level i h fine = absurd (cc)

-- what a requirement that covers a read is
pub covers_tells : (p : Problem) (t : Task) (kernel : Centring) (r : Read) (h : How) (w : What) → Covers p t kernel r h w →
    (is_of_number w ≡ false) × (is_read_in h (form_of w) ≡ true) × (wanted_name w ≡ r.name)
covers_tells p t kernel r how.Same (what.Same var layers) covers = (refl, refl, covers.0)
covers_tells p t kernel r how.Coarse (what.Coarse var layers) covers = (refl, refl, covers.0)
covers_tells p t kernel r how.FineSum (what.Fine var) covers = (refl, refl, covers.1)
covers_tells p t kernel r how.FineMin (what.Fine var) covers = (refl, refl, covers.1)
covers_tells p t kernel r how.FineMax (what.Fine var) covers = (refl, refl, covers.1)
covers_tells p t kernel r how.FineCount (what.Fine var) covers = (refl, refl, covers.1)
covers_tells p t kernel r how.Same (what.Fine var) covers = absurd (let no : false ≡ true = covers.0 in cc)
covers_tells p t kernel r how.Coarse (what.Fine var) covers = absurd (let no : false ≡ true = covers.0 in cc)
covers_tells p t kernel r h w covers = absurd covers

-- ---- a task at a site, its kernel at an index, and the part of a requirement

module _ (bounds : AcceptedProblemsAreBounded) (fit : OffsetsFitWindows) (covered : WindowsAreCovered) (outside : OutsideStandsOutside) (p : Problem) (t : Task)
    (site : Site) (seen : List Slot) (is : IsTaskOf p site.step site.task t) (runs : RunsAt p t site.level site.material site.patch)
    (all : seen ≡ slots_read p site.step (detail_at site)) (l : Level) (laid : IsLaid p site.level site.patch l) (kernel : Centring) (i : Index)
    (owned : is_inside (owned_span kernel l site.patch) i ≡ true) (r : Read) (q : Require) (has : Contains t.requirements q) (at_store : q.store ≡ r.store)
    (variable : is_of_number q.what ≡ false) (part : Part) (part_is : IsPartOf p t site q part) (has_seen : HasSeen p site seen q part) where
  abbrev field : ℕ → Index → ℤ
  field level j = (stood p site.step site.task r.store).field r.name site.material level j

  required : IsBoundedRequire p t q
  required = All-contains (IsBoundedRequire p t) t.requirements q (task_bounded bounds p site.step site.task t is).requirements has

  proper : IsProper (patch_at l site.patch)
  proper = patch_proper p site.level site.patch l laid

  module _ (w : What) (what_is : q.what ≡ w) (name_is : wanted_name w ≡ r.name) where
    span_is : part.window.span ≡ wanted_window p t r.store w site.level l site.patch
    span_is =
        part_is.span l laid.stands ∙ ap (λ (s : Store). wanted_window p t s q.what site.level l site.patch) at_store
        ∙ ap (λ (v : What). wanted_window p t r.store v site.level l site.patch) what_is

    -- the window has what stood before the task where the requirement wants it
    as_stood : (j : Index) → is_inside (wanted_window p t r.store w site.level l site.patch) j ≡ true → number_within part.window j ≡ field (wanted_level w site.level) j
    as_stood j inside =
        let in_span : is_inside part.window.span j ≡ true = subst (λ (s : Span). is_inside s j ≡ true) (sym span_is) inside in
        ap (λ (b : Bool). if b then number_seen part.window j else pos 0) in_span
        ∙ is_as_stood p t site q part part_is covered outside seen is runs all l laid.stands has variable has_seen j in_span
        ∙ ap (λ (s : Store). (stood p site.step site.task s).field (wanted_name q.what) site.material (wanted_level q.what site.level) j) at_store
        ∙ ap (λ (v : What). (stood p site.step site.task r.store).field (wanted_name v) site.material (wanted_level v site.level) j) what_is
        ∙ ap (λ (n : ℕ). (stood p site.step site.task r.store).field n site.material (wanted_level w site.level) j) name_is

  -- ---- on the task's own level

  in_window_seen : (s : Seen) (c : Centring) → is_offset_allowed s c kernel r.offset ≡ true → is_inside (window_seen s c l site.patch) (moved i (offset_of r.offset)) ≡ true
  in_window_seen (sees.Ghosted g) c allowed = reads_among_layers l site.patch fit proper kernel i owned c r.offset g allowed
  in_window_seen sees.Own c allowed = reads_among_own l site.patch fit proper kernel i owned c r.offset allowed

  same_agrees : (var : ℕ) (layers : Ghost) → q.what ≡ what.Same var layers → var ≡ r.name →
      is_offset_allowed (seen_of t r.name r.store layers) (centring_of p r.name) kernel r.offset ≡ true →
      number_in_part part how.Same r.offset i ≡ number_read p field r site.level i how.Same
  same_agrees var layers what_is name_is allowed =
      as_stood (what.Same var layers) what_is name_is (moved i (offset_of r.offset))
      (in_window_seen (seen_of t var r.store layers) (centring_of p var)
      (subst (λ (n : ℕ). is_offset_allowed (seen_of t n r.store layers) (centring_of p n) kernel r.offset ≡ true) (sym name_is) allowed))

  -- ---- on the next coarser one

  not_coarsest : (var : ℕ) (layers : Ghost) → q.what ≡ what.Coarse var layers → (level : ℕ) → Contains t.levels level → 0 < level
  not_coarsest var layers what_is zero there =
      absurd (required.none_missing (subst (λ (v : What). WantsMissingLevel (length p.levels) t.levels v) (sym what_is) there))
  not_coarsest var layers what_is (suc n) there = omega arith

  coarse_agrees : (var : ℕ) (layers : Ghost) → q.what ≡ what.Coarse var layers → var ≡ r.name →
      is_offset_allowed (sees.Ghosted layers) (centring_of p r.name) kernel r.offset ≡ true →
      number_in_part part how.Coarse r.offset i ≡ number_read p field r site.level i how.Coarse
  coarse_agrees var layers what_is name_is allowed =
      let above : 0 < site.level = not_coarsest var layers what_is site.level runs.level_there in
      let ratio : ℕ = ratio_of p site.level in
      let ratio_at : ratio_of p site.level ≡ l.ratio = ap (λ o. option_map_or (λ (m : Level). m.ratio) o 1) laid.stands in
      let is_two_or_four : (ratio_of p site.level ≡ 2) ⊎ (ratio_of p site.level ≡ 4) =
      subst (λ (n : ℕ). (n ≡ 2) ⊎ (n ≡ 4)) (sym ratio_at) (laid.bounded.good.ratio.1 above) in
      let multiples : HasMultiples (ratio_of p site.level) (patch_at l site.patch) =
      subst (λ (n : ℕ). HasMultiples n (patch_at l site.patch)) (sym ratio_at) ((laid.bounded.good.multiples above).patches site.patch _ laid.below) in
      let ratio_is : part.ratio ≡ pos (ratio_of p site.level) = part_is.ratio ∙ ap (λ (v : What). pos (ratio_wanted p v site.level)) what_is in
      let to : Index = moved (coarse_index (ratio_of p site.level) i) (offset_of r.offset) in
      ap (λ (z : ℤ). if is_ratio z then number_within part.window (moved (coarse_index (nat_abs z) i) (offset_of r.offset)) else pos 0) ratio_is
      ∙ ap (λ (b : Bool). if b then number_within part.window to else pos 0) (ratio_passes (ratio_of p site.level) is_two_or_four)
      ∙ as_stood (what.Coarse var layers) what_is name_is to
      (reads_among_coarse fit l site.patch proper (ratio_of p site.level) is_two_or_four multiples kernel i owned (centring_of p var) r.offset layers
      (subst (λ (n : ℕ). is_offset_allowed (sees.Ghosted layers) (centring_of p n) kernel r.offset ≡ true) (sym name_is) allowed))

  -- ---- on the next finer one

  module _ (var : ℕ) (what_is : q.what ≡ what.Fine var) (name_is : var ≡ r.name) (centring_is : centring_of p r.name ≡ kernel) where
    abbrev finer_ratio : ℕ
    finer_ratio = ratio_of p (site.level + 1)

    abbrev kids : List Index
    kids = children_at (ratio_of p (site.level + 1)) (centring_of p r.name) i

    finer_is_two_or_four : (ratio_of p (site.level + 1) ≡ 2) ⊎ (ratio_of p (site.level + 1) ≡ 4)
    finer_is_two_or_four =
        let below : site.level + 1 < length p.levels = subst (λ (v : What). wanted_level v site.level < length p.levels) what_is (required.wanted site.level runs.level_there) in
        let finer = there_at p.levels (site.level + 1) below in
        let ratio_at : ratio_of p (site.level + 1) ≡ finer.0.ratio = ap (λ o. option_map_or (λ (m : Level). m.ratio) o 1) finer.1 in
        subst (λ (n : ℕ). (n ≡ 2) ⊎ (n ≡ 4)) (sym ratio_at) ((level_bounded bounds p site.step site.task t is (site.level + 1) finer.0 finer.1).good.ratio.1 (omega arith))

    same_space : (j : Index) → is_inside part.window.space j ≡ is_in_space p (site.level + 1) (centring_of p r.name) j
    same_space j =
        sym (space_is p t site q part part_is j)
        ∙ ap (λ (v : What). is_in_space p (wanted_level v site.level) (centring_of p (wanted_name v)) j) what_is
        ∙ ap (λ (n : ℕ). is_in_space p (site.level + 1) (centring_of p n) j) name_is

    kids_as_stood : All (λ j. number_within part.window j ≡ field (site.level + 1) j) kids
    kids_as_stood =
        let inside = children_inside l site.patch finer_ratio finer_is_two_or_four (centring_of p r.name) i
        (subst (λ (c : Centring). is_inside (owned_span c l site.patch) i ≡ true) (sym centring_is) owned) in
        All-weaker (λ j. is_inside (refined (centring_of p r.name) finer_ratio (cells_of (patch_at l site.patch))) j ≡ true)
        (λ j. number_within part.window j ≡ field (site.level + 1) j)
        (λ j here. as_stood (what.Fine var) what_is name_is j
        (subst (λ (n : ℕ). is_inside (refined (centring_of p n) finer_ratio (cells_of (patch_at l site.patch))) j ≡ true) (sym name_is) here)) kids inside

    kids_numbers : map (number_within part.window) (filter (is_inside part.window.space) kids) ≡ map (field (site.level + 1)) (children_of p site.level (centring_of p r.name) i)
    kids_numbers =
        ap (map (number_within part.window)) (filter_agree (is_inside part.window.space) (is_in_space p (site.level + 1) (centring_of p r.name)) same_space kids)
        ∙ same_maps (number_within part.window) (field (site.level + 1)) (filter (is_in_space p (site.level + 1) (centring_of p r.name)) kids)
        (All-filter (is_in_space p (site.level + 1) (centring_of p r.name)) (λ j. number_within part.window j ≡ field (site.level + 1) j) kids kids_as_stood)

    fine_agrees : (h : How) → is_fine h ≡ true → number_in_part part h r.offset i ≡ number_read p field r site.level i h
    fine_agrees h fine =
        let ratio_is : part.ratio ≡ pos finer_ratio = part_is.ratio ∙ ap (λ (v : What). pos (ratio_wanted p v site.level)) what_is in
        let same_centring : part.centring ≡ centring_of p r.name =
        part_is.centring ∙ ap (λ (v : What). centring_of p (wanted_name v)) what_is ∙ ap (centring_of p) name_is in
        let near : is_near i ≡ true = owned_is_near l site.patch kernel i (laid.bounded.limits.patches site.patch _ laid.below) owned in
        fine_in_part part h r.offset i fine
        ∙ ap (λ (z : ℤ). if is_ratio z && is_near i then fine_fold_of h part.window (children_at (nat_abs z) part.centring i) else pos 0) ratio_is
        ∙ ap (λ (c : Centring). if is_ratio (pos finer_ratio) && is_near i then fine_fold_of h part.window (children_at finer_ratio c i) else pos 0) same_centring
        ∙ ap (λ (b : Bool). if b && is_near i then fine_fold_of h part.window kids else pos 0) (ratio_passes finer_ratio finer_is_two_or_four)
        ∙ ap (λ (b : Bool). if true && b then fine_fold_of h part.window kids else pos 0) near
        ∙ ap (folded h) kids_numbers ∙ sym (folded_is p field r site.level i h fine)

  -- ---- in each form

  pub in_part_agrees : (h : How) (w : What) → q.what ≡ w → Covers p t kernel r h w → number_in_part part h r.offset i ≡ number_read p field r site.level i h
  in_part_agrees how.Same (what.Same var layers) what_is covers = same_agrees var layers what_is covers.0 covers.1
  in_part_agrees how.Coarse (what.Coarse var layers) what_is covers = coarse_agrees var layers what_is covers.0 covers.1
  in_part_agrees h (what.Fine var) what_is covers = fine_agrees var what_is covers.1 covers.2 h covers.0
  in_part_agrees h w what_is covers = absurd covers
