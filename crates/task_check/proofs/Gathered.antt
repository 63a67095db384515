-- How many numbers detailed tasks gather.
use Rattle.std.proofs.Common.{◌≡◌, ◌∙◌, ◌≤◌, ◌<◌, ◌*◌, ◌↔◌, ℕ, ℤ, pos, ◌≤ℤ◌, cond, List, [], ◌∷◌, ◌++◌, Bool, true, false, Option, Some, None, length, get_or, ap, sym, refl, arith, subst}
use Rattle.std.specs.Prelude.{slice_get, map, filter, nat_lt, ◌&&◌, ◌||◌, All, Any, Contains, IsTrue}
use Rattle.std.specs.List.{flat_map, list_any, sum_by}
use Rattle.std.specs.Int.{int_gap}
use Rattle.std.specs.Option.{option_map_or}
use Rattle.std.proofs.lemmas.Bool.{and_parts, ltb-true, lt-ltb}
use Rattle.std.proofs.lemmas.Int.{ints}
use Rattle.std.proofs.lemmas.List.Elements.{All-head, All-contains}
use Rattle.std.proofs.lemmas.Option.{slice_get-get_or}
use Rattle.std.proofs.lemmas.List.Folds.{Any-from_list_any, list_any-from_Any, list_any-append}
use Rattle.std.proofs.lemmas.List.Sums.{sum_by-cons}
use Rattle.uts_geom.specs.declared.span.Span.{Span}
use Rattle.uts_geom.specs.Spans.{counted, is_between, is_inside, indexes_of, width_of, height_of, depth_of, IsNearNumber, IsNearSpan, meet_of}
use Rattle.problem_types.specs.Form.{IsProblemInForm}
use Rattle.problem_types.specs.Levels.{HasNearBounds, KeepsGridLimits}
use Rattle.problem_types.specs.Lists.{task_list, is_reduces, centring_of}
use Rattle.problem_types.specs.Regions.{space_of, spaces_on}
use Rattle.problem_types.specs.declared.problem.Problem.{Problem}
use Rattle.problem_types.specs.declared.problem.BoxLine.{BoxLine}
use Rattle.problem_types.specs.declared.problem.Level.{Level}
use Rattle.problem_types.specs.declared.problem.Task.{Task}
use Rattle.problem_types.specs.declared.problem.Require.{Require}
use Rattle.problem_types.specs.declared.problem.What.{What}
use Rattle.problem_types.specs.declared.problem.What.TheVariants as what
use Rattle.uts_geom.specs.declared.centring.Centring.{Centring}
use Rattle.task_rules.specs.Lines.{wanted_name, wanted_level}
use Rattle.task_check.specs.Plan.{Detail, OnPatch, Combining, patches_of, line_is, on_patches, combining, details_of, wanted_window, is_of_number}
use Rattle.task_check.specs.Counts.{gathered, gathered_for, stored_in}
use Rattle.task_check.specs.First.{IsFaultless}
use Rattle.task_check.specs.Supplies.{layers_of}
use Rattle.task_check.specs.Places.{IsTaskAt, IsRequireAt}
use Rattle.task_check.specs.Sizes.{IsTask, part_count, reduces_count, gathered_on, is_any_above, gathers_above}
use Rattle.task_check.proofs.Accepted.{task_in_form, few_layers, levels_below, wanted_below}
use Rattle.task_check.proofs.Details.{length-on_patches, combining_lines}
use Rattle.task_check.proofs.Tests.{any-alike, any-constant, any-flat_map, any-map, any-places}
use Rattle.task_check.proofs.Volumes.{LiesOnGrid, space_lies}
use Rattle.uts_geom.specs.Places.{length-indexes}

-- Some detailed task of a list passes a test: by the tasks.
pub any_details : (q : Detail → Bool) (f : Task → Bool) (p : Problem) (tasks : List Task) →
    ((place : ℕ) (t : Task) → slice_get tasks place ≡ Some t → (list_any q (on_patches p place t) || list_any q (combining place t)) ≡ f t) →
    list_any q (details_of p tasks) ≡ list_any f tasks
any_details q f p tasks each =
    any-flat_map q (λ place. option_map_or (λ t. on_patches p place t ++ combining place t) (slice_get tasks place) []) (counted 0 (length tasks))
    ∙ any-alike _ (λ place. option_map_or f (slice_get tasks place) false) (λ place. by_place place (slice_get tasks place) refl) (counted 0 (length tasks))
    ∙ any-places f tasks
  where
    by_place : (place : ℕ) (o : Option Task) → slice_get tasks place ≡ o →
        list_any q (option_map_or (λ t. on_patches p place t ++ combining place t) o []) ≡ option_map_or f o false
    by_place place None at = refl
    by_place place (Some t) at = list_any-append q (on_patches p place t) (combining place t) ∙ each place t at

-- those on patches, where each material passes alike and there is one
pub any_on_patches : (q : Detail → Bool) (g : (level patch : ℕ) → Bool) (p : Problem) (place : ℕ) (t : Task) → 1 ≤ length t.materials →
    ((level material patch : ℕ) → q (OnPatch place level material patch) ≡ g level patch) →
    list_any q (on_patches p place t) ≡ list_any (λ level. list_any (g level) (patches_of p level)) t.levels
any_on_patches q g p place t some alike =
    any-flat_map q (λ level. flat_map (λ material. map (OnPatch place level material) (patches_of p level)) t.materials) t.levels
    ∙ any-alike _ _ (λ level.
    any-flat_map q (λ material. map (OnPatch place level material) (patches_of p level)) t.materials
    ∙ any-alike _ (λ material. list_any (g level) (patches_of p level))
    (λ material. any-map q (OnPatch place level material) (patches_of p level) ∙ any-alike _ (g level) (alike level material) (patches_of p level)) t.materials
    ∙ any-constant (list_any (g level) (patches_of p level)) t.materials
    ∙ ap (λ (b : Bool). b && list_any (g level) (patches_of p level)) (lt-ltb 0 (length t.materials) (omega arith))) t.levels

pub any_combining : (q : Detail → Bool) (b : Bool) (place : ℕ) (t : Task) → ((line : ℕ) → q (Combining place line) ≡ b) →
    list_any q (combining place t) ≡ (nat_lt 0 (reduces_count t.writes) && b)
any_combining q b place t each =
    let lines : List ℕ = filter (line_is t.writes (λ w. is_reduces w.kind)) (counted 0 (length t.writes)) in
    any-map q (Combining place) lines
    ∙ any-alike (λ line. q (Combining place line)) (λ line. b) each lines
    ∙ any-constant b lines
    ∙ ap (λ (n : ℕ). nat_lt 0 n && b) (combining_lines t)

-- Some detailed task of a list gathers more than a limit.
module _ (p : Problem) (form : IsProblemInForm p) (list limit : ℕ) (of_two : list < 2) where
  abbrev above : Detail → Bool
  above d = nat_lt limit (gathered p (task_list p list) d)

  some_above : list_any above (details_of p (task_list p list)) ≡ list_any (gathers_above p limit) (task_list p list)
  some_above = any_details above (gathers_above p limit) p (task_list p list) (λ place t at.
      let there : IsTaskAt p list place t = record { of_two = of_two; stands = at } in
      let on = any_on_patches above (λ level patch. nat_lt limit (gathered_on p t level patch)) p place t (task_in_form p form list place t there).materials.some
      (λ level material patch. ap (λ (o : Option Task). nat_lt limit (option_map_or (λ q. sum_by (gathered_for p q level patch) q.requirements) o 0)) at) in
      let combined = any_combining above (nat_lt limit (part_count p t)) place t
      (λ line. ap (λ (o : Option Task). nat_lt limit (option_map_or (λ q. length (on_patches p place q)) o 0)) at ∙ ap (λ (n : ℕ). nat_lt limit n) (length-on_patches p place t)) in
      ap (λ (b : Bool). b || list_any above (combining place t)) on
      ∙ ap (λ (b : Bool). is_any_above p t limit t.levels || b) combined)

  pub gathered_above : (answer : Bool) → answer ≡ list_any (gathers_above p limit) (task_list p list) →
      IsTrue answer ↔ Any (λ d. limit < gathered p (task_list p list) d) (details_of p (task_list p list))
  gathered_above answer is = (
    λ yes. let some = Any-from_list_any above (details_of p (task_list p list)) (some_above ∙ sym is ∙ yes) in
        (some.0, some.1, some.2, some.3, ltb-true limit (gathered p (task_list p list) some.1) some.4),
    λ some. is ∙ sym some_above ∙ list_any-from_Any above (details_of p (task_list p list))
        (some.0, some.1, some.2, some.3, lt-ltb limit (gathered p (task_list p list) some.1) some.4),
  )

-- The stored part of a window.
pub one_space : (l : Level) (c : Centring) (s : Span) → KeepsGridLimits l → spaces_on c l ≡ s ∷ [] → LiesOnGrid s
one_space l c s limits is = by_boxes l.boxes limits.one_box (λ b only. space_lies c b (All-head HasNearBounds b [] (subst (All HasNearBounds) only limits.boxes))) is
  where
    by_boxes : (boxes : List BoxLine) → length boxes ≡ 1 → ((b : BoxLine) → boxes ≡ b ∷ [] → LiesOnGrid (space_of c b)) → map (space_of c) boxes ≡ s ∷ [] → LiesOnGrid s
    by_boxes [] one each same = absurd (omega arith)
    by_boxes (b ∷ []) one each same = let e : space_of c b ≡ s = cc in subst LiesOnGrid e (each b refl)
    by_boxes (b ∷ d ∷ boxes) one each same = absurd (omega arith)

-- a span that holds its low corner
near_between : (low high : ℤ) → is_between low high low ≡ true → pos 0 ≤ℤ low → high ≤ℤ pos 4097 → IsNearNumber low × IsNearNumber high
near_between low high holds from to = ((grind (arith, ints), grind (arith, ints)), (grind (arith, ints), grind (arith, ints)))

pub near_where_held : (s : Span) → LiesOnGrid s → is_inside s s.lo ≡ true → IsNearSpan s
near_where_held s on holds =
    let (x, rest) = and_parts _ _ holds in
    let (y, z) = and_parts _ _ rest in
    let near_x = near_between s.lo.x s.hi.x x on.x.0 on.x.1 in
    let near_y = near_between s.lo.y s.hi.y y on.y.0 on.y.1 in
    let near_z = near_between s.lo.z s.hi.z z on.z.0 on.z.1 in record {
      lo = record { x = near_x.0; y = near_y.0; z = near_z.0 };
      hi = record { x = near_x.1; y = near_y.1; z = near_z.1 };
    }

no_gap : (low high : ℤ) → is_between low high low ≡ false → int_gap low high ≡ 0
no_gap low high fails = grind (arith, ints)

-- one that does not has no indexes
pub none_where_not_held : (s : Span) → is_inside s s.lo ≡ false → 0 ≡ length (indexes_of s)
none_where_not_held s fails = sym (length-indexes s ∙ by_axis (is_between s.lo.x s.hi.x s.lo.x) (is_between s.lo.y s.hi.y s.lo.y) (is_between s.lo.z s.hi.z s.lo.z) refl refl refl fails)
  where
    by_axis : (x y z : Bool) → is_between s.lo.x s.hi.x s.lo.x ≡ x → is_between s.lo.y s.hi.y s.lo.y ≡ y → is_between s.lo.z s.hi.z s.lo.z ≡ z →
        (x && (y && z)) ≡ false → width_of s * (height_of s * depth_of s) ≡ 0
    by_axis false y z at_x at_y at_z none = let e = no_gap s.lo.x s.hi.x at_x in rw e (omega arith)
    by_axis true false z at_x at_y at_z none = let e = no_gap s.lo.y s.hi.y at_y in rw e (omega arith)
    by_axis true true false at_x at_y at_z none = let e = no_gap s.lo.z s.hi.z at_z in rw e (omega arith)
    by_axis true true true at_x at_y at_z none = absurd cc

pub only_space : (window s : Span) (l : Level) (c : Centring) → spaces_on c l ≡ s ∷ [] →
    length (indexes_of (meet_of window s)) ≡ sum_by (λ r. length (indexes_of (meet_of window r))) (spaces_on c l)
only_space window s l c is =
    sym (ap (λ (spaces : List Span). sum_by (λ r. length (indexes_of (meet_of window r))) spaces) is
    ∙ sum_by-cons (λ r. length (indexes_of (meet_of window r))) s []
    ∙ omega arith)

-- what a requirement of a variable gathers, by the levels of its task and of what it wants
pub gathered_is : (p : Problem) (t : Task) (level patch : ℕ) (r : Require) (l wanted : Level) (window : Span) (n : ℕ) → is_of_number r.what ≡ false →
    slice_get p.levels level ≡ Some l → window ≡ wanted_window p t r.store r.what level l patch → slice_get p.levels (wanted_level r.what level) ≡ Some wanted →
    n ≡ sum_by (λ s. length (indexes_of (meet_of window s))) (spaces_on (centring_of p (wanted_name r.what)) wanted) → n ≡ gathered_for p t level patch r
gathered_is p t level patch r l wanted window n variable at is there stored =
    stored
    ∙ ap (λ (v : Span). sum_by (λ s. length (indexes_of (meet_of v s))) (spaces_on (centring_of p (wanted_name r.what)) wanted)) is
    ∙ sym (ap (λ (o : Option Level). sum_by (λ s. length (indexes_of (meet_of (wanted_window p t r.store r.what level l patch) s)))
    (option_map_or (λ k. map (space_of (centring_of p (wanted_name r.what))) k.boxes) o [])) there)
    ∙ sym (ap (λ (b : Bool). cond b 1 (option_map_or (λ k. stored_in p (wanted_level r.what level) (centring_of p (wanted_name r.what)) (wanted_window p t r.store r.what level k patch)) (slice_get p.levels level) 0)) variable
    ∙ ap (λ (o : Option Level). option_map_or (λ k. stored_in p (wanted_level r.what level) (centring_of p (wanted_name r.what)) (wanted_window p t r.store r.what level k patch)) o 0) at)

-- what is required as anything but a reduction
pub variable_unless : (w : What) → ((name : ℕ) → w ≡ what.Number name → ⊥) → is_of_number w ≡ false
variable_unless (what.Same var layers) none = refl
variable_unless (what.Coarse var layers) none = refl
variable_unless (what.Fine var) none = refl
variable_unless (what.Number name) none = absurd (none name refl)

-- the requirements of a task ask for few layers, on levels that are there
pub required_fits : (p : Problem) (t : Task) → IsProblemInForm p → IsFaultless p → IsTask p t → (k : ℕ) (d : Require) → k < length t.requirements →
    (layers_of (get_or t.requirements k d).what ≤ 8)
    × ((level : ℕ) → Contains t.levels level → wanted_level (get_or t.requirements k d).what level < length p.levels)
required_fits p t form faultless there k d below =
    let line : IsRequireAt p there.0 there.1 t k (get_or t.requirements k d) = record { task = there.2; stands = slice_get-get_or t.requirements k d below } in (
      few_layers p faultless there.0 there.1 t k (get_or t.requirements k d) line,
      λ level runs. wanted_below p faultless there.0 there.1 t k (get_or t.requirements k d) line level runs
          (All-contains (λ l. l < length p.levels) t.levels level (levels_below p form faultless there.0 there.1 t there.2) runs),
    )
