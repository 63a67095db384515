-- The windows that a requirement of a variable at the end of the step before asks for around the patches of a level, together.
use Rattle.std.proofs.Common.{◌≡◌, ◌∙◌, ◌≤◌, ◌+◌, ◌/◌, ℕ, zero, suc, pos, ◌≤ℤ◌, List, [], ◌∷◌, Bool, true, false, Option, Some, length, ap, sym, refl, arith, subst}
use Rattle.std.specs.Prelude.{All, map, slice_get, ◌&&◌, ◌==◌, if◌then◌else◌, ◌*ℤ◌, ◌+ℤ◌}
use Rattle.std.specs.List.{list_any}
use Rattle.std.specs.Option.{option_map_or}
use Rattle.std.proofs.Math.Nat.{mod-one}
use Rattle.std.proofs.lemmas.Bool.{and_parts, eqb-true, eq-eqb}
use Rattle.std.proofs.lemmas.Int.{ints}
use Rattle.std.proofs.lemmas.List.Elements.{All-head}
use Rattle.kernel_ast.specs.declared.expression.Store.{Store}
use Rattle.kernel_ast.specs.declared.expression.Store.TheVariants as store
use Rattle.uts_geom.specs.Centrings.{is_point_like}
use Rattle.uts_geom.specs.Spans.{counted, do_meet}
use Rattle.uts_geom.specs.declared.centring.Axis.{Axis}
use Rattle.uts_geom.specs.declared.centring.Axis.TheVariants.{X, Y, Z}
use Rattle.uts_geom.specs.declared.centring.Centring.{Centring}
use Rattle.uts_geom.specs.declared.centring.Centring.TheVariants.{Cell}
use Rattle.uts_geom.specs.declared.span.Span.{Span}
use Rattle.problem_types.specs.Form.{IsProblemInForm, IsLayerNumber, AreLayersInForm, IsWhatInForm}
use Rattle.problem_types.specs.Levels.{cells_of, HasNearBounds, KeepsGridLimits}
use Rattle.problem_types.specs.Lists.{centring_of}
use Rattle.problem_types.specs.Regions.{ratio_of, space_of, spaces_on}
use Rattle.problem_types.specs.declared.problem.Problem.{Problem}
use Rattle.problem_types.specs.declared.problem.BoxLine.{BoxLine}
use Rattle.problem_types.specs.declared.problem.Level.{Level}
use Rattle.problem_types.specs.declared.problem.Task.{Task}
use Rattle.problem_types.specs.declared.problem.Require.{Require}
use Rattle.problem_types.specs.declared.problem.Ghost.{Ghost}
use Rattle.problem_types.specs.declared.problem.What.{What}
use Rattle.problem_types.specs.declared.problem.What.TheVariants as what
use Rattle.problem_types.specs.declared.problem.GhostKind.{GhostKind}
use Rattle.problem_types.specs.declared.problem.GhostKind.TheVariants as ghosts
use Rattle.grid_levels.specs.Good.{divided, HasMultiples, IsGood}
use Rattle.ghost_rules.specs.Windows.{along, layers_along, window_begin, window_end, window_of}
use Rattle.ghost_rules.specs.declared.along.Along.{Along}
use Rattle.ghost_rules.specs.declared.along.Along.TheVariants.{Nothing, Intervals, Points, Own}
use Rattle.ghost_rules.specs.declared.seen.Seen.{Seen}
use Rattle.ghost_rules.specs.declared.seen.Seen.TheVariants as seen
use Rattle.uts_geom.specs.Laws.{SpansMeetInIndexes}
use Rattle.patch_regions.specs.Regions.{owned_span, patch_at}
use Rattle.task_rules.specs.Lines.{has_modifies, wanted_name, wanted_level}
use Rattle.task_check.specs.First.{IsFaultless}
use Rattle.task_check.specs.OldSlots.{is_old, is_old_variable, wants_old}
use Rattle.task_check.specs.Plan.{refined, patches_of, is_in_window, wanted_window, window_seen}
use Rattle.task_check.specs.Supplies.{seen_by_kind, seen_of}
use Rattle.task_check.proofs.Goodness.{is_good}
use Rattle.task_check.proofs.Ratios.{ratio_within}
use Rattle.task_check.proofs.Spreads.{AnyBound, IsMultiple, IsSpread, layered, coarsened, refined as refined_spread}
use Rattle.task_check.proofs.BoxWindows.{box_meets}

-- layers begin at the low bound or below it, and end at the high bound or above it, where there is one at least
abbrev HasLayer : Along → Type 0
HasLayer Nothing = Unit {0}
HasLayer (Intervals n) = 1 ≤ n
HasLayer (Points n) = 1 ≤ n
HasLayer Own = Unit {0}

has_layer : (k : GhostKind) (n : ℕ) (axis : Axis) → IsLayerNumber n k → HasLayer (layers_along k n axis)
has_layer ghosts.None n axis some = tt
has_layer ghosts.Cells n axis some = some
has_layer ghosts.Nodes n axis some = some
has_layer ghosts.FaceX n X some = some
has_layer ghosts.FaceX n Y some = some
has_layer ghosts.FaceX n Z some = some
has_layer ghosts.FaceY n X some = some
has_layer ghosts.FaceY n Y some = some
has_layer ghosts.FaceY n Z some = some
has_layer ghosts.FaceZ n X some = some
has_layer ghosts.FaceZ n Y some = some
has_layer ghosts.FaceZ n Z some = some

begins_below : (a : Along) (point : Bool) → HasLayer a → window_begin a point ≤ℤ pos 0
begins_below Nothing point some = omega (arith, ints)
begins_below (Intervals n) true some = omega (arith, ints)
begins_below (Intervals n) false some = omega (arith, ints)
begins_below (Points n) point some = omega (arith, ints)
begins_below Own point some = omega (arith, ints)

ends_above : (a : Along) (point : Bool) → HasLayer a → pos 0 ≤ℤ window_end a point false
ends_above Nothing true some = omega (arith, ints)
ends_above Nothing false some = omega (arith, ints)
ends_above (Intervals n) point some = omega (arith, ints)
ends_above (Points n) true some = omega (arith, ints)
ends_above (Points n) false some = omega (arith, ints)
ends_above Own true some = omega (arith, ints)
ends_above Own false some = omega (arith, ints)

-- a point besides is none or one
point_from : (point : Bool) → pos 0 ≤ℤ (if point then pos 1 else pos 0)
point_from true = omega (arith, ints)
point_from false = omega (arith, ints)

point_to : (point : Bool) → (if point then pos 1 else pos 0) ≤ℤ pos 1
point_to true = omega (arith, ints)
point_to false = omega (arith, ints)

-- what is seen of old numbers is seen with its layers
seen_by_old : (modifies : Bool) (layers : Ghost) (k : GhostKind) → seen_by_kind modifies layers k store.Old ≡ seen.Ghosted layers
seen_by_old true layers ghosts.None = refl
seen_by_old true layers ghosts.Cells = refl
seen_by_old true layers ghosts.Nodes = refl
seen_by_old true layers ghosts.FaceX = refl
seen_by_old true layers ghosts.FaceY = refl
seen_by_old true layers ghosts.FaceZ = refl
seen_by_old false layers k = refl

-- the only box of a level
pub only_box : (l : Level) → KeepsGridLimits l → (b : BoxLine) × (l.boxes ≡ b ∷ []) × HasNearBounds b
only_box l limits = by_boxes l.boxes limits.one_box limits.boxes
  where
    by_boxes : (boxes : List BoxLine) → length boxes ≡ 1 → All HasNearBounds boxes → (b : BoxLine) × (boxes ≡ b ∷ []) × HasNearBounds b
    by_boxes [] one near = absurd (omega arith)
    by_boxes (b ∷ []) one near = (b, refl, All-head HasNearBounds b [] near)
    by_boxes (b ∷ d ∷ boxes) one near = absurd (omega arith)

pub cells_are : (l : Level) (b : BoxLine) (s : Span) → l.boxes ≡ b ∷ [] → spaces_on Cell l ≡ s ∷ [] → cells_of b ≡ s
cells_are l b s only space = let e : cells_of b ∷ [] ≡ s ∷ [] = sym (ap (λ (bs : List BoxLine). map (space_of Cell) bs) only) ∙ space in cc

module _ (meets : SpansMeetInIndexes) (p : Problem) (form : IsProblemInForm p) (faultless : IsFaultless p) (from : ℕ) (l : Level) (at : slice_get p.levels from ≡ Some l)
    (b : BoxLine) (only : l.boxes ≡ b ∷ []) (own : Span) where
  good : IsGood p from l
  good = is_good p form faultless from l at

  layers_spread : (layers : Ghost) (c : Centring) (axis : Axis) → AreLayersInForm layers →
      IsSpread AnyBound (λ n. pos n +ℤ window_begin (along layers axis) (is_point_like c axis)) (λ n. pos n +ℤ window_end (along layers axis) (is_point_like c axis) false)
  layers_spread layers c axis some =
      let has = has_layer layers.kind layers.n axis some in
      layered (window_begin (along layers axis) (is_point_like c axis)) (window_end (along layers axis) (is_point_like c axis) false)
      (begins_below (along layers axis) (is_point_like c axis) has) (ends_above (along layers axis) (is_point_like c axis) has)

  -- of the own level
  pub same_windows : (t : Task) (var : ℕ) (layers : Ghost) (c : Centring) → AreLayersInForm layers → do_meet own (window_of layers c (cells_of b))
      ≡ list_any (λ near. do_meet own (window_seen (seen_of t var store.Old layers) c l near)) (counted 0 (length l.patches))
  same_windows t var layers c some =
      box_meets meets l b only good.tiled AnyBound _ _ _ _ _ _ (layers_spread layers c X some) (layers_spread layers c Y some) (layers_spread layers c Z some)
      (λ axis below. (tt, tt)) (λ k d within axis below. (tt, tt)) own
      ∙ ap (λ (s : Seen). list_any (λ near. do_meet own (window_seen s c l near)) (counted 0 (length l.patches))) (sym (seen_by_old (has_modifies t.writes var) layers layers.kind))

  -- of the next coarser level
  ratio_is : ratio_of p from ≡ l.ratio
  ratio_is = ap (λ (o : Option Level). option_map_or (λ m. m.ratio) o 1) at

  of_ratio : (level : ℕ) → IsGood p level l → All (HasMultiples l.ratio) l.boxes × All (HasMultiples l.ratio) l.patches
  of_ratio zero coarsest =
      let one : l.ratio ≡ 1 = coarsest.ratio.0 refl in
      subst (λ r. All (HasMultiples r) l.boxes × All (HasMultiples r) l.patches) (sym one)
      (λ k d within axis below. (mod-one _, mod-one _), λ k d within axis below. (mod-one _, mod-one _))
  of_ratio (suc level) refining = let multiples = refining.multiples (omega arith) in (multiples.boxes, multiples.patches)

  all_multiples : All (HasMultiples (ratio_of p from)) l.boxes × All (HasMultiples (ratio_of p from)) l.patches
  all_multiples = subst (λ r. All (HasMultiples r) l.boxes × All (HasMultiples r) l.patches) (sym ratio_is) (of_ratio from good)

  coarse_spread : (layers : Ghost) (c : Centring) (axis : Axis) → AreLayersInForm layers →
      IsSpread (IsMultiple (ratio_of p from)) (λ n. pos (n / ratio_of p from) +ℤ window_begin (along layers axis) (is_point_like c axis))
      (λ n. pos (n / ratio_of p from) +ℤ window_end (along layers axis) (is_point_like c axis) false)
  coarse_spread layers c axis some =
      let has = has_layer layers.kind layers.n axis some in
      coarsened (ratio_of p from) (ratio_within p faultless from).some
      (window_begin (along layers axis) (is_point_like c axis)) (window_end (along layers axis) (is_point_like c axis) false)
      (begins_below (along layers axis) (is_point_like c axis) has) (ends_above (along layers axis) (is_point_like c axis) has)

  pub coarse_windows : (layers : Ghost) (c : Centring) → AreLayersInForm layers → do_meet own (window_of layers c (divided (ratio_of p from) (cells_of b)))
      ≡ list_any (λ near. do_meet own (window_of layers c (divided (ratio_of p from) (cells_of (patch_at l near))))) (counted 0 (length l.patches))
  coarse_windows layers c some =
      box_meets meets l b only good.tiled (IsMultiple (ratio_of p from)) _ _ _ _ _ _ (coarse_spread layers c X some) (coarse_spread layers c Y some) (coarse_spread layers c Z some)
      (All-head (HasMultiples (ratio_of p from)) b [] (subst (All (HasMultiples (ratio_of p from))) only all_multiples.0)) all_multiples.1 own

  -- of the next finer level
  fine_spread : (c : Centring) (axis : Axis) → IsSpread AnyBound (λ n. pos (ratio_of p (from + 1)) *ℤ pos n)
      (λ n. pos (ratio_of p (from + 1)) *ℤ pos n +ℤ (if is_point_like c axis then pos 1 else pos 0))
  fine_spread c axis = refined_spread (ratio_of p (from + 1)) (ratio_within p faultless (from + 1)).some (if is_point_like c axis then pos 1 else pos 0)
      (point_from (is_point_like c axis)) (point_to (is_point_like c axis))

  pub fine_windows : (c : Centring) → do_meet own (refined c (ratio_of p (from + 1)) (cells_of b))
      ≡ list_any (λ near. do_meet own (refined c (ratio_of p (from + 1)) (cells_of (patch_at l near)))) (counted 0 (length l.patches))
  fine_windows c =
      box_meets meets l b only good.tiled AnyBound _ _ _ _ _ _ (fine_spread c X) (fine_spread c Y) (fine_spread c Z) (λ axis below. (tt, tt)) (λ k d within axis below. (tt, tt)) own

  -- the same, by the requirement
  abbrev IsTogether : Span → What → Type 0
  IsTogether window w = (t : Task) → do_meet own window ≡ list_any (λ near. do_meet own (wanted_window p t store.Old w from l near)) (counted 0 (length l.patches))

  module _ (names : ℕ) (w : What) (in_form : IsWhatInForm names w) (c : Centring) (named : c ≡ centring_of p (wanted_name w)) (window : Span) where
    pub same_together : (var : ℕ) (layers : Ghost) (cells : Span) → w ≡ what.Same var layers → cells_of b ≡ cells → window ≡ window_of layers c cells → IsTogether window w
    same_together var layers cells is box is_window =
        let P : What → Type 0 = λ v. IsWhatInForm names v → c ≡ centring_of p (wanted_name v) → IsTogether window v in
        subst P (sym is) (λ form_of same t.
        ap (do_meet own) (is_window ∙ ap (window_of layers c) (sym box) ∙ ap (λ (d : Centring). window_of layers d (cells_of b)) same)
        ∙ same_windows t var layers (centring_of p var) form_of.1) in_form named

    pub coarse_together : (var : ℕ) (layers : Ghost) (ratio : ℕ) (cells : Span) → w ≡ what.Coarse var layers → ratio ≡ ratio_of p from → cells ≡ divided ratio (cells_of b) →
        window ≡ window_of layers c cells → IsTogether window w
    coarse_together var layers ratio cells is by_ratio box is_window =
        let P : What → Type 0 = λ v. IsWhatInForm names v → c ≡ centring_of p (wanted_name v) → IsTogether window v in
        subst P (sym is) (λ form_of same t.
        ap (do_meet own) (is_window ∙ ap (window_of layers c) (box ∙ ap (λ r. divided r (cells_of b)) by_ratio)
        ∙ ap (λ (d : Centring). window_of layers d (divided (ratio_of p from) (cells_of b))) same)
        ∙ coarse_windows layers (centring_of p var) form_of.1) in_form named

    pub fine_together : (var ratio : ℕ) → w ≡ what.Fine var → ratio ≡ ratio_of p (from + 1) → window ≡ refined c ratio (cells_of b) → IsTogether window w
    fine_together var ratio is by_ratio is_window =
        let P : What → Type 0 = λ v. IsWhatInForm names v → c ≡ centring_of p (wanted_name v) → IsTogether window v in
        subst P (sym is) (λ form_of same t.
        ap (do_meet own) (is_window ∙ ap (λ r. refined c r (cells_of b)) by_ratio ∙ ap (λ (d : Centring). refined d (ratio_of p (from + 1)) (cells_of b)) same)
        ∙ fine_windows (centring_of p var)) in_form named

-- What a requirement wants of a level, where it is of the variable at the end of the step before.
of_old : (at : Store) → is_old at ≡ true → at ≡ store.Old
of_old store.Old old = refl
of_old store.New old = absurd cc

pub record IsOldOf (name : ℕ) (r : Require) : Type 0 where
  pub store : r.store ≡ store.Old
  pub named : name ≡ wanted_name r.what

pub old_of : (name : ℕ) (r : Require) → is_old_variable name r ≡ true → IsOldOf name r
old_of name r is =
    let stored = and_parts _ _ is in
    let rest = and_parts _ _ stored.1 in
    record { store = of_old r.store stored.0; named = eqb-true name (wanted_name r.what) rest.1 }

pub wanted_by_box : (p : Problem) (t : Task) (r : Require) (name from level patch : ℕ) (c : Centring) (l wanted : Level) (window : Span) →
    is_old_variable name r ≡ true → level ≡ wanted_level r.what from → c ≡ centring_of p name → slice_get p.levels from ≡ Some l → slice_get p.levels level ≡ Some wanted →
    ((own : Span) → do_meet own window ≡ list_any (λ near. do_meet own (wanted_window p t store.Old r.what from l near)) (counted 0 (length l.patches))) →
    do_meet (owned_span c wanted patch) window ≡ wants_old p t name level patch from r
wanted_by_box p t r name from level patch c l wanted window is on centring at_from at_level together =
    let old = old_of name r is in
    let named : c ≡ centring_of p (wanted_name r.what) = centring ∙ ap (centring_of p) old.named in
    let at_wanted : slice_get p.levels (wanted_level r.what from) ≡ Some wanted = ap (slice_get p.levels) (sym on) ∙ at_level in
    together (owned_span c wanted patch)
    ∙ ap (λ (d : Centring). list_any (λ near. do_meet (owned_span d wanted patch) (wanted_window p t store.Old r.what from l near)) (counted 0 (length l.patches))) named
    ∙ ap (λ (at : Store). list_any (λ near. do_meet (owned_span (centring_of p (wanted_name r.what)) wanted patch) (wanted_window p t at r.what from l near)) (counted 0 (length l.patches)))
    (sym old.store)
    ∙ sym (
    ap (λ (b : Bool). b && ((level == wanted_level r.what from) && list_any (λ near. is_in_window p t r from near patch) (patches_of p from))) is
    ∙ ap (λ (b : Bool). b && list_any (λ near. is_in_window p t r from near patch) (patches_of p from)) (eq-eqb level (wanted_level r.what from) on)
    ∙ ap (λ (o : Option Level). list_any (λ near. option_map_or (λ (m : Level). option_map_or (λ (n : Level). do_meet (owned_span (centring_of p (wanted_name r.what)) n patch)
    (wanted_window p t r.store r.what from m near)) (slice_get p.levels (wanted_level r.what from)) false) o false) (counted 0 (option_map_or (λ (m : Level). length m.patches) o 0))) at_from
    ∙ ap (λ (o : Option Level). list_any (λ near. option_map_or (λ (n : Level). do_meet (owned_span (centring_of p (wanted_name r.what)) n patch)
    (wanted_window p t r.store r.what from l near)) o false) (counted 0 (length l.patches))) at_wanted)
