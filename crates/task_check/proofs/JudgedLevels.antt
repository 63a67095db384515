-- Whether a level is good is judged: its spans are finite lists of indexes.
use Rattle.std.proofs.Common.{◌≡◌, ◌↔◌, ◌<◌, ◌≤◌, ℕ, List, get_or, true}
use Rattle.std.specs.Prelude.{All, AllPairs, Any, IsTrue, Contains, slice_get, slice_index, ◌%◌, ◌-◌}
use Rattle.std.specs.List.{list_any}
use Rattle.std.proofs.lemmas.List.Elements.{All-contains, Contains-get_or}
use Rattle.std.proofs.lemmas.List.Folds.{Any-from_list_any, list_any_at}
use Rattle.uts_geom.specs.declared.index.Index.{Index}
use Rattle.uts_geom.specs.declared.span.Span.{Span}
use Rattle.uts_geom.specs.declared.centring.Centring.TheVariants.{Cell}
use Rattle.uts_geom.specs.Spans.{is_inside, indexes_of}
use Rattle.problem_types.specs.Levels.{cells_of, is_on_level, IsProper, LiesIn, AreApart, IsTiled, HasNearBounds}
use Rattle.problem_types.specs.Regions.{spaces_on}
use Rattle.problem_types.specs.declared.problem.BoxLine.{BoxLine}
use Rattle.problem_types.specs.declared.problem.Level.{Level}
use Rattle.problem_types.specs.declared.problem.Problem.{Problem}
use Rattle.grid_levels.specs.Good.{HasGoodRatio, HasMultiples, AreMultiples, divided, IsNested, IsGood, IsGoodLevel}
use Rattle.task_check.proofs.Judging.{Judged, both, either, denied, implied, like, equal, at_most, below, passes, on_axes, all, any, all_pairs, if_some}

-- bounds
pub near : (b : BoxLine) → Judged (HasNearBounds b)
near b = on_axes (λ axis. (slice_index b.lo axis ≤ 4096) × (slice_index b.hi axis ≤ 4096)) (λ axis. both (at_most _ 4096) (at_most _ 4096))

proper : (b : BoxLine) → Judged (IsProper b)
proper b = on_axes (λ axis. slice_index b.lo axis < slice_index b.hi axis) (λ axis. below _ _)

multiples : (ratio : ℕ) (b : BoxLine) → Judged (HasMultiples ratio b)
multiples ratio b =
    on_axes (λ axis. (slice_index b.lo axis % ratio ≡ 0) × (slice_index b.hi axis % ratio ≡ 0)) (λ axis. both (equal _ 0) (equal _ 0))

all_multiples : (l : Level) → Judged (AreMultiples l)
all_multiples l =
    like (λ h. record { boxes = h.0; patches = h.1 }) (λ m. (m.boxes, m.patches))
    (both (all (HasMultiples l.ratio) (multiples l.ratio) l.boxes) (all (HasMultiples l.ratio) (multiples l.ratio) l.patches))

good_ratio : (level : ℕ) (l : Level) → Judged (HasGoodRatio level l)
good_ratio level l =
    both (implied (equal level 0) (equal l.ratio 1)) (implied (below 0 level) (either (equal l.ratio 2) (equal l.ratio 4)))

-- each index of a span has a property
abbrev OnSpan : Span → (Index → Type 0) → Type 0
OnSpan s P = (i : Index) → IsTrue (is_inside s i) → P i

-- each index of one of these spans
abbrev OnSpans : List Span → (Index → Type 0) → Type 0
OnSpans spans P = (i : Index) → IsTrue (list_any (λ s. is_inside s i) spans) → P i

module _ (P : Index → Type 0) (spans : List Span) where
  on_each : OnSpans spans P → All (λ s. OnSpan s P) spans
  on_each h k d within i inside = h i (list_any_at (λ s. is_inside s i) spans k d within inside)

  from_one : (i : Index) → All (λ s. OnSpan s P) spans → Any (λ s. is_inside s i ≡ true) spans → P i
  from_one i each (k, s, within, same, inside) = All-contains (λ t. OnSpan t P) spans s each (k, within, same) i inside

  from_each : All (λ s. OnSpan s P) spans → OnSpans spans P
  from_each each i inside = from_one i each (Any-from_list_any (λ s. is_inside s i) spans inside)

module _ (holds : (s : Span) (i : Index) → Contains (indexes_of s) i ↔ IsTrue (is_inside s i)) where
  on_span : (s : Span) (P : Index → Type 0) → ((i : Index) → Judged (P i)) → Judged (OnSpan s P)
  on_span s P each =
      like (λ h i inside. All-contains P (indexes_of s) i h ((holds s i).1 inside))
      (λ h k d within. h (get_or (indexes_of s) k d) ((holds s (get_or (indexes_of s) k d)).0 (Contains-get_or (indexes_of s) k d within)))
      (all P each (indexes_of s))

  on_spans : (spans : List Span) (P : Index → Type 0) → ((i : Index) → Judged (P i)) → Judged (OnSpans spans P)
  on_spans spans P each = like (from_each P spans) (on_each P spans) (all (λ s. OnSpan s P) (λ s. on_span s P each) spans)

  lies : (inner outer : Span) → Judged (LiesIn inner outer)
  lies inner outer = on_span inner (λ i. IsTrue (is_inside outer i)) (λ i. passes (is_inside outer i))

  apart : (a b : Span) → Judged (AreApart a b)
  apart a b = on_span a (λ i. IsTrue (is_inside b i) → ⊥) (λ i. denied (passes (is_inside b i)))

  nested : (coarser l : Level) → Judged (IsNested coarser l)
  nested coarser l =
      all (λ b. Any (λ c. LiesIn (divided l.ratio (cells_of b)) (cells_of c)) coarser.boxes)
      (λ b. any (λ c. LiesIn (divided l.ratio (cells_of b)) (cells_of c)) (λ c. lies (divided l.ratio (cells_of b)) (cells_of c)) coarser.boxes)
      l.boxes

  filled : (l : Level) → Judged ((i : Index) → IsTrue (is_on_level Cell l i) → Any (λ q. IsTrue (is_inside (cells_of q) i)) l.patches)
  filled l =
      on_spans (spaces_on Cell l) (λ i. Any (λ q. IsTrue (is_inside (cells_of q) i)) l.patches)
      (λ i. any (λ q. IsTrue (is_inside (cells_of q) i)) (λ q. passes (is_inside (cells_of q) i)) l.patches)

  inside : (l : Level) → Judged (All (λ q. Any (λ b. LiesIn (cells_of q) (cells_of b)) l.boxes) l.patches)
  inside l =
      all (λ q. Any (λ b. LiesIn (cells_of q) (cells_of b)) l.boxes)
      (λ q. any (λ b. LiesIn (cells_of q) (cells_of b)) (λ b. lies (cells_of q) (cells_of b)) l.boxes)
      l.patches

  patches_apart : (l : Level) → Judged (AllPairs (λ q r. AreApart (cells_of q) (cells_of r)) l.patches)
  patches_apart l = all_pairs (λ q r. AreApart (cells_of q) (cells_of r)) (λ q r. apart (cells_of q) (cells_of r)) l.patches

  tiled : (l : Level) → Judged (IsTiled l)
  tiled l =
      like (λ h. record { boxes = h.0; patches = h.1.0; inside = h.1.1.0; apart = h.1.1.1.0; filled = h.1.1.1.1 })
      (λ t. (t.boxes, (t.patches, (t.inside, (t.apart, t.filled)))))
      (both (all IsProper proper l.boxes) (both (all IsProper proper l.patches) (both (inside l) (both (patches_apart l) (filled l)))))

  good : (p : Problem) (level : ℕ) (l : Level) → Judged (IsGood p level l)
  good p level l =
      like (λ h. record { ratio = h.0; tiled = h.1.0; multiples = h.1.1.0; nested = h.1.1.1 })
      (λ g. (g.ratio, (g.tiled, (g.multiples, g.nested))))
      (both (good_ratio level l) (both (tiled l) (both (implied (below 0 level) (all_multiples l))
      (implied (below 0 level) (if_some (λ coarser. IsNested coarser l) (λ coarser. nested coarser l) (slice_get p.levels (level - 1)))))))

  pub good_level : (p : Problem) (level : ℕ) → Judged (IsGoodLevel p level)
  good_level p level = if_some (IsGood p level) (good p level) (slice_get p.levels level)
