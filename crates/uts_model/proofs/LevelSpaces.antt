-- The index space of a level, which has one box, as one span.
use Rattle.std.proofs.Common.{◌≡◌, ◌∙◌, ◌<◌, inl, inr, ap, sym, refl, arith, ℕ, suc, length, ℤ, List, [], ◌∷◌, Bool, true, false, Some, None, Option}
use Rattle.std.specs.Prelude.{◌||◌, ◌&&◌, All, slice_get, map}
use Rattle.std.specs.List.{list_any, flat_map}
use Rattle.std.specs.Option.{option_map_or}
use Rattle.std.proofs.lemmas.Bool.{and_parts, false≢true}
use Rattle.std.proofs.lemmas.Int.{ints}
use Rattle.std.proofs.lemmas.Option.{slice_get_within, slice_get_cases}
use Rattle.uts_geom.specs.Spans.{is_between, is_inside, indexes_of, IsNear}
use Rattle.uts_geom.specs.declared.centring.Centring.{Centring}
use Rattle.uts_geom.specs.declared.index.Index.{Index}
use Rattle.uts_geom.specs.declared.span.Span.{Span}
use Rattle.problem_types.specs.Levels.{HasNearBounds}
use Rattle.problem_types.specs.Regions.{indexes_of as indexes_on, is_in_space, ratio_of, space_of, spaces_of, spaces_on}
use Rattle.problem_types.specs.declared.problem.BoxLine.{BoxLine}
use Rattle.problem_types.specs.declared.problem.Level.{Level}
use Rattle.problem_types.specs.declared.problem.Problem.{Problem}
use Rattle.problem_types.specs.NearSpaces.{IsOnAxis, IsOnGrid, IsOnGridSpan, near_index, space_on_grid}
use Rattle.uts_model.specs.Grids.{AreBoundedLevels, IsOnLevel}
use Rattle.uts_model.specs.Spaces.{spaces_at}

between_on_axis : (low high n : ℤ) → is_between low high n ≡ true → IsOnAxis low → IsOnAxis high → IsOnAxis n
between_on_axis low high n between a b = (grind (arith, ints), grind (arith, ints))

pub inside_on_grid : (s : Span) (i : Index) → IsOnGridSpan s → is_inside s i ≡ true → IsOnGrid i
inside_on_grid s i on inside =
    let on_x = and_parts (is_between s.lo.x s.hi.x i.x) (is_between s.lo.y s.hi.y i.y && is_between s.lo.z s.hi.z i.z) inside in
    let on_y = and_parts (is_between s.lo.y s.hi.y i.y) (is_between s.lo.z s.hi.z i.z) on_x.1 in
    record {
      x = between_on_axis s.lo.x s.hi.x i.x on_x.0 on.lo.x on.hi.x;
      y = between_on_axis s.lo.y s.hi.y i.y on_y.0 on.lo.y on.hi.y;
      z = between_on_axis s.lo.z s.hi.z i.z on_y.1 on.lo.z on.hi.z;
    }

-- a level of the problem, by its number
module _ (p : Problem) (level : ℕ) (l : Level) (at : Some l ≡ slice_get p.levels level) where
  pub ratio_at : ratio_of p level ≡ l.ratio
  ratio_at = ap (λ (o : Option Level). option_map_or (λ (k : Level). k.ratio) o 1) (sym at)

  pub on_level_at : (i : Index) → IsOnGrid i → IsOnLevel p level i
  on_level_at i on = record { level_there = slice_get_within p.levels level l (sym at); on_grid = on }

-- a level that is not there
module _ (p : Problem) (level : ℕ) (none : None ≡ slice_get p.levels level) where
  pub ratio_of_none : ratio_of p level ≡ 1
  ratio_of_none = ap (λ (o : Option Level). option_map_or (λ (k : Level). k.ratio) o 1) (sym none)

  pub not_there : level < length p.levels → ⊥
  not_there below = elim (slice_get_cases p.levels level).1 [
    | inl (l, within, at, same) ↦ cc
    | inr past ↦ omega (arith, past.0)
  ]

  pub spaces_of_none : (c : Centring) → spaces_of p level c ≡ []
  spaces_of_none c = ap (λ (o : Option Level). option_map_or (λ (k : Level). map (space_of c) k.boxes) o []) (sym none)

in_some_space : (c : Centring) (i : Index) (boxes : List BoxLine) → All HasNearBounds boxes →
    list_any (λ s. is_inside s i) (map (space_of c) boxes) ≡ true → IsOnGrid i
in_some_space c i [] near inside = absurd cc
in_some_space c i (b ∷ rest) near inside =
    by_test (is_inside (space_of c b) i) refl inside (λ rest_inside. in_some_space c i rest (λ k d below. near (suc k) d (omega arith)) rest_inside)
  where
    by_test : (t : Bool) → is_inside (space_of c b) i ≡ t → (t || list_any (λ s. is_inside s i) (map (space_of c) rest)) ≡ true →
        (list_any (λ s. is_inside s i) (map (space_of c) rest) ≡ true → IsOnGrid i) → IsOnGrid i
    by_test true here some later = inside_on_grid (space_of c b) i (space_on_grid c b (near 0 b (omega arith))) here
    by_test false here some later = later some

-- what lies in the index space of a level is near
pub inside_near : (p : Problem) (level : ℕ) (c : Centring) (i : Index) → AreBoundedLevels p → is_in_space p level c i ≡ true → IsNear i
inside_near p level c i bounded inside = by_level (slice_get p.levels level) refl
  where
    by_level : (o : Option Level) → o ≡ slice_get p.levels level → IsNear i
    by_level None none =
        absurd (false≢true (sym (ap (λ (spaces : List Span). list_any (λ s. is_inside s i) spaces) (spaces_of_none p level none c)) ∙ inside))
    by_level (Some l) at =
        near_index i (in_some_space c i l.boxes (bounded.each level l (sym at)).limits.boxes
        (sym (ap (λ (spaces : List Span). list_any (λ s. is_inside s i) spaces) (spaces_at p level c l (sym at))) ∙ inside))
