-- The index spaces of levels as spans, and the ratios between levels.
use Rattle.std.proofs.Common.{◌≡◌, ◌∙◌, ◌⊎◌, inl, inr, ℕ, ℤ, zero, suc, List, [], ◌∷◌, map, Bool, true, false, Option, Some, refl, ap, arith, append-nil}
use Rattle.std.specs.Prelude.{slice_get, ◌||◌}
use Rattle.std.specs.List.{flat_map, list_any}
use Rattle.std.specs.Option.{option_map_or}
use Rattle.uts_geom.specs.Spans.{is_inside, row_indexes, indexes_of as indexes_of_span, IsNearSpan}
use Rattle.uts_geom.specs.declared.centring.Centring.{Centring}
use Rattle.uts_geom.specs.declared.index.Index.{Index}
use Rattle.uts_geom.specs.declared.span.Span.{Span}
use Rattle.problem_types.specs.Levels.{KeepsGridLimits}
use Rattle.problem_types.specs.NearSpaces.{level_near}
use Rattle.problem_types.specs.Regions.{space_of, spaces_of, spaces_on, is_in_space, indexes_of}
use Rattle.problem_types.specs.declared.problem.Level.{Level}
use Rattle.problem_types.specs.declared.problem.Problem.{Problem}
use Rattle.grid_levels.specs.Good.{HasGoodRatio}

-- a level is refined by 1, 2 or 4
abbrev pub IsRatio : ℕ → Type 0
IsRatio ratio = (ratio ≡ 1) ⊎ ((ratio ≡ 2) ⊎ (ratio ≡ 4))

-- the span has just the indexes that a centring has on a level: it is the level's index space, or empty where there is no such level
pub record IsSpaceOn (p : Problem) (level : ℕ) (c : Centring) (s : Span) : Type 0 where
  pub near : IsNearSpan s
  pub inside : (i : Index) → is_in_space p level c i ≡ is_inside s i
  pub indexes : indexes_of p level c ≡ indexes_of_span s
  pub rows : (y z : ℤ) → flat_map (λ t. row_indexes t y z) (spaces_of p level c) ≡ row_indexes s y z

-- ---- what follows

pub good_ratio : (level : ℕ) (l : Level) → HasGoodRatio level l → IsRatio l.ratio
good_ratio zero l good = inl (good.0 refl)
good_ratio (suc level) l good = inr (good.1 (omega arith))

pub spaces_at : (p : Problem) (level : ℕ) (c : Centring) (l : Level) → slice_get p.levels level ≡ Some l → spaces_of p level c ≡ spaces_on c l
spaces_at p level c l at = ap (λ (o : Option Level). option_map_or (λ (m : Level). map (space_of c) m.boxes) o []) at

or_none : (b : Bool) → (b || false) ≡ b
or_none true = refl
or_none false = refl

-- where a level has one index space, it is that one
pub one_space : (p : Problem) (level : ℕ) (c : Centring) (s : Span) → IsNearSpan s → spaces_of p level c ≡ s ∷ [] → IsSpaceOn p level c s
one_space p level c s near one = record {
  near = near;
  inside = λ i. ap (list_any (λ (t : Span). is_inside t i)) one ∙ or_none (is_inside s i);
  indexes = ap (flat_map indexes_of_span) one ∙ append-nil (indexes_of_span s);
  rows = λ y z. ap (flat_map (λ (t : Span). row_indexes t y z)) one ∙ append-nil (row_indexes s y z);
}

-- the index space of a level that the problem has
pub space_on_level : (p : Problem) (level : ℕ) (c : Centring) (l : Level) (s : Span) → slice_get p.levels level ≡ Some l → KeepsGridLimits l →
    spaces_on c l ≡ s ∷ [] → IsSpaceOn p level c s
space_on_level p level c l s at limits one = one_space p level c s (level_near c l s limits one) (spaces_at p level c l at ∙ one)
