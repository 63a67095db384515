-- The index spaces of levels.
use Rattle.std.proofs.Common.{◌≡◌, ◌≢◌, ◌∙◌, ◌≤◌, ◌<◌, inl, inr, ℕ, pos, List, [], ◌∷◌, length, map, Bool, true, false, Option, Some, refl, ap, sym, subst, arith, append-nil}
use Rattle.std.specs.Prelude.{All, AllPairs, Contains, IsTrue, slice_get, slice_index, ◌||◌, ◌↔◌}
use Rattle.std.specs.List.{flat_map, list_any}
use Rattle.std.specs.Option.{option_map_or}
use Rattle.std.proofs.lemmas.Int.{ints}
use Rattle.std.proofs.lemmas.List.Elements.{All-head}
use Rattle.std.proofs.lemmas.Option.{slice_get_cases}
use Rattle.uts_geom.specs.Spans.{is_inside, indexes_of, row_indexes, IsNearNumber, IsNearSpan}
use Rattle.uts_geom.specs.declared.centring.Centring.{Centring}
use Rattle.uts_geom.specs.declared.index.Index.{Index}
use Rattle.uts_geom.specs.declared.span.Span.{Span}
use Rattle.problem_types.specs.Levels.{HasNearBounds, KeepsGridLimits}
use Rattle.problem_types.specs.Regions.{end_of, indexes_of as indexes_on_level, is_in_space, space_of, spaces_of, spaces_on}
use Rattle.problem_types.specs.NearSpaces.{level_near}
use Rattle.problem_types.specs.declared.problem.BoxLine.{BoxLine}
use Rattle.problem_types.specs.declared.problem.Level.{Level}
use Rattle.problem_types.specs.declared.problem.Problem.{Problem}
use Rattle.task_check.specs.Bounds.{IsBounded}
use Rattle.uts_model.specs.Spaces.{IsSpaceOn, space_on_level}

one_item : {A : Type 0} (items : List A) → length items ≡ 1 → (item : A) × (items ≡ item ∷ [])
one_item [] one = absurd cc
one_item (a ∷ []) one = (a, refl)
one_item (a ∷ b ∷ items) one = absurd (omega arith)

-- each level of a problem within the limits has an index space
pub some_space : (p : Problem) (level : ℕ) (c : Centring) → IsBounded p → level < length p.levels → (s : Span) × IsSpaceOn p level c s
some_space p level c bounded below =
    elim (slice_get_cases p.levels level).1 [
      | inl (l, within, at, same) ↦
          let limits = (bounded.levels level l at).limits in
          let box = one_item l.boxes limits.one_box in
          (space_of c box.0, space_on_level p level c l (space_of c box.0) at limits (ap (map (space_of c)) box.1))
      | inr past ↦ absurd (omega (arith, past.0))
    ]

-- the indexes of a space, by the laws of spans
module _ (p : Problem) (level : ℕ) (c : Centring) (s : Span) (space : IsSpaceOn p level c s) where
  pub space_has : ((s : Span) (i : Index) → Contains (indexes_of s) i ↔ IsTrue (is_inside s i)) →
      (i : Index) → IsTrue (is_in_space p level c i) → Contains (indexes_on_level p level c) i
  space_has holds i inside = subst (λ (indexes : List Index). Contains indexes i) (sym space.indexes) ((holds s i).1 (sym (space.inside i) ∙ inside))

  pub space_has_once : ((s : Span) → AllPairs ◌≢◌ (indexes_of s)) → AllPairs ◌≢◌ (indexes_on_level p level c)
  space_has_once once = subst (λ (indexes : List Index). AllPairs ◌≢◌ indexes) (sym space.indexes) (once s)
