-- The windows of requirements, and what patches own, have near coordinates.
use Rattle.std.proofs.Common.{◌≡◌, ◌≤◌, ◌<◌, ◌+◌, inl, inr, ◌⊎◌, ℕ, ℤ, pos, negsuc, ◌+ℤ◌, ◌*ℤ◌, Bool, true, false, length, arith}
use Rattle.std.specs.Prelude.{if◌then◌else◌}
use Rattle.std.specs.Int.{int_div_euclid}
use Rattle.std.proofs.lemmas.Int.{ints}
use Rattle.kernel_ast.specs.declared.expression.Store.{Store}
use Rattle.kernel_ast.specs.declared.expression.Store.TheVariants as store
use Rattle.uts_geom.specs.Centrings.{is_point_like}
use Rattle.uts_geom.specs.Spans.{IsNearNumber, IsNearSpan}
use Rattle.uts_geom.specs.declared.centring.Axis.TheVariants.{X, Y, Z}
use Rattle.uts_geom.specs.declared.centring.Centring.{Centring}
use Rattle.uts_geom.specs.declared.span.Span.{Span}
use Rattle.problem_types.specs.Levels.{KeepsGridLimits, cells_of}
use Rattle.problem_types.specs.Lists.{centring_of}
use Rattle.problem_types.specs.Regions.{ratio_of}
use Rattle.problem_types.specs.declared.problem.Ghost.{Ghost}
use Rattle.problem_types.specs.declared.problem.GhostKind.{GhostKind}
use Rattle.problem_types.specs.declared.problem.GhostKind.TheVariants as kind
use Rattle.problem_types.specs.declared.problem.Level.{Level}
use Rattle.problem_types.specs.declared.problem.Problem.{Problem}
use Rattle.problem_types.specs.declared.problem.Task.{Task}
use Rattle.problem_types.specs.declared.problem.What.{What}
use Rattle.problem_types.specs.declared.problem.What.TheVariants as what
use Rattle.grid_levels.specs.Good.{divided}
use Rattle.problem_types.specs.NearSpaces.{IsOnAxis, IsOnGridSpan, near_span}
use Rattle.patch_regions.specs.Regions.{patch_at}
use Rattle.patch_regions.specs.OnGrid.{near_patch, owned_near, reaching_on_grid}
use Rattle.ghost_rules.specs.FewLayers.{few_along}
use Rattle.ghost_rules.specs.Windows.{along, window_begin, window_end, window_of, AreFew, AreFewSeen}
use Rattle.ghost_rules.specs.declared.along.Along.{Along}
use Rattle.ghost_rules.specs.declared.along.Along.TheVariants.{Nothing, Intervals, Points, Own}
use Rattle.ghost_rules.specs.declared.seen.Seen.{Seen}
use Rattle.ghost_rules.specs.declared.seen.Seen.TheVariants as seen
use Rattle.uts_model.specs.Spaces.{IsRatio}
use Rattle.task_check.specs.Plan.{refined, wanted_window, window_seen}
use Rattle.task_check.specs.Supplies.{layers_of, seen_by_kind, seen_of}

-- ---- windows with layers

begins_near : (a : Along) (point : Bool) (n : ℤ) → AreFew a → IsOnAxis n → IsNearNumber (n +ℤ window_begin a point)
begins_near Nothing point n few on = let from = on.0 in let to = on.1 in (omega (arith, ints, from, to), omega (arith, ints, from, to))
begins_near (Intervals k) false n few on = let from = on.0 in let to = on.1 in (omega (arith, ints, from, to), omega (arith, ints, from, to))
begins_near (Intervals k) true n few on = let from = on.0 in let to = on.1 in (omega (arith, ints, from, to), omega (arith, ints, from, to))
begins_near (Points k) point n few on = let from = on.0 in let to = on.1 in (omega (arith, ints, from, to), omega (arith, ints, from, to))
begins_near Own point n few on = let from = on.0 in let to = on.1 in (omega (arith, ints, from, to), omega (arith, ints, from, to))

ends_near : (a : Along) (point : Bool) (n : ℤ) → AreFew a → IsOnAxis n → IsNearNumber (n +ℤ window_end a point false)
ends_near Nothing false n few on = let from = on.0 in let to = on.1 in (omega (arith, ints, from, to), omega (arith, ints, from, to))
ends_near Nothing true n few on = let from = on.0 in let to = on.1 in (omega (arith, ints, from, to), omega (arith, ints, from, to))
ends_near (Intervals k) point n few on = let from = on.0 in let to = on.1 in (omega (arith, ints, from, to), omega (arith, ints, from, to))
ends_near (Points k) false n few on = let from = on.0 in let to = on.1 in (omega (arith, ints, from, to), omega (arith, ints, from, to))
ends_near (Points k) true n few on = let from = on.0 in let to = on.1 in (omega (arith, ints, from, to), omega (arith, ints, from, to))
ends_near Own true n few on = let from = on.0 in let to = on.1 in (omega (arith, ints, from, to), omega (arith, ints, from, to))
ends_near Own false n few on = let from = on.0 in let to = on.1 in (omega (arith, ints, from, to), omega (arith, ints, from, to))

window_near : (layers : Ghost) (c : Centring) (s : Span) → layers.n ≤ 8 → IsOnGridSpan s → IsNearSpan (window_of layers c s)
window_near layers c s few on = record {
  lo = record {
    x = begins_near (along layers X) (is_point_like c X) s.lo.x (few_along layers.kind layers.n X few) on.lo.x;
    y = begins_near (along layers Y) (is_point_like c Y) s.lo.y (few_along layers.kind layers.n Y few) on.lo.y;
    z = begins_near (along layers Z) (is_point_like c Z) s.lo.z (few_along layers.kind layers.n Z few) on.lo.z;
  };
  hi = record {
    x = ends_near (along layers X) (is_point_like c X) s.hi.x (few_along layers.kind layers.n X few) on.hi.x;
    y = ends_near (along layers Y) (is_point_like c Y) s.hi.y (few_along layers.kind layers.n Y few) on.hi.y;
    z = ends_near (along layers Z) (is_point_like c Z) s.hi.z (few_along layers.kind layers.n Z few) on.hi.z;
  };
}

-- ---- patches on the next coarser level, and on the next finer one

divided_on_grid : (ratio : ℕ) (n : ℤ) → IsRatio ratio → IsOnAxis n → IsOnAxis (int_div_euclid n (pos ratio))
divided_on_grid ratio (negsuc n) is on = let from = on.0 in absurd (omega (arith, ints, from))
divided_on_grid ratio (pos n) (inl one) on = rw one (let to = on.1 in (omega (arith, ints, to), omega (arith, ints, to)))
divided_on_grid ratio (pos n) (inr (inl two)) on = rw two (let to = on.1 in (omega (arith, ints, to), omega (arith, ints, to)))
divided_on_grid ratio (pos n) (inr (inr four)) on = rw four (let to = on.1 in (omega (arith, ints, to), omega (arith, ints, to)))

divided_are : (ratio : ℕ) (s : Span) → IsRatio ratio → IsOnGridSpan s → IsOnGridSpan (divided ratio s)
divided_are ratio s is on = record {
  lo = record { x = divided_on_grid ratio s.lo.x is on.lo.x; y = divided_on_grid ratio s.lo.y is on.lo.y; z = divided_on_grid ratio s.lo.z is on.lo.z };
  hi = record { x = divided_on_grid ratio s.hi.x is on.hi.x; y = divided_on_grid ratio s.hi.y is on.hi.y; z = divided_on_grid ratio s.hi.z is on.hi.z };
}

times_near : (ratio : ℕ) (n : ℤ) (point : Bool) → IsRatio ratio → IsOnAxis n → IsNearNumber (pos ratio *ℤ n +ℤ (if point then pos 1 else pos 0))
times_near ratio n true (inl one) on = rw one (let from = on.0 in let to = on.1 in (omega (arith, ints, from, to), omega (arith, ints, from, to)))
times_near ratio n false (inl one) on = rw one (let from = on.0 in let to = on.1 in (omega (arith, ints, from, to), omega (arith, ints, from, to)))
times_near ratio n true (inr (inl two)) on = rw two (let from = on.0 in let to = on.1 in (omega (arith, ints, from, to), omega (arith, ints, from, to)))
times_near ratio n false (inr (inl two)) on = rw two (let from = on.0 in let to = on.1 in (omega (arith, ints, from, to), omega (arith, ints, from, to)))
times_near ratio n true (inr (inr four)) on = rw four (let from = on.0 in let to = on.1 in (omega (arith, ints, from, to), omega (arith, ints, from, to)))
times_near ratio n false (inr (inr four)) on = rw four (let from = on.0 in let to = on.1 in (omega (arith, ints, from, to), omega (arith, ints, from, to)))

product_near : (ratio : ℕ) (n : ℤ) → IsRatio ratio → IsOnAxis n → IsNearNumber (pos ratio *ℤ n)
product_near ratio n (inl one) on = rw one (let from = on.0 in let to = on.1 in (omega (arith, ints, from, to), omega (arith, ints, from, to)))
product_near ratio n (inr (inl two)) on = rw two (let from = on.0 in let to = on.1 in (omega (arith, ints, from, to), omega (arith, ints, from, to)))
product_near ratio n (inr (inr four)) on = rw four (let from = on.0 in let to = on.1 in (omega (arith, ints, from, to), omega (arith, ints, from, to)))

refined_near : (ratio : ℕ) (c : Centring) (s : Span) → IsRatio ratio → IsOnGridSpan s → IsNearSpan (refined c ratio s)
refined_near ratio c s is on = record {
  lo = record { x = product_near ratio s.lo.x is on.lo.x; y = product_near ratio s.lo.y is on.lo.y; z = product_near ratio s.lo.z is on.lo.z };
  hi = record {
    x = times_near ratio s.hi.x (is_point_like c X) is on.hi.x;
    y = times_near ratio s.hi.y (is_point_like c Y) is on.hi.y;
    z = times_near ratio s.hi.z (is_point_like c Z) is on.hi.z;
  };
}

-- ---- the windows of requirements

module _ (p : Problem) (t : Task) (at : Store) (level : ℕ) (l : Level) (patch : ℕ) (limits : KeepsGridLimits l) (below : patch < length l.patches)
    (coarse : IsRatio (ratio_of p level)) (fine : IsRatio (ratio_of p (level + 1))) where
  cells_on_grid : IsOnGridSpan (cells_of (patch_at l patch))
  cells_on_grid = reaching_on_grid (patch_at l patch) false false false (near_patch l patch limits below)

  seen_near : (s : Seen) (c : Centring) → AreFewSeen s → IsNearSpan (window_seen s c l patch)
  seen_near (seen.Ghosted layers) c few = window_near layers c (cells_of (patch_at l patch)) few cells_on_grid
  seen_near seen.Own c few = owned_near c l patch limits below

  few_by_kind : (modifies : Bool) (layers : Ghost) (k : GhostKind) (s : Store) → layers.n ≤ 8 → AreFewSeen (seen_by_kind modifies layers k s)
  few_by_kind false layers k s few = few
  few_by_kind true layers kind.None store.New few = tt
  few_by_kind true layers kind.None store.Old few = few
  few_by_kind true layers kind.Cells s few = few
  few_by_kind true layers kind.Nodes s few = few
  few_by_kind true layers kind.FaceX s few = few
  few_by_kind true layers kind.FaceY s few = few
  few_by_kind true layers kind.FaceZ s few = few

  pub wanted_near : (w : What) → layers_of w ≤ 8 → IsNearSpan (wanted_window p t at w level l patch)
  wanted_near (what.Same var layers) few = seen_near (seen_of t var at layers) (centring_of p var) (few_by_kind _ layers layers.kind at few)
  wanted_near (what.Coarse var layers) few =
      window_near layers (centring_of p var) (divided (ratio_of p level) (cells_of (patch_at l patch))) few
      (divided_are (ratio_of p level) (cells_of (patch_at l patch)) coarse cells_on_grid)
  wanted_near (what.Fine var) few = refined_near (ratio_of p (level + 1)) (centring_of p var) (cells_of (patch_at l patch)) fine cells_on_grid
  wanted_near (what.Number name) few = near_span (cells_of (patch_at l patch)) cells_on_grid
