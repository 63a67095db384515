-- The bounds of what patches own, each in a column by itself.
use Rattle.std.specs.Prelude.{◌≡◌, ℕ, ℤ, pos, ◌<◌, ◌≤◌, IsTrue, int_lt, nat_lt, length, slice_index}
use Rattle.uts_geom.specs.declared.centring.Centring.{Centring}
use Rattle.uts_geom.specs.declared.span.Span.{Span}
use Rattle.problem_types.specs.declared.problem.Level.{Level}
use Rattle.uts_geom.specs.Spans.{has_indexes}
use Rattle.patch_regions.specs.Regions.{owned_span}
use Rattle.task_check.specs.declared.plan.columns.Column.{Column}
use Rattle.task_check.specs.declared.plan.columns.Columns.{Columns}
use Rattle.task_check.specs.declared.plan.columns.Interval.{Interval}
use Rattle.task_check.specs.declared.plan.columns.Window.{Window}

-- at this place the column has these bounds
pub record HasBounds (c : Column) (place : ℕ) (low high : ℤ) : Type 0 where
  pub low_is : pos (slice_index c.low place) ≡ low
  pub high_is : pos (slice_index c.high place) ≡ high

-- at this place the columns have the bounds of the span, which has indexes
pub record HasSpan (columns : Columns) (place : ℕ) (s : Span) : Type 0 where
  pub x : HasBounds columns.x place s.lo.x s.hi.x
  pub y : HasBounds columns.y place s.lo.y s.hi.y
  pub z : HasBounds columns.z place s.lo.z s.hi.z
  pub some : IsTrue (has_indexes s)

-- the columns have the bounds of what the patches of the level own
pub record HasOwned (columns : Columns) (c : Centring) (l : Level) : Type 0 where
  pub count : columns.count ≡ length l.patches
  pub spans : (patch : ℕ) → patch < length l.patches → HasSpan columns patch (owned_span c l patch)

-- A cut interval tells of low and high bounds that a column may have whether they are below, or above, those of the whole one.
pub record IsCut (i : Interval) (low high : ℤ) : Type 0 where
  pub above : (n : ℕ) → n < 65535 → nat_lt n i.high ≡ int_lt (pos n) high
  pub below : (n : ℕ) → 0 < n → n ≤ 65535 → nat_lt i.low n ≡ int_lt low (pos n)

pub record IsCutWindow (w : Window) (s : Span) : Type 0 where
  pub x : IsCut w.x s.lo.x s.hi.x
  pub y : IsCut w.y s.lo.y s.hi.y
  pub z : IsCut w.z s.lo.z s.hi.z
