-- Half-open spans as sets of indexes, and their indexes in order.
use Rattle.std.specs.Prelude.{ℕ, zero, suc, ℤ, pos, negsuc, ◌+◌, ◌+ℤ◌, ◌≤ℤ◌, Bool, ◌&&◌, List, [], ◌∷◌, ◌++◌, map, int_le, int_lt, if◌then◌else◌}
use Rattle.std.specs.Int.{int_gap, int_min, int_max}
use Rattle.std.specs.List.{flat_map}
use Rattle.uts_geom.specs.declared.centring.Axis.{Axis}
use Rattle.uts_geom.specs.declared.centring.Axis.TheVariants.{X, Y, Z}
use Rattle.uts_geom.specs.declared.index.Index.{Index}
use Rattle.uts_geom.specs.declared.span.Span.{Span}

abbrev pub index : ℤ → ℤ → ℤ → Index
index x y z = record { x = x; y = y; z = z }

abbrev pub coordinate : Axis → Index → ℤ
coordinate X i = i.x
coordinate Y i = i.y
coordinate Z i = i.z

-- the number is at least `low`, and below `high`
abbrev pub is_between : ℤ → ℤ → ℤ → Bool
is_between low high n = int_le low n && int_lt n high

-- a span holds the indexes from its low corner up to, and without, its high corner on each axis
abbrev pub is_inside : Span → Index → Bool
is_inside s i = is_between s.lo.x s.hi.x i.x && (is_between s.lo.y s.hi.y i.y && is_between s.lo.z s.hi.z i.z)

-- count numbers from `low` up
abbrev pub counted : ℕ → ℕ → List ℕ
counted low zero = []
counted low (suc count) = counted low count ++ (low + count) ∷ []

-- the numbers from `low` up to, and without, `high`: none where `high` is not above `low`
abbrev pub from_to : ℤ → ℤ → List ℤ
from_to low high = map (λ k. low +ℤ pos k) (counted 0 (int_gap low high))

-- what stands for each row of a span, by its y and z, joined: z outermost, then y
abbrev pub by_rows : {A : Type 0} → Span → (ℤ → ℤ → List A) → List A
by_rows s row = flat_map (λ z. flat_map (λ y. row y z) (from_to s.lo.y s.hi.y)) (from_to s.lo.z s.hi.z)

-- the indexes of a span's row, by ascending x
abbrev pub row_indexes : Span → ℤ → ℤ → List Index
row_indexes s y z = map (λ x. index x y z) (from_to s.lo.x s.hi.x)

-- all indexes of a span in order: x goes fastest, then y, then z
abbrev pub indexes_of : Span → List Index
indexes_of s = by_rows s (row_indexes s)

-- each row by its y and z
abbrev pub all_rows : Span → List (ℤ × ℤ)
all_rows s = by_rows s (λ y z. (y, z) ∷ [])

-- the rows of a span, z outermost, both ascending; none where the span has no indexes
abbrev pub rows_of : Span → List (ℤ × ℤ)
rows_of s = if int_lt s.lo.x s.hi.x then all_rows s else []

-- how many numbers there are along an axis
abbrev pub width_of : Span → ℕ
width_of s = int_gap s.lo.x s.hi.x

abbrev pub height_of : Span → ℕ
height_of s = int_gap s.lo.y s.hi.y

abbrev pub depth_of : Span → ℕ
depth_of s = int_gap s.lo.z s.hi.z

-- the indexes that two spans have in common
abbrev pub meet_of : Span → Span → Span
meet_of a b = record {
  lo = index (int_max a.lo.x b.lo.x) (int_max a.lo.y b.lo.y) (int_max a.lo.z b.lo.z);
  hi = index (int_min a.hi.x b.hi.x) (int_min a.hi.y b.hi.y) (int_min a.hi.z b.hi.z);
}

-- its low corner lies below its high corner on each axis
abbrev pub has_indexes : Span → Bool
has_indexes s = int_lt s.lo.x s.hi.x && (int_lt s.lo.y s.hi.y && int_lt s.lo.z s.hi.z)

-- two spans have an index in common
abbrev pub do_meet : Span → Span → Bool
do_meet a b = has_indexes (meet_of a b)

-- coordinates for which sizes and places are computed lie from -65,536 to 65,536
abbrev pub IsNearNumber : ℤ → Type 0
IsNearNumber n = (negsuc 65535 ≤ℤ n) × (n ≤ℤ pos 65536)

pub record IsNear (i : Index) : Type 0 where
  pub x : IsNearNumber i.x
  pub y : IsNearNumber i.y
  pub z : IsNearNumber i.z

pub record IsNearSpan (s : Span) : Type 0 where
  pub lo : IsNear s.lo
  pub hi : IsNear s.hi
