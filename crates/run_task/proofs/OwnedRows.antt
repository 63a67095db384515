-- The rows of what a patch owns, and the places of scratch that kernels need along them.
use Rattle.std.proofs.Common.{◌≤◌, ◌<◌, ◌+◌, ◌*◌, ℕ, pos, Option, Some, None, Bool, true, false, length, arith}
use Rattle.std.specs.Prelude.{◌&&◌, ◌==◌, slice_index, slice_get}
use Rattle.std.specs.Option.{option_map_or}
use Rattle.std.specs.Int.{int_gap}
use Rattle.std.proofs.Math.Nat.{mul-le-mul}
use Rattle.std.proofs.lemmas.Int.{ints}
use Rattle.uts_geom.specs.Centrings.{is_point_like}
use Rattle.uts_geom.specs.Spans.{width_of}
use Rattle.uts_geom.specs.declared.centring.Axis.TheVariants.{X}
use Rattle.uts_geom.specs.declared.centring.Centring.{Centring}
use Rattle.uts_geom.specs.declared.centring.Centring.TheVariants.{Node}
use Rattle.uts_geom.specs.declared.span.Span.{Span}
use Rattle.problem_types.specs.Levels.{KeepsGridLimits}
use Rattle.problem_types.specs.Regions.{end_of}
use Rattle.problem_types.specs.declared.problem.Level.{Level}
use Rattle.problem_types.specs.declared.problem.Problem.{Problem}
use Rattle.kernel_rows.specs.Scratch.{scratch_of}
use Rattle.patch_regions.specs.Regions.{box_of, owned_span, patch_at}
use Rattle.slot_contents.specs.Contents.{owned_on}
use Rattle.patch_regions.specs.OnGrid.{near_patch}

short : (e : Bool) (low high : ℕ) → high ≤ 4096 → int_gap (pos low) (end_of e high) ≤ 4097
short true low high near = omega (arith, ints)
short false low high near = omega (arith, ints)

pub short_rows : (c : Centring) (l : Level) (patch : ℕ) → KeepsGridLimits l → patch < length l.patches → width_of (owned_span c l patch) ≤ 4097
short_rows c l patch limits below =
    let q = patch_at l patch in
    short _ (slice_index q.lo 0) (slice_index q.hi 0) (near_patch l patch limits below 0 (omega arith)).1

longest : (point last : Bool) (low high : ℕ) → int_gap (pos low) (end_of (point && last) high) ≤ int_gap (pos low) (end_of last high)
longest true last low high = omega arith
longest false true low high = omega (arith, ints)
longest false false low high = omega arith

-- the rows at nodes are the longest
pub nodes_longest : (c : Centring) (l : Level) (patch : ℕ) → width_of (owned_span c l patch) ≤ width_of (owned_span Node l patch)
nodes_longest c l patch =
    let q = patch_at l patch in
    longest (is_point_like c X) (slice_index q.hi 0 == slice_index (box_of l.boxes q).hi 0) (slice_index q.lo 0) (slice_index q.hi 0)

pub rooms_grow : (narrow wide shallow deep : ℕ) → narrow ≤ wide → shallow ≤ deep → narrow + scratch_of narrow shallow ≤ wide + scratch_of wide deep
rooms_grow narrow wide shallow deep rows depths =
    let parts : narrow * shallow ≤ wide * deep = mul-le-mul rows depths in omega (arith, parts, rows)

pub rooms_small : (width depth : ℕ) → width ≤ 4097 → depth ≤ 4294967295 → width * depth ≤ 17596481011615
rooms_small width depth rows depths = let all : width * depth ≤ 4097 * 4294967295 = mul-le-mul rows depths in omega (arith, all)

longest_by_level : (o : Option Level) (patch : ℕ) (c : Centring) (none : Span) →
    width_of (option_map_or (λ l. owned_span c l patch) o none) ≤ width_of (option_map_or (λ l. owned_span Node l patch) o none)
longest_by_level None patch c none = omega arith
longest_by_level (Some l) patch c none = nodes_longest c l patch

pub rows_at_nodes : (p : Problem) (level patch : ℕ) (c : Centring) → width_of (owned_on p level patch c) ≤ width_of (owned_on p level patch Node)
rows_at_nodes p level patch c = longest_by_level (slice_get p.levels level) patch c _
