-- What the patches of a level own.
use Rattle.std.specs.Prelude.{ℕ, ◌<◌, ◌==◌, Bool, ◌&&◌, List, [], length, filter, find, unwrap_or, IsTrue, slice_index, slice_index_or}
use Rattle.uts_geom.specs.Centrings.{is_point_like}
use Rattle.uts_geom.specs.Spans.{index, is_inside, counted, do_meet}
use Rattle.uts_geom.specs.declared.centring.Axis.TheVariants.{X, Y, Z}
use Rattle.uts_geom.specs.declared.centring.Centring.{Centring}
use Rattle.uts_geom.specs.declared.index.Index.{Index}
use Rattle.uts_geom.specs.declared.span.Span.{Span}
use Rattle.problem_types.specs.Levels.{cells_of}
use Rattle.problem_types.specs.Regions.{end_of}
use Rattle.problem_types.specs.declared.problem.BoxLine.{BoxLine}
use Rattle.problem_types.specs.declared.problem.Level.{Level}

-- the line of a patch by its number, and one without cells beyond the last
abbrev pub patch_at : Level → ℕ → BoxLine
patch_at l patch = slice_index_or l.patches patch (record { line = 0; lo = []; hi = [] })

-- The box in which a patch lies: the first whose cells hold the patch's low corner. A patch that starts in none counts as its own box.
abbrev pub box_of : List BoxLine → BoxLine → BoxLine
box_of boxes patch = unwrap_or (find (λ b. is_inside (cells_of b) (cells_of patch).lo) boxes) patch

-- the cells of a patch, and its high bound besides on the axes that say so
abbrev pub reaching : BoxLine → (x y z : Bool) → Span
reaching patch x y z = record {
  lo = (cells_of patch).lo;
  hi = index (end_of x (slice_index patch.hi 0)) (end_of y (slice_index patch.hi 1)) (end_of z (slice_index patch.hi 2));
}

-- What a patch of a box owns: its high bound besides where the centring is point-like on the axis and the patch ends where the box does.
abbrev pub owned_in : Centring → BoxLine → BoxLine → Span
owned_in c b patch = reaching patch (is_point_like c X && (slice_index patch.hi 0 == slice_index b.hi 0))
    (is_point_like c Y && (slice_index patch.hi 1 == slice_index b.hi 1))
    (is_point_like c Z && (slice_index patch.hi 2 == slice_index b.hi 2))

-- what a patch of the level owns, by its number
abbrev pub owned_span : Centring → Level → ℕ → Span
owned_span c l patch = owned_in c (box_of l.boxes (patch_at l patch)) (patch_at l patch)

abbrev pub Owns : Centring → Level → ℕ → Index → Type 0
Owns c l patch i = (patch < length l.patches) × IsTrue (is_inside (owned_span c l patch) i)

-- the patches that own an index of the span, by ascending number
abbrev pub touching_patches : Centring → Level → Span → List ℕ
touching_patches c l s = filter (λ patch. do_meet (owned_span c l patch) s) (counted 0 (length l.patches))
