-- What patches own, together.
use Rattle.std.specs.Prelude.{◌≡◌, ℕ, ◌↔◌, IsTrue, AllPairs}
use Rattle.uts_geom.specs.declared.centring.Centring.{Centring}
use Rattle.uts_geom.specs.declared.index.Index.{Index}
use Rattle.problem_types.specs.Levels.{AreApart, IsTiled, is_on_level}
use Rattle.problem_types.specs.Regions.{space_of}
use Rattle.problem_types.specs.declared.problem.Level.{Level}
use Rattle.patch_regions.specs.Regions.{Owns}

-- no index lies in the index spaces of two boxes of the level
abbrev pub AreBoxesApart : Centring → Level → Type 0
AreBoxesApart c l = AllPairs (λ a b. AreApart (space_of c a) (space_of c b)) l.boxes

-- On a tiled level whose boxes are apart, an index lies in the level's index space exactly where some patch owns it, and one patch at
-- most does.
abbrev pub OwnedSpansTile : Type 0
OwnedSpansTile = (l : Level) (c : Centring) (i : Index) → IsTiled l → AreBoxesApart c l →
    (IsTrue (is_on_level c l i) ↔ ((patch : ℕ) × Owns c l patch i))
    × ((j k : ℕ) → Owns c l j i → Owns c l k i → j ≡ k)
