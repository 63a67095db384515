-- What the searches for windows have found.
use Rattle.std.specs.Prelude.{◌≡◌, ℕ, ◌<◌, Some, List, [], ◌++◌, All, length, slice_get, slice_index_or}
use Rattle.std.specs.Option.{option_map_or}
use Rattle.uts_geom.specs.declared.centring.Centring.{Centring}
use Rattle.problem_types.specs.declared.problem.Problem.{Problem}
use Rattle.problem_types.specs.declared.problem.Level.{Level}
use Rattle.patch_regions.specs.Regions.{touching_patches}
use Rattle.task_check.specs.Reaches.{reach_window, reached_level}
use Rattle.task_check.specs.declared.plan.reach.Reach.{Reach}
use Rattle.graph_compiler.specs.declared.touched.Touched.{Touched}

-- for each patch of its level the search has the patches of the level that is reached which own an index of the window around it
pub record IsSearched (p : Problem) (search : Touched) : Type 0 where
  pub size : (l : Level) → slice_get p.levels search.level ≡ Some l → length search.patches ≡ length l.patches
  pub found : (l wanted : Level) (patch : ℕ) → slice_get p.levels search.level ≡ Some l
      → slice_get p.levels (reached_level search.reach search.level) ≡ Some wanted → patch < length l.patches
      → slice_index_or search.patches patch [] ≡ touching_patches search.centring wanted (reach_window p search.reach search.centring search.level l patch)

abbrev pub AreSearched : Problem → List Touched → Type 0
AreSearched p made = All (IsSearched p) made

-- the patches that a search has found for a patch
abbrev pub found_by : List Touched → (search patch : ℕ) → List ℕ
found_by made search patch = option_map_or (λ t. slice_index_or t.patches patch []) (slice_get made search) []

-- more searches were made
abbrev pub AreMore : (before after : List Touched) → Type 0
AreMore before after = (more : List Touched) × (after ≡ before ++ more)

-- the search is of these windows
pub record IsOf (level : ℕ) (reach : Reach) (c : Centring) (search : Touched) : Type 0 where
  pub level_is : search.level ≡ level
  pub reach_is : search.reach ≡ reach
  pub centring_is : search.centring ≡ c

-- the search at this place is of these windows
pub record IsFor (level : ℕ) (reach : Reach) (c : Centring) (made : List Touched) (place : ℕ) : Type 0 where
  pub search : Touched
  pub there : slice_get made place ≡ Some search
  pub level_is : search.level ≡ level
  pub reach_is : search.reach ≡ reach
  pub centring_is : search.centring ≡ c
