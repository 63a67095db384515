-- What a search has found, patch by patch.
use Rattle.std.proofs.Common.{◌≡◌, ◌∙◌, ◌<◌, ◌+◌, ℕ, List, [], ◌∷◌, ◌++◌, Some, length, map, get_or, ap, sym, arith}
use Rattle.std.specs.Prelude.{slice_get}
use Rattle.std.specs.Option.{option_map_or}
use Rattle.std.proofs.lemmas.List.{get_or-map, length-map, map-append}
use Rattle.std.proofs.lemmas.Option.{get_or_from_slice_get, same_Some}
use Rattle.uts_geom.specs.Spans.{counted}
use Rattle.uts_geom.specs.Counting.{counted-at, get_right, length-counted}
use Rattle.uts_geom.specs.declared.centring.Centring.{Centring}
use Rattle.problem_types.specs.declared.problem.Problem.{Problem}
use Rattle.problem_types.specs.declared.problem.Level.{Level}
use Rattle.patch_regions.specs.Regions.{touching_patches}
use Rattle.task_check.specs.Plan.{patches_of}
use Rattle.task_check.specs.Reaches.{reach_window, reached_level}
use Rattle.task_check.specs.declared.plan.reach.Reach.{Reach}
use Rattle.graph_compiler.specs.Searched.{IsFor, IsOf, IsSearched}
use Rattle.graph_compiler.specs.declared.touched.Touched.{Touched}
use Rattle.graph_compiler.proofs.Growing.{counted_more}

-- a list for one number more
pub map_number : {A : Type 0} (f : ℕ → A) (n : ℕ) → map f (counted 0 (n + 1)) ≡ map f (counted 0 n) ++ f n ∷ []
map_number f n = ap (map f) (counted_more n) ∙ map-append f (counted 0 n) (n ∷ [])

pub at_number : {A : Type 0} (f : ℕ → A) (n k : ℕ) (d : A) → k < n → get_or (map f (counted 0 n)) k d ≡ f k
at_number f n k d below =
    get_or-map f (counted 0 n) k 0 d (omega (arith, below, length-counted 0 n)) ∙ ap f (get_or_from_slice_get (counted 0 n) k k 0 (counted-at n k below))

module _ (p : Problem) (level : ℕ) (reach : Reach) (c : Centring) (wanted : Level) (wanted_at : slice_get p.levels (reached_level reach level) ≡ Some wanted) (count : ℕ)
    (patches_are : patches_of p level ≡ counted 0 count) where
  abbrev found : Level → ℕ → List ℕ
  found on patch = touching_patches c wanted (reach_window p reach c level on patch)

  count_is : (l : Level) → slice_get p.levels level ≡ Some l → count ≡ length l.patches
  count_is l at =
      sym (length-counted 0 count) ∙ ap length (sym patches_are) ∙ length-counted 0 (option_map_or (λ k. length k.patches) (slice_get p.levels level) 0)
      ∙ ap (λ o. option_map_or (λ (k : Level). length k.patches) o 0) at

  pub is_searched : (patches : List (List ℕ)) → ((on : Level) → slice_get p.levels level ≡ Some on → patches ≡ map (found on) (counted 0 count))
      → IsSearched p (record { level = level; reach = reach; centring = c; patches = patches })
  is_searched patches all = record {
    size = λ l at. ap length (all l at) ∙ length-map (counted 0 count) (found l) ∙ length-counted 0 count ∙ count_is l at;
    found = λ l other patch at other_at below.
        let same : other ≡ wanted = same_Some other wanted (sym other_at ∙ wanted_at) in
        ap (λ (xs : List (List ℕ)). get_or xs patch []) (all l at)
        ∙ at_number (found l) count patch [] (omega (arith, below, count_is l at))
        ∙ ap (λ (w : Level). touching_patches c w (reach_window p reach c level l patch)) (sym same);
  }

-- the last search is for its windows
pub last_is_for : (level : ℕ) (reach : Reach) (c : Centring) (made more : List Touched) (search : Touched) (place : ℕ) → IsOf level reach c search → more ≡ made ++ search ∷ []
    → place ≡ length made → IsFor level reach c more place
last_is_for level reach c made more search place of grows is = record {
  search = search;
  there = ap (λ (xs : List Touched). slice_get xs place) grows ∙ get_right made (search ∷ []) place 0 (omega (arith, is));
  level_is = of.level_is;
  reach_is = of.reach_is;
  centring_is = of.centring_is;
}
