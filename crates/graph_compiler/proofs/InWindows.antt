-- A search for the windows of a requirement finds the patches that are in them.
use Rattle.std.proofs.Common.{◌≡◌, ◌∙◌, ◌<◌, ℕ, List, [], false, Option, Some, length, filter, ap, sym, subst}
use Rattle.std.specs.Prelude.{slice_get, slice_index_or}
use Rattle.std.specs.Option.{option_map_or}
use Rattle.std.proofs.lemmas.List.Elements.{filter_agree}
use Rattle.uts_geom.specs.Spans.{counted, do_meet}
use Rattle.uts_geom.specs.declared.centring.Centring.{Centring}
use Rattle.uts_geom.specs.declared.span.Span.{Span}
use Rattle.uts_geom.specs.Lists.{all_at}
use Rattle.problem_types.specs.Lists.{centring_of}
use Rattle.problem_types.specs.declared.problem.Problem.{Problem}
use Rattle.problem_types.specs.declared.problem.Level.{Level}
use Rattle.problem_types.specs.declared.problem.Task.{Task}
use Rattle.problem_types.specs.declared.problem.Require.{Require}
use Rattle.patch_regions.specs.Regions.{owned_span, touching_patches}
use Rattle.task_rules.specs.Lines.{wanted_level, wanted_name}
use Rattle.task_check.specs.Plan.{is_in_window, patches_of, wanted_window}
use Rattle.task_check.specs.Reached.{IsReachedBy}
use Rattle.task_check.specs.Reaches.{reach_window, reached_level}
use Rattle.task_check.specs.declared.plan.reach.Reach.{Reach}
use Rattle.graph_compiler.specs.Searched.{AreSearched, IsFor, IsSearched, found_by}
use Rattle.graph_compiler.specs.declared.touched.Touched.{Touched}

-- for each patch of a level the patches that own an index of the window around it
abbrev Finds : Problem → (level : ℕ) → Reach → Centring → List (List ℕ) → Type 0
Finds p level reach c patches = (l wanted : Level) (patch : ℕ) → slice_get p.levels level ≡ Some l → slice_get p.levels (reached_level reach level) ≡ Some wanted
    → patch < length l.patches → slice_index_or patches patch [] ≡ touching_patches c wanted (reach_window p reach c level l patch)

module _ (p : Problem) (level : ℕ) (reach : Reach) (c : Centring) (made : List Touched) (place : ℕ) (searched : AreSearched p made) (is_for : IsFor level reach c made place) where
  finds : Finds p level reach c is_for.search.patches
  finds =
      let search = is_for.search in
      subst (λ (x : Centring). Finds p level reach x search.patches) is_for.centring_is
      (subst (λ (x : Reach). Finds p level x search.centring search.patches) is_for.reach_is
      (subst (λ (x : ℕ). Finds p x search.reach search.centring search.patches) is_for.level_is
      (all_at (IsSearched p) made place search is_for.there searched).found))

  found_is : (patch : ℕ) → found_by made place patch ≡ slice_index_or is_for.search.patches patch []
  found_is patch = ap (λ (o : Option Touched). option_map_or (λ t. slice_index_or t.patches patch []) o []) is_for.there

-- what is found for a requirement
module _ (p : Problem) (t : Task) (r : Require) (level : ℕ) (reach : Reach) (made : List Touched) (search : ℕ) (searched : AreSearched p made)
    (is_for : IsFor level reach (centring_of p (wanted_name r.what)) made search) (reached : IsReachedBy p t r.store r.what reach)
    (l wanted : Level) (at_l : slice_get p.levels level ≡ Some l) (at_wanted : slice_get p.levels (wanted_level r.what level) ≡ Some wanted) where
  abbrev c_wanted : Centring
  c_wanted = centring_of p (wanted_name r.what)

  in_window_is : (patch other : ℕ) → do_meet (owned_span c_wanted wanted other) (reach_window p reach c_wanted level l patch) ≡ is_in_window p t r level patch other
  in_window_is patch other =
      ap (λ (s : Span). do_meet (owned_span c_wanted wanted other) s) (reached.window_is level l patch)
      ∙ sym (ap (λ (o : Option Level). option_map_or (λ fine. do_meet (owned_span c_wanted fine other) (wanted_window p t r.store r.what level l patch)) o false) at_wanted)
      ∙ sym (ap (λ (o : Option Level). option_map_or (λ own. option_map_or (λ fine. do_meet (owned_span c_wanted fine other) (wanted_window p t r.store r.what level own patch))
      (slice_get p.levels (wanted_level r.what level)) false) o false) at_l)

  pub found_in_windows : (patch : ℕ) → patch < length l.patches → found_by made search patch ≡ filter (is_in_window p t r level patch) (patches_of p (wanted_level r.what level))
  found_in_windows patch below =
      found_is p level reach c_wanted made search searched is_for patch
      ∙ finds p level reach c_wanted made search searched is_for l wanted patch at_l (ap (slice_get p.levels) (reached.level_is level) ∙ at_wanted) below
      ∙ filter_agree (λ other. do_meet (owned_span c_wanted wanted other) (reach_window p reach c_wanted level l patch)) (is_in_window p t r level patch) (in_window_is patch) (counted 0 (length wanted.patches))
      ∙ sym (ap (λ (o : Option Level). filter (is_in_window p t r level patch) (counted 0 (option_map_or (λ m. length m.patches) o 0))) at_wanted)
