-- Sources of several requirements, and sources where more searches are made.
use Rattle.std.proofs.Common.{◌≡◌, ◌∙◌, ◌<◌, ◌+◌, ◌*◌, ℕ, List, [], ◌∷◌, ◌++◌, Bool, Option, length, map, take, get_or, ap, sym, refl, arith, subst, append_assoc, length-append}
use Rattle.std.specs.Prelude.{slice_index, slice_index_or, All, ◌||◌}
use Rattle.std.specs.List.{list_any}
use Rattle.std.specs.Option.{option_map_or, option_to_list}
use Rattle.std.proofs.lemmas.List.{take_more}
use Rattle.std.proofs.lemmas.List.Elements.{All-append, All-head, All-tail, All-weaker}
use Rattle.std.proofs.lemmas.List.Folds.{list_any-append}
use Rattle.uts_geom.specs.Counting.{get_left}
use Rattle.problem_types.specs.declared.problem.Problem.{Problem}
use Rattle.problem_types.specs.declared.problem.Require.{Require}
use Rattle.problem_types.specs.declared.problem.Task.{Task}
use Rattle.task_check.specs.Plan.{slots_of, wants}
use Rattle.graph_types.specs.Graph.{has}
use Rattle.graph_compiler.specs.Searched.{AreMore, AreSearched, found_by}
use Rattle.graph_compiler.specs.Sources.{AreSourcesOf, IsMade, slots_from}
use Rattle.graph_compiler.specs.declared.sources.Source.{Source}
use Rattle.graph_compiler.specs.declared.sources.Source.TheVariants as source
use Rattle.graph_compiler.specs.declared.touched.Touched.{Touched}

-- more searches, one after another
pub more_then : (a b c : List Touched) → AreMore a b → AreMore b c → AreMore a c
more_then a b c first second = (first.0 ++ second.0, second.1 ∙ ap (λ xs. xs ++ second.0) first.1 ∙ append_assoc a first.0 second.0)

-- what a source says stays where more searches are made
module _ (made more : List Touched) where
  found_kept : (search patch : ℕ) → search < length made → found_by (made ++ more) search patch ≡ found_by made search patch
  found_kept search patch below = ap (λ (o : Option Touched). option_map_or (λ t. slice_index_or t.patches patch []) o []) (get_left made more search below)

  slots_kept : (old : List ℕ) (patch : ℕ) (s : Source) → IsMade made s → slots_from (made ++ more) old patch s ≡ slots_from made old patch s
  slots_kept old patch (source.Number slot) is = refl
  slots_kept old patch (source.New search first lines) is = ap (map (λ (other : ℕ). first + other * lines)) (found_kept search patch is)
  slots_kept old patch (source.Old search first) is = ap (map (λ (other : ℕ). slice_index old (first + other))) (found_kept search patch is)

  made_kept : (s : Source) → IsMade made s → IsMade (made ++ more) s
  made_kept (source.Number slot) is = tt
  made_kept (source.New search first lines) is = omega (arith, is, length-append made more)
  made_kept (source.Old search first) is = omega (arith, is, length-append made more)

any_alike : {A : Type 0} (f g : A → Bool) (xs : List A) → All (λ x. f x ≡ g x) xs → list_any f xs ≡ list_any g xs
any_alike f g [] same = refl
any_alike f g (x ∷ xs) same = ap (λ b. b || list_any f xs) (All-head (λ y. f y ≡ g y) x xs same) ∙ ap (λ b. g x || b) (any_alike f g xs (All-tail (λ y. f y ≡ g y) x xs same))

module _ (p : Problem) (tasks : List Task) (task : ℕ) (t : Task) (level material : ℕ) (old : List ℕ) where
  kept_by : (rs : List Require) (made more : List Touched) (sources : List Source) → AreSourcesOf p tasks task t level material rs made old sources →
      AreSourcesOf p tasks task t level material rs (made ++ more) old sources
  kept_by rs made more sources before = record {
    searched = All-weaker (IsMade made) (IsMade (made ++ more)) (made_kept made more) sources before.searched;
    within = λ patch below. λ i s on. subst (All (λ place. place < length (slots_of p tasks)))
        (sym (slots_kept made more old patch (get_or sources i s) (before.searched i s on))) (before.within patch below i s on);
    wanted = λ patch place s below at.
        any_alike (λ x. has (slots_from (made ++ more) old patch x) place) (λ x. has (slots_from made old patch x) place) sources
        (λ i x on. ap (λ slots. has slots place) (slots_kept made more old patch (get_or sources i x) (before.searched i x on)))
        ∙ before.wanted patch place s below at;
  }

  pub sources_kept : (rs : List Require) (made after : List Touched) (sources : List Source) → AreMore made after → AreSourcesOf p tasks task t level material rs made old sources →
      AreSourcesOf p tasks task t level material rs after old sources
  sources_kept rs made after sources more before =
      subst (λ (xs : List Touched). AreSourcesOf p tasks task t level material rs xs old sources) (sym more.1) (kept_by rs made more.0 sources before)

  pub sources_joined : (made : List Touched) (rs new_rs : List Require) (sources new : List Source) → AreSourcesOf p tasks task t level material rs made old sources →
      AreSourcesOf p tasks task t level material new_rs made old new → AreSourcesOf p tasks task t level material (rs ++ new_rs) made old (sources ++ new)
  sources_joined made rs new_rs sources new before here = record {
    searched = All-append (IsMade made) sources new before.searched here.searched;
    within = λ patch below. All-append (λ s. All (λ place. place < length (slots_of p tasks)) (slots_from made old patch s)) sources new (before.within patch below) (here.within patch below);
    wanted = λ patch place s below at.
        list_any-append (λ x. has (slots_from made old patch x) place) sources new
        ∙ ap (λ b. b || list_any (λ x. has (slots_from made old patch x) place) new) (before.wanted patch place s below at)
        ∙ ap (λ b. list_any (wants p tasks task t level material patch s) rs || b) (here.wanted patch place s below at)
        ∙ sym (list_any-append (wants p tasks task t level material patch s) rs new_rs);
  }

-- what the loop over requirements keeps: sources of those before, and more searches than when it began
pub record AreSoFar (p : Problem) (tasks : List Task) (task : ℕ) (t : Task) (level material : ℕ) (rs : List Require) (before made : List Touched) (old : List ℕ)
    (sources : List Source) : Type 0 where
  pub sources_are : AreSourcesOf p tasks task t level material rs made old sources
  pub searched : AreSearched p made
  pub more : AreMore before made

pub so_far_more : (p : Problem) (tasks : List Task) (task : ℕ) (t : Task) (level material : ℕ) (rs items : List Require) (i : ℕ) (d : Require) (before made after : List Touched) (old : List ℕ)
    (sources next : List Source) (found : Option Source) → items ≡ rs → i < length rs → AreSoFar p tasks task t level material (take i rs) before made old sources →
    AreSearched p after → AreMore made after → AreSourcesOf p tasks task t level material (get_or items i d ∷ []) after old (option_to_list found) → next ≡ sources ++ option_to_list found →
    AreSoFar p tasks task t level material (take (i + 1) rs) before after old next
so_far_more p tasks task t level material rs items i d before made after old sources next found same below so_far searched more here put = record {
  sources_are =
      let both = sources_joined p tasks task t level material old after (take i rs) (get_or items i d ∷ []) sources (option_to_list found)
      (sources_kept p tasks task t level material old (take i rs) made after sources more so_far.sources_are) here in
      let taken : take i rs ++ get_or items i d ∷ [] ≡ take (i + 1) rs = ap (λ (xs : List Require). take i rs ++ get_or xs i d ∷ []) same ∙ sym (take_more rs i d below) in
      subst (λ (xs : List Source). AreSourcesOf p tasks task t level material (take (i + 1) rs) after old xs) (sym put)
      (subst (λ (xs : List Require). AreSourcesOf p tasks task t level material xs after old (sources ++ option_to_list found)) taken both);
  searched = searched;
  more = more_then before made after so_far.more more;
}
