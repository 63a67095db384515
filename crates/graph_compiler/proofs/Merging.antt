-- Slots sorted, each once, and lists for one number more that passes.
use Rattle.std.proofs.Common.{◌≡◌, ◌∙◌, ◌+◌, ℕ, List, [], ◌∷◌, ◌++◌, Bool, true, false, cond, filter, map, ap, refl, eqb}
use Rattle.std.specs.Prelude.{Contains}
use Rattle.std.specs.List.{dedup}
use Rattle.std.proofs.lemmas.List.{get_or_default, map-append}
use Rattle.std.proofs.lemmas.List.Elements.{filter-append}
use Rattle.std.proofs.lemmas.List.Kept.{Contains-dedup_nat, Contains-from_dedup}
use Rattle.uts_geom.specs.Spans.{counted}
use Rattle.graph_types.specs.Counting.{has_at, has_from}
use Rattle.graph_types.specs.Graph.{has}
use Rattle.graph_compiler.proofs.Growing.{counted_more}
use Rattle.graph_compiler.proofs.Writing.{same_answers}

has_contained : (xs : List ℕ) (n : ℕ) → Contains xs n → has xs n ≡ true
has_contained xs n there = has_from xs there.0 n there.1 (get_or_default xs there.0 0 n there.1 ∙ there.2)

pub has-dedup : (xs : List ℕ) (n : ℕ) → has (dedup eqb xs) n ≡ has xs n
has-dedup xs n = same_answers (has (dedup eqb xs) n) (has xs n)
    (λ there. has_contained xs n (Contains-from_dedup eqb xs n (has_at (dedup eqb xs) n there)))
    (λ there. has_contained (dedup eqb xs) n (Contains-dedup_nat xs n (has_at xs n there)))

-- one number more, where it passes
pub map_passing : {A : Type 0} (g : ℕ → A) (test : ℕ → Bool) (n : ℕ) → map g (filter test (counted 0 (n + 1))) ≡ map g (filter test (counted 0 n)) ++ cond (test n) (g n ∷ []) []
map_passing {A} g test n =
    ap (λ (xs : List ℕ). map g (filter test xs)) (counted_more n)
    ∙ ap (map g) (filter-append test (counted 0 n) (n ∷ []))
    ∙ map-append g (filter test (counted 0 n)) (cond (test n) (n ∷ []) [])
    ∙ ap (λ (xs : List A). map g (filter test (counted 0 n)) ++ xs) (by_test (test n))
  where
    by_test : (b : Bool) → map g (cond b (n ∷ []) []) ≡ cond b (g n ∷ []) []
    by_test true = refl
    by_test false = refl
