-- The first tasks, one task after the other.
use Rattle.std.proofs.Common.{◌≡◌, ◌∙◌, ◌+◌, ℕ, Bool, cond, List, [], ◌∷◌, ◌++◌, map, ap, add-one}
use Rattle.std.specs.Prelude.{◌==◌, filter, slice_index}
use Rattle.std.specs.List.{range_with_len}
use Rattle.std.proofs.lemmas.Bool.{eq-eqb, ne_eqb, cond-true, cond-false}
use Rattle.std.proofs.lemmas.List.{map-append, append-nil}
use Rattle.std.proofs.lemmas.List.Elements.{filter-append}
use Rattle.graph_types.specs.Counting.{range_suc}

-- the words of the first tasks below a number
abbrev pub first_below : (predecessors : List ℕ) → (task : ℕ) → List ℕ
first_below predecessors task = map (λ t. t + 1) (filter (λ t. slice_index predecessors t == 0) (range_with_len 0 task))

one_more : (predecessors : List ℕ) (task : ℕ) → first_below predecessors (task + 1) ≡ first_below predecessors task ++ map (λ t. t + 1) (cond (slice_index predecessors task == 0) (task ∷ []) [])
one_more predecessors task =
    let p : ℕ → Bool = λ t. slice_index predecessors t == 0 in
    let next : ℕ → ℕ = λ t. t + 1 in
    ap (λ (ts : List ℕ). map next (filter p ts)) (ap (range_with_len 0) (add-one task) ∙ range_suc task)
    ∙ ap (map next) (filter-append p (range_with_len 0 task) (task ∷ []))
    ∙ map-append next (filter p (range_with_len 0 task)) (filter p (task ∷ []))

pub first_more : (predecessors : List ℕ) (task : ℕ) → slice_index predecessors task ≡ 0 → first_below predecessors (task + 1) ≡ first_below predecessors task ++ (task + 1) ∷ []
first_more predecessors task h =
    one_more predecessors task
    ∙ ap (λ (ts : List ℕ). first_below predecessors task ++ map (λ t. t + 1) ts) (cond-true (slice_index predecessors task == 0) (task ∷ []) [] (eq-eqb _ _ h))

pub first_skip : (predecessors : List ℕ) (task : ℕ) → (slice_index predecessors task ≡ 0 → ⊥) → first_below predecessors (task + 1) ≡ first_below predecessors task
first_skip predecessors task h =
    one_more predecessors task
    ∙ ap (λ (ts : List ℕ). first_below predecessors task ++ map (λ t. t + 1) ts) (cond-false (slice_index predecessors task == 0) (task ∷ []) [] (ne_eqb _ _ h))
    ∙ append-nil (first_below predecessors task)
