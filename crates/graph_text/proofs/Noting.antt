-- Tasks noted at their successors, one after another.
use Rattle.std.proofs.Common.{◌≡◌, ◌∙◌, ℕ, ◌+◌, ◌<◌, Bool, cond, List, [], ◌∷◌, ◌++◌, length, get_or, map, take, replicate, ap, sym, subst, arith}
use Rattle.std.specs.List.{All, filter, range_with_len}
use Rattle.std.proofs.lemmas.List.{append-nil, get_or-replicate, length-replicate, map-id, take_more}
use Rattle.std.proofs.lemmas.List.Elements.{All-filter, All-from_get_or}
use Rattle.std.proofs.lemmas.List.FromFn.{fill_by_all, filter_of_map_range_with_len_more}
use Rattle.graph_types.specs.Counting.{all_below}
use Rattle.graph_types.specs.Graph.{has, successors_of}
use Rattle.graph_types.specs.declared.graph.Graph.{Graph}
use Rattle.graph_text.specs.Predecessors.{IsNotedAt, noted, predecessors_of}

pub none_noted : (task : ℕ) (lists : List (List ℕ)) → IsNotedAt task [] lists lists
none_noted task lists = record { same_count = ap length (λ i. lists); at = λ n below. sym (append-nil (get_or lists n [])) }

pub more_noted : (task i : ℕ) (successors : List ℕ) (old new : List (List ℕ)) → i < length successors
    → IsNotedAt task (take i successors ++ get_or successors i 0 ∷ []) old new → IsNotedAt task (take (i + 1) successors) old new
more_noted task i successors old new below there =
    subst (λ (front : List ℕ). IsNotedAt task front old new) (sym (take_more successors i 0 below)) there

-- the numbers that pass a test, with one number more
filter_next : (test : ℕ → Bool) (n : ℕ) → filter test (range_with_len 0 (n + 1)) ≡ filter test (range_with_len 0 n) ++ cond (test n) (n ∷ []) []
filter_next test n = simp map-id at (filter_of_map_range_with_len_more test (λ k. k) 0 n n (omega arith))

-- of the tasks before one those that have a task among their successors
abbrev earlier : Graph → (before task : ℕ) → List ℕ
earlier g before task = filter (λ first. has (successors_of g first) task) (range_with_len 0 before)

-- the lists of the first tasks, by the tasks before one
pub record AreNotedBefore (g : Graph) (before count : ℕ) (lists : List (List ℕ)) : Type 0 where
  pub size : length lists ≡ count
  pub at : (task : ℕ) → task < count → get_or lists task [] ≡ earlier g before task

module _ (g : Graph) (count : ℕ) where
  pub noted_at_first : (lists : List (List ℕ)) → lists ≡ replicate count [] → AreNotedBefore g 0 count lists
  noted_at_first lists empty = record {
    size = ap length empty ∙ length-replicate count [];
    at = λ task below. ap (λ (all : List (List ℕ)). get_or all task []) empty ∙ get_or-replicate count task [] [] below;
  }

  pub noted_below : (before : ℕ) (lists : List (List ℕ)) → AreNotedBefore g before count lists → All (All (λ n. n < before)) lists
  noted_below before lists there = All-from_get_or (All (λ n. n < before)) lists [] (λ task within.
      let below : task < count = omega (arith, there.size) in
      subst (All (λ n. n < before)) (sym (there.at task below))
      (All-filter (λ first. has (successors_of g first) task) (λ n. n < before) (range_with_len 0 before) (all_below before)))

  pub noted_next : (before : ℕ) (old new : List (List ℕ)) → AreNotedBefore g before count old
      → IsNotedAt before (successors_of g before) old new → AreNotedBefore g (before + 1) count new
  noted_next before old new there noting = record {
    size = noting.same_count ∙ there.size;
    at = λ task below.
        noting.at task (let within : task < length old = omega (arith, there.size) in within)
        ∙ ap (noted (has (successors_of g before) task) before) (there.at task below)
        ∙ sym (filter_next (λ first. has (successors_of g first) task) before);
  }

  pub noted_all : (lists : List (List ℕ)) → AreNotedBefore g g.tasks count lists → lists ≡ map (predecessors_of g) (range_with_len 0 count)
  noted_all lists there = fill_by_all (predecessors_of g) lists count [] there.size there.at
