-- Successors, predecessors and uses, task by task and slot by slot.
use Rattle.std.proofs.Common.{◌≡◌, ◌∙◌, ℕ, ◌+◌, ◌<◌, ◌≤◌, Bool, cond, List, [], ◌∷◌, ◌++◌, length, get_or, map, ap, sym, arith, add-one}
use Rattle.std.specs.Prelude.{replicate}
use Rattle.std.specs.List.{count_by, filter, range_with_len}
use Rattle.std.proofs.lemmas.List.{ext_get_or, get_or_default, get_or-replicate, length-replicate, length-map, map-append}
use Rattle.std.proofs.lemmas.List.FromFn.{get_or-map-range_with_len, length-range_with_len}
use Rattle.std.proofs.lemmas.List.Sums.{count_by-le-length}
use Rattle.graph_types.specs.declared.graph.Graph.{Graph}
use Rattle.graph_types.specs.Counting.{count_places, count_within, filter_suc, range_suc}
use Rattle.graph_types.specs.Graph.{follows, has, is_kept, readers, tasks_of, writers}
use Rattle.graph_types.specs.Linked.{IsLinkable, all_predecessors, all_successors, all_uses, linked}
use Rattle.graph_types.specs.Parts.{AreCounts, AreLeaders}
use Rattle.graph_types.proofs.Walking.{count_of_leaders}

-- the uses of the first slots, and how many tasks each of the first tasks follows
abbrev pub uses_before : Graph → ℕ → List ℕ
uses_before g n = map (λ slot. readers g slot + (writers g slot + cond (is_kept g slot) 1 0)) (range_with_len 0 n)

abbrev pub predecessors_before : Graph → ℕ → List ℕ
predecessors_before g n = map (λ task. count_by (λ first. follows g first task) (tasks_of g)) (range_with_len 0 n)

map_next : {A : Type 0} (f : ℕ → A) (n : ℕ) → map f (range_with_len 0 (n + 1)) ≡ map f (range_with_len 0 n) ++ f n ∷ []
map_next f n =
    ap (λ (m : ℕ). map f (range_with_len 0 m)) (add-one n) ∙ ap (map f) (range_suc n) ∙ map-append f (range_with_len 0 n) (n ∷ [])

pub uses_next : (g : Graph) (n : ℕ) → uses_before g (n + 1) ≡ uses_before g n ++ (readers g n + (writers g n + cond (is_kept g n) 1 0)) ∷ []
uses_next g n = map_next (λ slot. readers g slot + (writers g slot + cond (is_kept g slot) 1 0)) n

-- counts by lists are the readers and writers
module _ (g : Graph) (linkable : IsLinkable g) (counts : List ℕ) (slot : ℕ) (there : slot < g.slots) where
  pub count_readers : (d : ℕ) → AreCounts g.slots g.reads counts → get_or counts slot d ≡ readers g slot
  count_readers d counted = get_or_default counts slot d 0 (omega (arith, counted.size)) ∙ counted.at slot there ∙ sym (count_places (λ numbers. has numbers slot) g.reads [] g.tasks linkable.reads_count)

  pub count_writers : (d : ℕ) → AreCounts g.slots g.writes counts → get_or counts slot d ≡ writers g slot
  count_writers d counted = get_or_default counts slot d 0 (omega (arith, counted.size)) ∙ counted.at slot there ∙ sym (count_places (λ numbers. has numbers slot) g.writes [] g.tasks linkable.writes_count)

pub few_counted : (slots : ℕ) (lists : List (List ℕ)) (counts : List ℕ) (slot d : ℕ) → slot < slots → length lists ≤ 65536 → AreCounts slots lists counts → get_or counts slot d ≤ 65536
few_counted slots lists counts slot d there few counted = omega (arith, get_or_default counts slot d 0 (omega (arith, counted.size)), counted.at slot there, count_by-le-length (λ (numbers : List ℕ). has numbers slot) lists)

-- ---- successors

-- each task has those of the first tasks that follow it
pub record AreLinkedBefore (g : Graph) (before : ℕ) (successors : List (List ℕ)) : Type 0 where
  pub size : length successors ≡ g.tasks
  pub at : (first : ℕ) → first < g.tasks → get_or successors first [] ≡ filter (follows g first) (range_with_len 0 before)

pub linked_none : (g : Graph) → AreLinkedBefore g 0 (replicate g.tasks [])
linked_none g = record { size = length-replicate g.tasks []; at = λ first there. get_or-replicate g.tasks first [] [] there }

filter_next : (p : ℕ → Bool) (n : ℕ) → filter p (range_with_len 0 (n + 1)) ≡ filter p (range_with_len 0 n) ++ cond (p n) (n ∷ []) []
filter_next p n = ap (λ (m : ℕ). filter p (range_with_len 0 m)) (add-one n) ∙ filter_suc p n

pub linked_more : (g : Graph) (task : ℕ) (leaders : List ℕ) (old now : List (List ℕ)) → AreLeaders g task leaders → AreLinkedBefore g task old → length now ≡ length old →
    ((first : ℕ) → first < length old → get_or now first [] ≡ get_or old first [] ++ cond (has leaders first) (task ∷ []) []) → AreLinkedBefore g (task + 1) now
linked_more g task leaders old now led before size followed = record {
  size = size ∙ before.size;
  at = λ first there.
      followed first (omega (arith, before.size))
      ∙ ap (λ (xs : List ℕ). xs ++ cond (has leaders first) (task ∷ []) []) (before.at first there)
      ∙ ap (λ (b : Bool). filter (follows g first) (range_with_len 0 task) ++ cond b (task ∷ []) []) (led.are first there)
      ∙ sym (filter_next (follows g first) task);
}

pub predecessors_next : (g : Graph) (task : ℕ) (leaders : List ℕ) → AreLeaders g task leaders → predecessors_before g (task + 1) ≡ predecessors_before g task ++ length leaders ∷ []
predecessors_next g task leaders led =
    map_next (λ later. count_by (λ first. follows g first later) (tasks_of g)) task
    ∙ ap (λ (n : ℕ). predecessors_before g task ++ n ∷ []) (count_of_leaders g task leaders led)

pub all_linked : (g : Graph) (successors : List (List ℕ)) → AreLinkedBefore g g.tasks successors → successors ≡ all_successors g
all_linked g successors linked = ext_get_or [] successors (all_successors g) (linked.size ∙ sym size) (λ k below.
    let there : k < g.tasks = omega (arith, linked.size) in
    linked.at k there ∙ sym (get_or-map-range_with_len row 0 g.tasks k k [] there (omega arith)))
  where
    row : ℕ → List ℕ
    row task = filter (follows g task) (tasks_of g)

    size : length (all_successors g) ≡ g.tasks
    size = length-map (tasks_of g) row ∙ length-range_with_len 0 g.tasks

pub few_leaders : (g : Graph) (task : ℕ) (leaders : List ℕ) → g.tasks ≤ 65536 → AreLeaders g task leaders → length leaders ≤ 65536
few_leaders g task leaders few led =
    omega (arith, count_of_leaders g task leaders led, count_within (λ first. follows g first task) g.tasks)

-- ---- the whole graph

pub is_linked : (g : Graph) (successors : List (List ℕ)) (predecessors uses : List ℕ) → successors ≡ all_successors g → predecessors ≡ all_predecessors g → uses ≡ all_uses g
    → (record g { successors = successors; predecessors = predecessors; uses = uses }) ≡ linked g
unfolding linked
is_linked g successors predecessors uses s p u =
    ap (λ (xs : List (List ℕ)). record g { successors = xs; predecessors = predecessors; uses = uses }) s
    ∙ ap (λ (xs : List ℕ). record g { successors = all_successors g; predecessors = xs; uses = uses }) p
    ∙ ap (λ (xs : List ℕ). record g { successors = all_successors g; predecessors = all_predecessors g; uses = xs }) u
