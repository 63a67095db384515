-- The words of a sound state are small.
use Rattle.std.proofs.Common.{◌≡◌, ◌∙◌, ◌≤◌, ◌<◌, ◌+◌, ◌*◌, ◌^◌, ℕ, zero, suc, List, [], ◌∷◌, ◌++◌, map, ◌⊎◌, inl, inr, length, ap, sym, refl, subst, arith, length-append}
use Rattle.std.specs.Prelude.{slice_index}
use Rattle.std.specs.List.{sum_by, flat_map}
use Rattle.std.specs.List.Sorted.{IsStrictlyIncreasing}
use Rattle.std.proofs.lemmas.Bool.{cases_lt}
use Rattle.std.proofs.lemmas.List.{get_or_past, length-map}
use Rattle.std.proofs.lemmas.List.Elements.{All-get_or}
use Rattle.std.proofs.lemmas.List.FromFn.{length-range_with_len}
use Rattle.std.proofs.lemmas.List.Sums.{sum_by-le-sum_by, get_or-le-sum_by, count_by-le-length, length-filter}
use Rattle.graph_types.specs.declared.graph.Graph.{Graph}
use Rattle.graph_types.specs.Counting.{ascending_once, count_within, once_count}
use Rattle.graph_types.specs.Graph.{has, reads_of, writes_of, successors_of, tasks_of, follows, IsSlotList, IsValid}
use Rattle.sched_core.specs.declared.act.Act.TheVariants.{Publishes, LowersUse, LowersSuccessor, Finishes}
use Rattle.sched_core.specs.declared.view.View.{View}
use Rattle.sched_core.specs.declared.view.View.TheVariants as view
use Rattle.sched_core.specs.declared.state.Core.{Core}
use Rattle.sched_core.specs.Bounds.{IsBounded}
use Rattle.sched_core.specs.Core.{reading, lowering, script, view_of, gone_of, halted_of, seats_of, is_finished}
use Rattle.sched_core.specs.Sound.{IsSound, IsFilled}
use Rattle.sched_core.proofs.Places.{length_reading}

-- a list of slots has as many as there are, at most
few_slots : (slots : ℕ) (xs : List ℕ) → IsSlotList slots xs → length xs ≤ slots
few_slots slots xs h = omega (arith, once_count xs slots (ascending_once xs h.ascending) h.below, count_within (has xs) slots)

module _ (g : Graph) (valid : IsValid g) (task : ℕ) where
  few_reads : length (reads_of g task) ≤ 2097152
  few_reads = by_order (cases_lt task (length g.reads)) where
    by_order : (task < length g.reads) ⊎ (length g.reads ≤ task) → length (reads_of g task) ≤ 2097152
    by_order (inl lt) = omega (arith, get_or-le-sum_by (λ (xs : List ℕ). length xs) g.reads task [] lt, valid.limits.reads)
    by_order (inr le) = subst (λ (xs : List ℕ). length xs ≤ 2097152) (sym (get_or_past g.reads task [] le)) (omega arith)

  few_writes : length (writes_of g task) ≤ 262144
  few_writes = by_order (cases_lt task (length g.writes)) where
    by_order : (task < length g.writes) ⊎ (length g.writes ≤ task) → length (writes_of g task) ≤ 262144
    by_order (inl lt) = omega (arith, few_slots g.slots (writes_of g task) (All-get_or (IsSlotList g.slots) g.writes task [] lt valid.writes), valid.limits.slots)
    by_order (inr le) = subst (λ (xs : List ℕ). length xs ≤ 262144) (sym (get_or_past g.writes task [] le)) (omega arith)

  few_successors : length (successors_of g task) ≤ 65536
  few_successors = by_order (cases_lt task g.tasks) where
    by_order : (task < g.tasks) ⊎ (g.tasks ≤ task) → length (successors_of g task) ≤ 65536
    by_order (inl lt) =
        let e = ap (λ (xs : List ℕ). length xs) (valid.order.successors task lt) in
        omega (arith, e, length-filter (follows g task) (tasks_of g), count_by-le-length (follows g task) (tasks_of g), length-range_with_len 0 g.tasks, valid.limits.tasks)
    by_order (inr le) = subst (λ (xs : List ℕ). length xs ≤ 65536) (sym (get_or_past g.successors task [] (omega (arith, valid.lengths.successors)))) (omega arith)

  length_script : length (script g task) ≡ 2 * length (reads_of g task) + suc ((length (reads_of g task) + length (writes_of g task)) + length (successors_of g task) + 1)
  unfolding script
  length_script =
      length-append (flat_map reading (reads_of g task)) (Publishes ∷ (lowering g task ++ (Finishes ∷ [])))
      ∙ omega (arith, length_reading (reads_of g task), length-append (lowering g task) (Finishes ∷ []), length-append (map LowersUse (reads_of g task ++ writes_of g task)) (map LowersSuccessor (successors_of g task)), length-map (reads_of g task ++ writes_of g task) LowersUse, length-append (reads_of g task) (writes_of g task), length-map (successors_of g task) LowersSuccessor)

  pub short_script : length (script g task) < 2 ^ 32
  short_script = omega (arith, length_script, few_reads, few_writes, few_successors)

module _ (c : Core) (sound : IsSound c) where
  gone_seats : (v : View) → gone_of v ≤ seats_of v
  gone_seats (view.Closing gone halted) = omega arith
  gone_seats view.Spent = omega arith
  gone_seats view.Gone = omega arith
  gone_seats _ = omega arith

  halted_seats : (v : View) → halted_of v ≤ seats_of v
  halted_seats (view.Closing gone halted) = omega arith
  halted_seats view.Spent = omega arith
  halted_seats view.Halted = omega arith
  halted_seats _ = omega arith

  few_gone : sum_by gone_of c.views ≤ 64
  few_gone = omega (arith, sum_by-le-sum_by gone_of seats_of c.views gone_seats, sound.head.all, sound.shapes.few_seats)

  few_halted : sum_by halted_of c.views ≤ 64
  few_halted = omega (arith, sum_by-le-sum_by halted_of seats_of c.views halted_seats, sound.head.all, sound.shapes.few_seats)

  at_most : (f : View → ℕ) → f view.Spent ≡ 0 → sum_by f c.views ≤ 64 → (seat : ℕ) → f (view_of c seat) ≤ 64
  at_most f none le seat = by_order (cases_lt seat (length c.views)) where
    by_order : (seat < length c.views) ⊎ (length c.views ≤ seat) → f (view_of c seat) ≤ 64
    by_order (inl lt) = omega (arith, get_or-le-sum_by f c.views seat view.Spent lt)
    by_order (inr past) = subst (λ (v : View). f v ≤ 64) (sym (get_or_past c.views seat view.Spent past)) (omega arith)

  few_done : c.done ≤ 65536
  few_done = omega (arith, sound.done.count, count_by-le-length (is_finished c.published c.views) (tasks_of c.graph), length-range_with_len 0 c.graph.tasks, sound.graph.limits.tasks)

  small_ring : (place : ℕ) → slice_index c.ring place ≤ 2 ^ 32
  small_ring place = by_order (cases_lt place c.tail) where
    filled : (owing : ℕ) → IsFilled c.graph.tasks (slice_index c.ring place) owing → slice_index c.ring place ≤ 2 ^ 32
    filled owing (inl (some, le, none)) = omega (arith, sound.graph.limits.tasks)
    filled owing (inr (none, one)) = omega arith

    by_order : (place < c.tail) ⊎ (c.tail ≤ place) → slice_index c.ring place ≤ 2 ^ 32
    by_order (inl lt) = filled _ (sound.ring.filled place lt)
    by_order (inr le) = omega (arith, sound.ring.empty place le)

  pub bounded : IsBounded c
  bounded = record {
    head = omega (arith, sound.head.drawn, sound.graph.limits.tasks, few_gone);
    tail = omega (arith, sound.ring.room, sound.graph.limits.tasks);
    done = omega (arith, few_done);
    ring = small_ring;
    places = λ task. short_script c.graph sound.graph task;
    gone = at_most gone_of refl few_gone;
    halted = at_most halted_of refl few_halted;
  }
