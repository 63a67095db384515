-- What a sound state says of one seat, one task, one place.
use Rattle.std.proofs.Common.{◌≡◌, ◌≤◌, ◌<◌, ◌+◌, ℕ, Bool, true, false, cond, ◌⊎◌, inl, inr, List, length, ap, refl, subst, arith}
use Rattle.std.specs.Prelude.{◌==◌, ◌&&◌, slice_get, slice_index, IsTrue}
use Rattle.std.proofs.lemmas.Bool.{cases_eq, cases_lt, false≢true, eq-eqb, ne_eqb, ltb-true, lt-ltb, and_from, and_parts, and_right}
use Rattle.std.proofs.lemmas.List.{get_or_past}
use Rattle.std.proofs.lemmas.List.Sums.{sum_by-le-sum_by}
use Rattle.std.proofs.lemmas.List.Elements.{All-get_or}
use Rattle.graph_types.specs.declared.graph.Graph.{Graph}
use Rattle.sched_core.specs.declared.act.Act.{Act}
use Rattle.sched_core.specs.declared.view.Due.{Due}
use Rattle.sched_core.specs.declared.view.View.{View}
use Rattle.sched_core.specs.declared.view.View.TheVariants as view
use Rattle.sched_core.specs.declared.state.Core.{Core}
use Rattle.sched_core.specs.Core.{script, holders, runners, runs, has_behind, number_behind, is_finished}
use Rattle.sched_core.specs.Sound.{may_owe, is_in_shape, IsFilled, IsDrawn, IsSound}
use Rattle.sched_core.proofs.Lists.{one_place, number_le}
use Rattle.sched_core.proofs.Seats.{IsSeat}

pub one_or_less : (a b : Bool) → (b ≡ true → a ≡ true) → cond b 1 0 ≤ cond a 1 0
one_or_less true true h = omega arith
one_or_less true false h = omega arith
one_or_less false true h = absurd (false≢true (h refl))
one_or_less false false h = omega arith

-- what a task has behind it, a seat that runs it has
pub behind_runs : (g : Graph) (views : List View) (test : Act → Bool) (task : ℕ) → number_behind g views test task ≤ runners views task
behind_runs g views test task = sum_by-le-sum_by (λ v. cond (has_behind g test task v) 1 0) (λ v. cond (runs task v) 1 0) views each where
  runs_too : (v : View) → has_behind g test task v ≡ true → runs task v ≡ true
  runs_too (view.Running t at owed) h = (and_parts (t == task) _ h).0
  runs_too _ h = absurd (false≢true h)

  each : (v : View) → cond (has_behind g test task v) 1 0 ≤ cond (runs task v) 1 0
  each v = one_or_less (runs task v) (has_behind g test task v) (runs_too v)

pub zero_or_more : (n : ℕ) → (n ≡ 0) ⊎ (1 ≤ n)
zero_or_more n = by_number (cases_eq n 0) where
  by_number : (n ≡ 0) ⊎ (n ≡ 0 → ⊥) → (n ≡ 0) ⊎ (1 ≤ n)
  by_number (inl e) = inl e
  by_number (inr ne) = inr (omega arith)

-- no seat runs a task, or it has not published: it is not finished
pub unpublished : (published : List ℕ) (views : List View) (task : ℕ) → slice_index published task ≡ 0 → is_finished published views task ≡ false
unpublished published views task h = ap (λ (n : ℕ). (n == 1) && (runners views task == 0)) h

pub still_runs : (published : List ℕ) (views : List View) (task : ℕ) → 1 ≤ runners views task → is_finished published views task ≡ false
still_runs published views task some = and_right (slice_index published task == 1) (runners views task == 0) (ne_eqb _ _ (λ e. omega arith))

module _ (c : Core) (sound : IsSound c) where
  pub seat_fits : (seat : ℕ) (v : View) → IsSeat c.views seat v → is_in_shape c.graph v ≡ true
  seat_fits seat v is = subst (λ (x : View). is_in_shape c.graph x ≡ true) is.was (All-get_or (λ (x : View). IsTrue (is_in_shape c.graph x)) c.views seat view.Spent is.within sound.shapes.views_fit)

  -- a running seat runs a task, and fits at each place of its script where what it owes may be due
  pub runs_task : (seat task at : ℕ) (owed : Due) → IsSeat c.views seat (view.Running task at owed) → task < c.graph.tasks
  runs_task seat task at owed is = ltb-true _ _ (and_parts _ _ (seat_fits seat (view.Running task at owed) is)).0

  pub fits_there : (seat task at at' : ℕ) (owed owed' : Due) → IsSeat c.views seat (view.Running task at owed) → may_owe owed' (slice_get (script c.graph task) at') ≡ true → is_in_shape c.graph (view.Running task at' owed') ≡ true
  fits_there seat task at at' owed owed' is may = and_from _ _ (lt-ltb _ _ (runs_task seat task at owed is)) may

  -- a task stands at one place of the ring
  pub place_is : (task place other : ℕ) → task < c.graph.tasks → slice_index c.ring place ≡ task + 1 → slice_index c.ring other ≡ task + 1 → other ≡ place
  place_is task place other below is also =
      one_place (λ word. word == task + 1) 0 c.ring other place (inside other also) (inside place is) (eq-eqb _ _ also) (eq-eqb _ _ is)
      (omega (arith, sound.ring.once task below, number_le (slice_index c.dep task == 0)))
    where
      inside : (p : ℕ) → slice_index c.ring p ≡ task + 1 → p < length c.ring
      inside p h = by_order (cases_lt p (length c.ring)) where
        by_order : (p < length c.ring) ⊎ (length c.ring ≤ p) → p < length c.ring
        by_order (inl lt) = lt
        by_order (inr le) = absurd (let past : slice_index c.ring p ≡ 0 = get_or_past c.ring p 0 le in omega arith)

  -- the ring holds tasks
  pub is_task : (place task : ℕ) → slice_index c.ring place ≡ task + 1 → task < c.graph.tasks
  is_task place task h = by_order (cases_lt place c.tail) where
    filled : (owing : ℕ) → IsFilled c.graph.tasks (slice_index c.ring place) owing → task < c.graph.tasks
    filled owing (inl (some, le, none)) = omega arith
    filled owing (inr (none, one)) = absurd (omega arith)

    by_order : (place < c.tail) ⊎ (c.tail ≤ place) → task < c.graph.tasks
    by_order (inl lt) = filled _ (sound.ring.filled place lt)
    by_order (inr le) = absurd (let e = sound.ring.empty place le in omega arith)

  -- the task of a place that a seat holds has not begun
  pub not_begun : (place task : ℕ) → 1 ≤ holders c.views place → slice_index c.ring place ≡ task + 1 → runners c.views task + slice_index c.published task ≡ 0
  not_begun place task held is = by_number (zero_or_more (runners c.views task + slice_index c.published task)) where
    again : IsDrawn c.head c.ring (holders c.views) task → ⊥
    again (p, below, stands, none) =
        let e = place_is task place p (is_task place task is) is stands in
        let none' : holders c.views place ≡ 0 = subst (λ (q : ℕ). holders c.views q ≡ 0) e none in
        omega arith

    by_number : (runners c.views task + slice_index c.published task ≡ 0) ⊎ (1 ≤ runners c.views task + slice_index c.published task) → runners c.views task + slice_index c.published task ≡ 0
    by_number (inl e) = e
    by_number (inr some) = absurd (again (sound.running.drawn task (is_task place task is) some))
