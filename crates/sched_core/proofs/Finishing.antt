-- A seat that finishes its task leaves a sound state.
use Rattle.std.proofs.Common.{◌≡◌, ◌∙◌, ◌≢◌, ◌≤◌, ◌<◌, ◌+◌, ℕ, Bool, true, false, cond, not, Some, ◌⊎◌, inl, inr, take, ap, sym, refl, subst, arith, length-set}
use Rattle.std.specs.Prelude.{◌==◌, ◌&&◌, ◌||◌, nat_lt, slice_get, slice_set, slice_index}
use Rattle.std.specs.List.{count_by, list_any}
use Rattle.std.proofs.lemmas.Bool.{cases_eq, eq-eqb, lt-ltb, and_from, or_left, or_right}
use Rattle.graph_types.specs.Counting.{count_alike}
use Rattle.graph_types.specs.Facts.{follower_listed}
use Rattle.graph_types.specs.Graph.{tasks_of, reads, writes, follows, is_kept}
use Rattle.sched_core.specs.declared.act.Act.{Act}
use Rattle.sched_core.specs.declared.act.Act.TheVariants as act
use Rattle.sched_core.specs.declared.view.Due.TheVariants as due
use Rattle.sched_core.specs.declared.view.View.TheVariants as view
use Rattle.sched_core.specs.declared.state.Core.{Core}
use Rattle.sched_core.specs.Core.{script, holders, runners, act_passes, has_behind, number_behind, is_finished, is_behind, closes, publishes, lowers_use, lowers_successor, gone_of, halted_of, seats_of}
use Rattle.sched_core.specs.Sound.{IsSound, is_unwritten}
use Rattle.sched_core.proofs.Lists.{counts_but_one}
use Rattle.sched_core.proofs.Seats.{IsSeat, count_at_least, sum_same}
use Rattle.sched_core.proofs.Frames.{SameDues, ring_framed, slots_framed, shapes_seat, sound_of, fewer_tickets, head_stays, begun_still, lost_none}
use Rattle.sched_core.proofs.Scripts.{behind_end, body, body_publishes, body_uses, body_successors}
use Rattle.sched_core.proofs.Facts.{behind_runs, still_runs, runs_task}
use Rattle.sched_core.proofs.Ending.{left_alone, fewer_run, one_ran, none_runs, others_run, others_behind, dues_left}

module _ (c : Core) (seat task at : ℕ) (is : IsSeat c.views seat (view.Running task at due.Nothing)) (last : slice_get (script c.graph task) at ≡ Some act.Finishes) (sound : IsSound c) where
  below : task < c.graph.tasks
  below = runs_task c sound seat task at due.Nothing is

  front : take at (script c.graph task) ≡ body c.graph task
  front = behind_end c.graph task at last

  had : (test : Act → Bool) → list_any test (body c.graph task) ≡ true → 1 ≤ number_behind c.graph c.views test task
  had test h = count_at_least c.views seat (view.Running task at due.Nothing) view.Idle is (has_behind c.graph test task)
      (and_from (task == task) (list_any test (take at (script c.graph task))) (eq-eqb task task refl) (ap (list_any test) front ∙ h))

  ran : 1 ≤ runners c.views task
  ran = one_ran c seat task at view.Idle is sound (λ t. refl) (λ p. refl)

  none_left : runners (slice_set c.views seat view.Idle) task ≡ 0
  none_left = none_runs c seat task at view.Idle is sound (λ t. refl) (λ p. refl)

  read : slice_index c.published task ≡ 1
  read = omega (arith, sound.running.told task ran, had publishes (body_publishes c.graph task), behind_runs c.graph c.views publishes task, sound.running.apart task)

  finished_now : is_finished c.published (slice_set c.views seat view.Idle) task ≡ true
  finished_now = and_from _ _ (eq-eqb _ _ read) (eq-eqb _ _ none_left)

  unfinished : is_finished c.published c.views task ≡ false
  unfinished = still_runs c.published c.views task ran

  finished_other : (t : ℕ) → t ≢ task → is_finished c.published (slice_set c.views seat view.Idle) t ≡ is_finished c.published c.views t
  finished_other t other = ap (λ (n : ℕ). (slice_index c.published t == 1) && (n == 0)) (others_run c seat task at view.Idle is sound (λ u. refl) (λ p. refl) t other)

  behind_other : (test : Act → Bool) (t : ℕ) → t ≢ task → is_behind c.graph c.published c.views test t ≡ is_behind c.graph c.published (slice_set c.views seat view.Idle) test t
  behind_other test t other =
      ap (λ (b : Bool). b || nat_lt 0 (number_behind c.graph c.views test t)) (sym (finished_other t other))
      ∙ ap (λ (n : ℕ). is_finished c.published (slice_set c.views seat view.Idle) t || nat_lt 0 n) (sym (others_behind c seat task at view.Idle is sound (λ u. refl) (λ p. refl) (λ test u. refl) test t other))

  -- all that the task has in its script was behind it already
  behind_own : (test : Act → Bool) (wants : Bool) → (wants ≡ true → list_any test (body c.graph task) ≡ true) →
      (wants && not (is_behind c.graph c.published c.views test task)) ≡ (wants && not (is_behind c.graph c.published (slice_set c.views seat view.Idle) test task))
  behind_own test false h = refl
  behind_own test true h =
      let before : is_behind c.graph c.published c.views test task ≡ true = or_right _ _ (lt-ltb _ _ (had test (h refl))) in
      let now : is_behind c.graph c.published (slice_set c.views seat view.Idle) test task ≡ true = or_left _ _ finished_now in
      ap not (before ∙ sym now)

  follows_in_body : (successor : ℕ) → successor < c.graph.tasks → follows c.graph task successor ≡ true → list_any (lowers_successor successor) (body c.graph task) ≡ true
  follows_in_body successor lt h = body_successors c.graph task successor ∙ follower_listed c.graph sound.graph.order task successor below lt h

  waits : (successor : ℕ) → successor < c.graph.tasks → (t : ℕ) → (t ≡ task) ⊎ (t ≡ task → ⊥) →
      (follows c.graph t successor && not (is_behind c.graph c.published c.views (lowers_successor successor) t))
      ≡ (follows c.graph t successor && not (is_behind c.graph c.published (slice_set c.views seat view.Idle) (lowers_successor successor) t))
  waits successor lt t (inl e) =
      subst (λ (u : ℕ). (follows c.graph u successor && not (is_behind c.graph c.published c.views (lowers_successor successor) u)) ≡ (follows c.graph u successor && not (is_behind c.graph c.published (slice_set c.views seat view.Idle) (lowers_successor successor) u))) (sym e)
      (behind_own (lowers_successor successor) (follows c.graph task successor) (follows_in_body successor lt))
  waits successor lt t (inr other) = ap (λ (b : Bool). follows c.graph t successor && not b) (behind_other (lowers_successor successor) t other)

  takes_use : (slot t : ℕ) → (t ≡ task) ⊎ (t ≡ task → ⊥) →
      ((reads c.graph t slot || writes c.graph t slot) && not (is_behind c.graph c.published c.views (lowers_use slot) t))
      ≡ ((reads c.graph t slot || writes c.graph t slot) && not (is_behind c.graph c.published (slice_set c.views seat view.Idle) (lowers_use slot) t))
  takes_use slot t (inl e) =
      subst (λ (u : ℕ). ((reads c.graph u slot || writes c.graph u slot) && not (is_behind c.graph c.published c.views (lowers_use slot) u)) ≡ ((reads c.graph u slot || writes c.graph u slot) && not (is_behind c.graph c.published (slice_set c.views seat view.Idle) (lowers_use slot) u))) (sym e)
      (behind_own (lowers_use slot) (reads c.graph task slot || writes c.graph task slot) (λ h. body_uses c.graph task slot ∙ h))
  takes_use slot t (inr other) = ap (λ (b : Bool). (reads c.graph t slot || writes c.graph t slot) && not b) (behind_other (lowers_use slot) t other)

  dues : SameDues c.graph c.views (slice_set c.views seat view.Idle)
  dues = dues_left c seat task at view.Idle is sound (λ t. refl) (λ p. refl) (λ is_due test. refl) (λ slot. ap (act_passes (closes slot)) last)

  done_more : c.done + 1 ≡ count_by (is_finished c.published (slice_set c.views seat view.Idle)) (tasks_of c.graph)
  done_more =
      let more = counts_but_one (is_finished c.published (slice_set c.views seat view.Idle)) (is_finished c.published c.views) c.graph.tasks task below finished_now unfinished (λ t lt other. finished_other t other) in
      omega (arith, more, sound.done.count)

  begun : (t : ℕ) → (t ≡ task) ⊎ (t ≡ task → ⊥) → 1 ≤ runners c.views t + slice_index c.published t → 1 ≤ runners (slice_set c.views seat view.Idle) t + slice_index c.published t
  begun t (inl e) some = let one : slice_index c.published t ≡ 1 = ap (slice_index c.published) e ∙ read in omega arith
  begun t (inr other) some = omega (arith, others_run c seat task at view.Idle is sound (λ u. refl) (λ p. refl) t other)

  told : (t : ℕ) → (t ≡ task) ⊎ (t ≡ task → ⊥) → 1 ≤ runners (slice_set c.views seat view.Idle) t → slice_index c.published t ≡ number_behind c.graph (slice_set c.views seat view.Idle) publishes t
  told t (inl e) some = absurd (let none : runners (slice_set c.views seat view.Idle) t ≡ 0 = ap (runners (slice_set c.views seat view.Idle)) e ∙ none_left in omega arith)
  told t (inr other) some =
      sound.running.told t (omega (arith, others_run c seat task at view.Idle is sound (λ u. refl) (λ p. refl) t other))
      ∙ sym (others_behind c seat task at view.Idle is sound (λ u. refl) (λ p. refl) (λ test u. refl) publishes t other)

  pub finish_sound : IsSound (record c { done = c.done + 1; views = slice_set c.views seat view.Idle })
  finish_sound =
      let gone = sum_same c.views seat (view.Running task at due.Nothing) view.Idle is gone_of refl in
      let halted = sum_same c.views seat (view.Running task at due.Nothing) view.Idle is halted_of refl in
      let seats = sum_same c.views seat (view.Running task at due.Nothing) view.Idle is seats_of refl in
      let tickets = left_alone c seat task at view.Idle is sound (λ t. refl) (λ p. refl) in
      let fewer = fewer_run c seat task at view.Idle is sound (λ t. refl) (λ p. refl) in
      sound_of (record c { done = c.done + 1 }) (slice_set c.views seat view.Idle) sound.graph (record {
        ring = ring_framed c.graph c.tail c.ring c.dep c.views (slice_set c.views seat view.Idle) dues sound.ring;
        dependencies = record { counts = λ successor lt. sound.dependencies.counts successor lt ∙ count_alike _ _ c.graph.tasks (λ t within. waits successor lt t (cases_eq t task)) };
        uses = record { counts = λ slot lt. sound.uses.counts slot lt ∙ ap (λ (n : ℕ). n + cond (is_kept c.graph slot) 1 0) (count_alike _ _ c.graph.tasks (λ t within. takes_use slot t (cases_eq t task))) };
        slots = slots_framed c.graph c.left c.turn c.home (is_unwritten c.graph c.published) c.views (slice_set c.views seat view.Idle) dues sound.slots;
        done = record { count = done_more };
      }) (record {
        shapes = shapes_seat c.graph c.ring c.dep c.published c.left c.turn c.home c.abort c.views seat view.Idle refl sound.shapes;
        tickets = fewer_tickets c.graph c.head (holders c.views) (holders (slice_set c.views seat view.Idle)) (λ p. omega (arith, tickets p)) sound.tickets;
        running = record {
          drawn = λ t lt some. let was = sound.running.drawn t lt (omega (arith, fewer t)) in (was.0, was.1, was.2, tickets was.0 ∙ was.3);
          apart = λ t. omega (arith, fewer t, sound.running.apart t);
          told = λ t some. told t (cases_eq t task) some;
        };
        head = head_stays c (slice_set c.views seat view.Idle) gone seats (length-set c.views seat view.Idle) sound;
        nothing_lost = lost_none c (slice_set c.views seat view.Idle) gone halted (λ p lt room. begun_still (slice_index c.ring p) c.abort c.published c.published (holders c.views p) (holders (slice_set c.views seat view.Idle) p) (runners c.views) (runners (slice_set c.views seat view.Idle))
            (λ some. omega (arith, tickets p)) (λ t there. begun t (cases_eq t task)) (sound.nothing_lost.begun p lt room)) sound;
      })
