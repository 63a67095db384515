-- A seat that stays with its task and goes to another place of the script, or owes something else.
use Rattle.std.proofs.Common.{◌≡◌, ◌∙◌, ◌≢◌, ◌≤◌, ◌+◌, ℕ, Bool, true, false, ◌⊎◌, inl, inr, List, take, ap, sym, refl, subst, arith}
use Rattle.std.specs.Prelude.{◌==◌, ◌&&◌, ◌||◌, nat_lt, slice_get, slice_set, slice_index, Some}
use Rattle.std.specs.List.{list_any}
use Rattle.std.proofs.Math.Bool.{or-false}
use Rattle.std.proofs.lemmas.Bool.{cases_eq, eq-eqb, ne_eqb, and_left}
use Rattle.sched_core.specs.declared.act.Act.{Act}
use Rattle.sched_core.specs.declared.view.Due.{Due}
use Rattle.sched_core.specs.declared.view.Due.TheVariants as due
use Rattle.sched_core.specs.declared.view.View.TheVariants as view
use Rattle.sched_core.specs.declared.state.Core.{Core}
use Rattle.sched_core.specs.Core.{script, places_behind, runners, runs, has_behind, number_at, number_behind, is_finished, is_behind, is_at, is_anything, act_passes, closes, lowers_use, lowers_successor}
use Rattle.sched_core.specs.Sound.{IsSound}
use Rattle.sched_core.proofs.Lists.{number}
use Rattle.sched_core.proofs.Seats.{IsSeat, counted, count_same, count_less, count_at_least}
use Rattle.sched_core.proofs.Frames.{SameBehind}
use Rattle.sched_core.proofs.Facts.{behind_runs, still_runs}
use Rattle.sched_core.proofs.Progress.{one_behind}

positive : (b : Bool) → nat_lt 0 (number b) ≡ b
positive true = refl
positive false = refl

module _ (c : Core) (seat task at at' : ℕ) (owed owed' : Due) (is : IsSeat c.views seat (view.Running task at owed)) (sound : IsSound c) where
  idle_runs : runners (slice_set c.views seat view.Idle) task ≡ 0
  idle_runs = omega (arith, count_less c.views seat (view.Running task at owed) view.Idle is (runs task) (eq-eqb task task refl) refl, sound.running.apart task)

  pub runs_before : 1 ≤ runners c.views task
  runs_before = count_at_least c.views seat (view.Running task at owed) view.Idle is (runs task) (eq-eqb task task refl)

  pub runners_stay : (t : ℕ) → runners (slice_set c.views seat (view.Running task at' owed')) t ≡ runners c.views t
  runners_stay t = count_same c.views seat (view.Running task at owed) (view.Running task at' owed') is (runs t) refl

  own : (place : ℕ) (d : Due) (test : Act → Bool) → has_behind c.graph test task (view.Running task place d) ≡ list_any test (take (places_behind place d) (script c.graph task))
  own place d test = ap (λ (b : Bool). b && list_any test (take (places_behind place d) (script c.graph task))) (eq-eqb task task refl)

  -- how often an act is behind the task: as one seat runs it, once or never
  pub number_was : (test : Act → Bool) → number_behind c.graph c.views test task ≡ number (list_any test (take (places_behind at owed) (script c.graph task)))
  number_was test =
      let one = ap number (own at owed test) in
      omega (arith, one, counted c.views seat (view.Running task at owed) view.Idle is (has_behind c.graph test task), behind_runs c.graph (slice_set c.views seat view.Idle) test task, idle_runs)

  pub number_is : (test : Act → Bool) → number_behind c.graph (slice_set c.views seat (view.Running task at' owed')) test task ≡ number (list_any test (take (places_behind at' owed') (script c.graph task)))
  number_is test =
      let one = ap number (own at owed test) in
      let two = ap number (own at' owed' test) in
      omega (arith, one, two, number_was test, counted c.views seat (view.Running task at owed) (view.Running task at' owed') is (has_behind c.graph test task))

  pub number_else : (test : Act → Bool) (t : ℕ) → t ≢ task → number_behind c.graph (slice_set c.views seat (view.Running task at' owed')) test t ≡ number_behind c.graph c.views test t
  number_else test t other =
      let apart = ne_eqb task t (λ e. other (sym e)) in
      count_same c.views seat (view.Running task at owed) (view.Running task at' owed') is (has_behind c.graph test t)
      (and_left (task == t) _ apart ∙ sym (and_left (task == t) _ apart))

  pub behind_was : (published : List ℕ) (test : Act → Bool) → is_behind c.graph published c.views test task ≡ list_any test (take (places_behind at owed) (script c.graph task))
  behind_was published test =
      ap (λ (b : Bool). b || nat_lt 0 (number_behind c.graph c.views test task)) (still_runs published c.views task runs_before)
      ∙ ap (nat_lt 0) (number_was test)
      ∙ positive (list_any test (take (places_behind at owed) (script c.graph task)))

  pub behind_is : (published : List ℕ) (test : Act → Bool) → is_behind c.graph published (slice_set c.views seat (view.Running task at' owed')) test task ≡ list_any test (take (places_behind at' owed') (script c.graph task))
  behind_is published test =
      ap (λ (b : Bool). b || nat_lt 0 (number_behind c.graph (slice_set c.views seat (view.Running task at' owed')) test task))
      (still_runs published (slice_set c.views seat (view.Running task at' owed')) task (omega (arith, runners_stay task, runs_before)))
      ∙ ap (nat_lt 0) (number_is test)
      ∙ positive (list_any test (take (places_behind at' owed') (script c.graph task)))

  -- tasks that were finished are, with published words that changed at this task alone
  pub finished_stay : (published : List ℕ) → ((t : ℕ) → t ≢ task → slice_index published t ≡ slice_index c.published t) → (t : ℕ) →
      is_finished c.published c.views t ≡ is_finished published (slice_set c.views seat (view.Running task at' owed')) t
  finished_stay published same t = by_task (cases_eq t task) where
    by_task : (t ≡ task) ⊎ (t ≡ task → ⊥) → is_finished c.published c.views t ≡ is_finished published (slice_set c.views seat (view.Running task at' owed')) t
    by_task (inl e) =
        subst (λ (u : ℕ). is_finished c.published c.views u ≡ is_finished published (slice_set c.views seat (view.Running task at' owed')) u) (sym e)
        (still_runs c.published c.views task runs_before ∙ sym (still_runs published (slice_set c.views seat (view.Running task at' owed')) task (omega (arith, runners_stay task, runs_before))))
    by_task (inr other) =
        ap (λ (w : ℕ). (w == 1) && (runners c.views t == 0)) (sym (same t other))
        ∙ ap (λ (n : ℕ). (slice_index published t == 1) && (n == 0)) (sym (runners_stay t))

  pub behind_else : (published : List ℕ) → ((t : ℕ) → t ≢ task → slice_index published t ≡ slice_index c.published t) → (test : Act → Bool) (t : ℕ) → t ≢ task →
      is_behind c.graph c.published c.views test t ≡ is_behind c.graph published (slice_set c.views seat (view.Running task at' owed')) test t
  behind_else published same test t other =
      ap (λ (b : Bool). b || nat_lt 0 (number_behind c.graph c.views test t)) (finished_stay published same t)
      ∙ ap (λ (n : ℕ). is_finished published (slice_set c.views seat (view.Running task at' owed')) t || nat_lt 0 n) (sym (number_else test t other))

  -- a test of acts that has the same behind it
  module _ (test : Act → Bool) (same : list_any test (take (places_behind at owed) (script c.graph task)) ≡ list_any test (take (places_behind at' owed') (script c.graph task))) where
    pub number_kept : (t : ℕ) → number_behind c.graph c.views test t ≡ number_behind c.graph (slice_set c.views seat (view.Running task at' owed')) test t
    number_kept t = by_task (cases_eq t task) where
      by_task : (t ≡ task) ⊎ (t ≡ task → ⊥) → number_behind c.graph c.views test t ≡ number_behind c.graph (slice_set c.views seat (view.Running task at' owed')) test t
      by_task (inl e) =
          subst (λ (u : ℕ). number_behind c.graph c.views test u ≡ number_behind c.graph (slice_set c.views seat (view.Running task at' owed')) test u) (sym e)
          (number_was test ∙ ap number same ∙ sym (number_is test))
      by_task (inr other) = sym (number_else test t other)

    pub behind_kept : (t : ℕ) → is_behind c.graph c.published c.views test t ≡ is_behind c.graph c.published (slice_set c.views seat (view.Running task at' owed')) test t
    behind_kept t = by_task (cases_eq t task) where
      by_task : (t ≡ task) ⊎ (t ≡ task → ⊥) → is_behind c.graph c.published c.views test t ≡ is_behind c.graph c.published (slice_set c.views seat (view.Running task at' owed')) test t
      by_task (inl e) =
          subst (λ (u : ℕ). is_behind c.graph c.published c.views test u ≡ is_behind c.graph c.published (slice_set c.views seat (view.Running task at' owed')) test u) (sym e)
          (behind_was c.published test ∙ same ∙ sym (behind_is c.published test))
      by_task (inr other) = behind_else c.published (λ u away. refl) test t other

  -- where the task lowers nothing between the two places, all have the same behind them
  pub kept_behind : (published : List ℕ) → ((t : ℕ) → t ≢ task → slice_index published t ≡ slice_index c.published t) →
      ((slot : ℕ) → list_any (lowers_use slot) (take (places_behind at owed) (script c.graph task)) ≡ list_any (lowers_use slot) (take (places_behind at' owed') (script c.graph task))) →
      ((successor : ℕ) → list_any (lowers_successor successor) (take (places_behind at owed) (script c.graph task)) ≡ list_any (lowers_successor successor) (take (places_behind at' owed') (script c.graph task))) →
      SameBehind c.graph c.published published c.views (slice_set c.views seat (view.Running task at' owed'))
  kept_behind published words no_use no_successor = record {
    finished = finished_stay published words;
    uses = λ t slot. number_kept (lowers_use slot) (no_use slot) t;
    successors = λ t successor. number_kept (lowers_successor successor) (no_successor successor) t;
  }

  -- what is due at neither place
  pub undue : (is_due : Due → Bool) → is_due owed ≡ false → is_due owed' ≡ false → (test : Act → Bool) →
      number_at c.graph c.views is_due test ≡ number_at c.graph (slice_set c.views seat (view.Running task at' owed')) is_due test
  undue is_due before now test =
      sym (count_same c.views seat (view.Running task at owed) (view.Running task at' owed') is (is_at c.graph is_due test)
      (and_left (is_due owed) _ before ∙ sym (and_left (is_due owed') _ now)))

  -- neither place is one that closes
  pub closing_same : ((slot : ℕ) → act_passes (closes slot) (slice_get (script c.graph task) at) ≡ false) → ((slot : ℕ) → act_passes (closes slot) (slice_get (script c.graph task) at') ≡ false) → (slot : ℕ) →
      number_at c.graph c.views is_anything (closes slot) ≡ number_at c.graph (slice_set c.views seat (view.Running task at' owed')) is_anything (closes slot)
  closing_same before now slot =
      sym (count_same c.views seat (view.Running task at owed) (view.Running task at' owed') is (is_at c.graph is_anything (closes slot)) (before slot ∙ sym (now slot)))

-- a seat that goes on to the next place, behind an act that passes no test of this kind
module _ (c : Core) (seat task at : ℕ) (is : IsSeat c.views seat (view.Running task at due.Nothing)) (sound : IsSound c) (does : Act) (stands : slice_get (script c.graph task) at ≡ Some does) where
  pub one_more : (test : Act → Bool) → list_any test (take (at + 1) (script c.graph task)) ≡ (list_any test (take at (script c.graph task)) || test does)
  one_more test = one_behind test (script c.graph task) at does stands

  -- the act is no such act
  pub goes : (test : Act → Bool) → test does ≡ false → list_any test (take at (script c.graph task)) ≡ list_any test (take (at + 1) (script c.graph task))
  goes test unlike = sym (one_more test ∙ ap (λ (b : Bool). list_any test (take at (script c.graph task)) || b) unlike ∙ or-false (list_any test (take at (script c.graph task))))
