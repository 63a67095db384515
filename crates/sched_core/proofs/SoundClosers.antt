-- A seat that has the turn of a slot has not lowered its use of it.
use Rattle.std.proofs.Common.{◌≡◌, ◌∙◌, ◌≤◌, ◌<◌, ◌+◌, ℕ, suc, Bool, true, false, cond, ◌⊎◌, inl, inr, List, [], ◌∷◌, Option, Some, None, length, take, ap, sym, refl, arith}
use Rattle.std.specs.Prelude.{◌&&◌, ◌||◌, nat_lt, slice_get, slice_set, slice_index_or}
use Rattle.std.specs.List.{count_by, list_any}
use Rattle.std.proofs.lemmas.Bool.{false≢true, cases_Bool, cases_lt, eq-eqb}
use Rattle.std.proofs.lemmas.List.{get_or_past}
use Rattle.std.proofs.lemmas.List.Sums.{sum_by-cons}
use Rattle.graph_types.specs.declared.graph.Graph.{Graph}
use Rattle.graph_types.specs.Graph.{reads_of, reads, has}
use Rattle.sched_core.specs.declared.act.Act.{Act}
use Rattle.sched_core.specs.declared.act.Act.TheVariants as act
use Rattle.sched_core.specs.declared.view.Due.{Due}
use Rattle.sched_core.specs.declared.view.Due.TheVariants as due
use Rattle.sched_core.specs.declared.view.View.{View}
use Rattle.sched_core.specs.declared.view.View.TheVariants as view
use Rattle.sched_core.specs.Core.{script, act_passes, runs, runners, is_at, number_at, has_behind, number_behind, places_behind, is_behind, is_anything, closes, lowers_use}
use Rattle.sched_core.proofs.Lists.{number_false}
use Rattle.sched_core.proofs.Seats.{IsSeat, counted, count_less, count_at_least}
use Rattle.sched_core.proofs.Facts.{behind_runs, still_runs}
use Rattle.sched_core.proofs.Scripts.{reads_lower_no_use}
use Rattle.sched_core.proofs.SoundReads.{touches, touched_read, none_met_yet}

-- where a test holds for some seat, there is one
pub found_seat : (test : View → Bool) (views : List View) → 1 ≤ count_by test views → (seat : ℕ) × (seat < length views) × (test (slice_index_or views seat view.Spent) ≡ true)
found_seat test [] some = absurd (omega arith)
found_seat test (v ∷ views) some = by_test (cases_Bool (test v)) (found_seat test views) where
  by_test : (test v ≡ true) ⊎ (test v ≡ false) → (1 ≤ count_by test views → (seat : ℕ) × (seat < length views) × (test (slice_index_or views seat view.Spent) ≡ true)) →
      (seat : ℕ) × (seat < length (v ∷ views)) × (test (slice_index_or (v ∷ views) seat view.Spent) ≡ true)
  by_test (inl met) rest = (0, omega arith, met)
  by_test (inr unmet) rest =
      let found = rest (omega (arith, sum_by-cons (λ y. cond (test y) 1 0) v views, number_false (test v) unmet, some)) in
      (suc found.0, omega (arith, found.1), found.2)

-- an act that closes the slot touches it
closes_touches : (slot : ℕ) (o : Option Act) → act_passes (closes slot) o ≡ true → (a : Act) × (o ≡ Some a) × (touches slot a ≡ true)
closes_touches slot None h = absurd (false≢true h)
closes_touches slot (Some (act.Closes s)) h = (act.Closes s, refl, h)
closes_touches slot (Some (act.Opens s)) h = absurd (false≢true h)
closes_touches slot (Some act.Publishes) h = absurd (false≢true h)
closes_touches slot (Some (act.LowersUse s)) h = absurd (false≢true h)
closes_touches slot (Some (act.LowersSuccessor t)) h = absurd (false≢true h)
closes_touches slot (Some act.Finishes) h = absurd (false≢true h)

-- the task reads the slot and has not lowered its use
pub record Waits (g : Graph) (published : List ℕ) (views : List View) (slot task : ℕ) : Type 0 where
  pub is_task : task < g.tasks
  pub reads_it : reads g task slot ≡ true
  pub unlowered : is_behind g published views (lowers_use slot) task ≡ false

-- who reads a slot is a task
reader_below : (g : Graph) → length g.reads ≡ g.tasks → (task slot : ℕ) → reads g task slot ≡ true → task < g.tasks
reader_below g long task slot read = by_order (cases_lt task g.tasks) where
  by_order : (task < g.tasks) ⊎ (g.tasks ≤ task) → task < g.tasks
  by_order (inl lt) = lt
  by_order (inr le) = absurd (false≢true (sym (ap (λ (slots : List ℕ). has slots slot) (get_or_past g.reads task [] (omega (arith, long, le)))) ∙ read))

module _ (g : Graph) (long : length g.reads ≡ g.tasks) (published : List ℕ) (views : List View) (apart : (t : ℕ) → runners views t ≤ 1) (slot : ℕ) where
  few_behind : (at : ℕ) (owed : Due) → places_behind at owed ≤ at + 1
  few_behind at due.Nothing = omega arith
  few_behind at _ = omega arith

  by_view : (seat : ℕ) (v : View) → IsSeat views seat v → is_at g is_anything (closes slot) v ≡ true → (task : ℕ) × Waits g published views slot task
  by_view seat (view.Running task at owed) is here =
      let found = closes_touches slot (slice_get (script g task) at) here in
      let read = touched_read g task at slot found.0 found.1 found.2 in
      (task, record { is_task = reader_below g long task slot read; reads_it = read; unlowered = unlowered found.0 found.1 found.2 })
    where
      runs_it : 1 ≤ runners views task
      runs_it = count_at_least views seat (view.Running task at owed) view.Idle is (runs task) (eq-eqb task task refl)

      alone : runners (slice_set views seat view.Idle) task ≡ 0
      alone = omega (arith, count_less views seat (view.Running task at owed) view.Idle is (runs task) (eq-eqb task task refl) refl, apart task)

      own : (a : Act) → slice_get (script g task) at ≡ Some a → touches slot a ≡ true → has_behind g (lowers_use slot) task (view.Running task at owed) ≡ false
      own a stands met =
          ap (λ (b : Bool). b && list_any (lowers_use slot) (take (places_behind at owed) (script g task))) (eq-eqb task task refl)
          ∙ none_met_yet g (lowers_use slot) task at (places_behind at owed) slot a (reads_lower_no_use slot (reads_of g task)) stands met (few_behind at owed)

      none_behind : (a : Act) → slice_get (script g task) at ≡ Some a → touches slot a ≡ true → number_behind g views (lowers_use slot) task ≡ 0
      none_behind a stands met =
          omega (arith, counted views seat (view.Running task at owed) view.Idle is (has_behind g (lowers_use slot) task), number_false (has_behind g (lowers_use slot) task (view.Running task at owed)) (own a stands met), behind_runs g (slice_set views seat view.Idle) (lowers_use slot) task, alone)

      unlowered : (a : Act) → slice_get (script g task) at ≡ Some a → touches slot a ≡ true → is_behind g published views (lowers_use slot) task ≡ false
      unlowered a stands met =
          ap (λ (b : Bool). b || nat_lt 0 (number_behind g views (lowers_use slot) task)) (still_runs published views task runs_it)
          ∙ ap (nat_lt 0) (none_behind a stands met)
  by_view seat _ is here = absurd (false≢true here)

  pub closer_waits : 1 ≤ number_at g views is_anything (closes slot) → (task : ℕ) × Waits g published views slot task
  closer_waits some =
      let found = found_seat (is_at g is_anything (closes slot)) views some in
      by_view found.0 (slice_index_or views found.0 view.Spent) (record { within = found.1; was = refl }) found.2
