-- A seat that lowers a count: it goes on, or owes something where the count was 1.
use Rattle.std.proofs.Common.{◌≡◌, ◌∙◌, ◌≢◌, ◌≤◌, ◌<◌, ◌+◌, ◌-◌, ℕ, Bool, true, false, not, Some, ◌⊎◌, inl, inr, List, length, take, ap, sym, refl, subst, arith, get_or-set_same, get_or-set_other}
use Rattle.std.specs.Prelude.{◌==◌, ◌&&◌, ◌||◌, slice_get, slice_set, slice_index}
use Rattle.std.specs.List.{count_by, list_any}
use Rattle.std.proofs.Math.Bool.{or-false}
use Rattle.std.proofs.lemmas.Bool.{cases_eq, eq-eqb, ne_eqb, and_from, and_left, and_right, or_right, cond-true, cond-false}
use Rattle.graph_types.specs.declared.graph.Graph.{Graph}
use Rattle.graph_types.specs.Counting.{count_alike}
use Rattle.graph_types.specs.Graph.{tasks_of}
use Rattle.sched_core.specs.declared.act.Act.{Act}
use Rattle.sched_core.specs.declared.act.Act.TheVariants as act
use Rattle.sched_core.specs.declared.view.Due.{Due}
use Rattle.sched_core.specs.declared.view.Due.TheVariants as due
use Rattle.sched_core.specs.declared.view.View.{View}
use Rattle.sched_core.specs.declared.view.View.TheVariants as view
use Rattle.sched_core.specs.declared.view.Doing.{Doing}
use Rattle.sched_core.specs.declared.state.Core.{Core}
use Rattle.sched_core.specs.Core.{script, act_passes, places_behind, is_at, number_at, is_behind, is_finished, is_anything, closes, publishes}
use Rattle.sched_core.specs.Step.{next_place, still_due, lowered}
use Rattle.sched_core.specs.Sound.{may_owe, Done, IsSound}
use Rattle.sched_core.proofs.Lists.{number, number_false, counts_but_one}
use Rattle.sched_core.proofs.Seats.{IsSeat, counted}
use Rattle.sched_core.proofs.Frames.{along, IsSeatSound}
use Rattle.sched_core.proofs.Facts.{runs_task}
use Rattle.sched_core.proofs.Progress.{next_exists, no_close_next, opens, one_behind}
use Rattle.sched_core.proofs.Once.{none_before}
use Rattle.sched_core.proofs.Moving.{behind_was, behind_is, behind_else, behind_kept, number_kept, finished_stay, undue, closing_same}
use Rattle.sched_core.proofs.Going.{goes_on}

-- in a list of counts one is lowered by 1, and the others stay
pub count_lowered : (counts : List ℕ) (at : ℕ) (after : ℕ → ℕ) → at < length counts → slice_index counts at ≡ after at + 1 → (k : ℕ) → (k ≢ at → slice_index counts k ≡ after k) →
    slice_index (slice_set counts at (slice_index counts at - 1)) k ≡ after k
count_lowered counts at after within own k others = by_place (cases_eq k at) where
  by_place : (k ≡ at) ⊎ (k ≡ at → ⊥) → slice_index (slice_set counts at (slice_index counts at - 1)) k ≡ after k
  by_place (inl same) =
      subst (λ (u : ℕ). slice_index (slice_set counts at (slice_index counts at - 1)) u ≡ after u) (sym same)
      (get_or-set_same counts at (slice_index counts at - 1) 0 within ∙ omega (arith, own))
  by_place (inr other) = get_or-set_other counts at k (slice_index counts at - 1) 0 other ∙ others other

-- what holds of the view with something due where the count was 1, and of the next place where it was not
pub by_count : (P : View → Type 0) (d : Doing) (count : ℕ) (owes : Due) → (count ≡ 1 → P (still_due d owes)) → ((count ≡ 1 → ⊥) → P (next_place d)) → P (lowered d count owes)
by_count P d count owes last more = by_case (cases_eq count 1) where
  by_case : (count ≡ 1) ⊎ (count ≡ 1 → ⊥) → P (lowered d count owes)
  by_case (inl e) = subst P (sym (cond-true (count == 1) (still_due d owes) (next_place d) (eq-eqb _ _ e))) (last e)
  by_case (inr other) = subst P (sym (cond-false (count == 1) (still_due d owes) (next_place d) (ne_eqb _ _ other))) (more other)

-- where a seat stands that lowered a count: the act is behind it, and it owes something there where the count was 1
pub record HasLowered (g : Graph) (task at : ℕ) (does : Act) (owes : Due) (count at' : ℕ) (owed' : Due) : Type 0 where
  pub moved : places_behind at' owed' ≡ at + 1
  pub fits : may_owe owed' (slice_get (script g task) at') ≡ true
  pub shut : (slot : ℕ) → act_passes (closes slot) (slice_get (script g task) at') ≡ false
  pub no_more : (is_due : Due → Bool) → is_due due.Nothing ≡ false → is_due owes ≡ false → is_due owed' ≡ false
  pub owing : (is_due : Due → Bool) → is_due due.Nothing ≡ false → is_due owes ≡ true → (test : Act → Bool) → is_at g is_due test (view.Running task at' owed') ≡ ((count == 1) && test does)

module _ (g : Graph) (task at : ℕ) (does : Act) (stands : slice_get (script g task) at ≡ Some does) (owes : Due) (count : ℕ) where
  pub was_last : count ≡ 1 → places_behind at owes ≡ at + 1 → may_owe owes (Some does) ≡ true → ((slot : ℕ) → closes slot does ≡ false) → HasLowered g task at does owes count at owes
  was_last last moved may no_close = record {
    moved = moved;
    fits = ap (may_owe owes) stands ∙ may;
    shut = λ slot. ap (act_passes (closes slot)) stands ∙ no_close slot;
    no_more = λ is_due none less. less;
    owing = λ is_due none met test.
        ap (λ (b : Bool). b && act_passes test (slice_get (script g task) at)) met
        ∙ ap (act_passes test) stands
        ∙ ap (λ (b : Bool). b && test does) (sym (eq-eqb count 1 last));
  }

  pub was_more : (count ≡ 1 → ⊥) → does ≢ act.Finishes → opens does ≡ false → HasLowered g task at does owes count (at + 1) due.Nothing
  was_more more ends_not no_open = record {
    moved = refl;
    fits = ap (may_owe due.Nothing) (next_exists g task at does stands ends_not).1;
    shut = λ slot. no_close_next g task at slot does stands no_open;
    no_more = λ is_due none less. none;
    owing = λ is_due none met test. and_left (is_due due.Nothing) _ none ∙ sym (and_left (count == 1) (test does) (ne_eqb count 1 more));
  }

module _ (c : Core) (seat task at : ℕ) (does : Act) (owes : Due) (count at' : ℕ) (owed' : Due)
    (is : IsSeat c.views seat (view.Running task at due.Nothing)) (stands : slice_get (script c.graph task) at ≡ Some does) (sound : IsSound c)
    (done : HasLowered c.graph task at does owes count at' owed') where
  behind_now : (test : Act → Bool) → list_any test (take (places_behind at' owed') (script c.graph task)) ≡ (list_any test (take at (script c.graph task)) || test does)
  behind_now test = ap (λ (n : ℕ). list_any test (take n (script c.graph task))) done.moved ∙ one_behind test (script c.graph task) at does stands

  -- for tests that the act does not pass, and for one that it passes and no act before it does
  own_alike : (test : Act → Bool) → test does ≡ false → list_any test (take at (script c.graph task)) ≡ list_any test (take (places_behind at' owed') (script c.graph task))
  own_alike test unlike = sym (behind_now test ∙ ap (λ (b : Bool). list_any test (take at (script c.graph task)) || b) unlike ∙ or-false (list_any test (take at (script c.graph task))))

  pub alike : (test : Act → Bool) → test does ≡ false → (t : ℕ) → is_behind c.graph c.published c.views test t ≡ is_behind c.graph c.published (slice_set c.views seat (view.Running task at' owed')) test t
  alike test unlike = behind_kept c seat task at at' due.Nothing owed' is sound test (own_alike test unlike)

  pub as_many : (test : Act → Bool) → test does ≡ false → (wants : ℕ → Bool) →
      count_by (λ t. wants t && not (is_behind c.graph c.published c.views test t)) (tasks_of c.graph)
      ≡ count_by (λ t. wants t && not (is_behind c.graph c.published (slice_set c.views seat (view.Running task at' owed')) test t)) (tasks_of c.graph)
  as_many test unlike wants = count_alike _ _ c.graph.tasks (λ t within. ap (λ (b : Bool). wants t && not b) (alike test unlike t))

  pub one_less : (test : Act → Bool) → test does ≡ true → count_by test (script c.graph task) ≤ 1 → (wants : ℕ → Bool) → wants task ≡ true →
      count_by (λ t. wants t && not (is_behind c.graph c.published c.views test t)) (tasks_of c.graph)
      ≡ count_by (λ t. wants t && not (is_behind c.graph c.published (slice_set c.views seat (view.Running task at' owed')) test t)) (tasks_of c.graph) + 1
  one_less test met once wants wanted =
      counts_but_one (λ t. wants t && not (is_behind c.graph c.published c.views test t))
      (λ t. wants t && not (is_behind c.graph c.published (slice_set c.views seat (view.Running task at' owed')) test t))
      c.graph.tasks task (runs_task c sound seat task at due.Nothing is)
      (and_from _ _ wanted (ap not (behind_was c seat task at at' due.Nothing owed' is sound c.published test ∙ none_before test (script c.graph task) at does stands met once)))
      (and_right _ _ (ap not (behind_is c seat task at at' due.Nothing owed' is sound c.published test ∙ behind_now test ∙ or_right (list_any test (take at (script c.graph task))) (test does) met)))
      (λ t lt other. ap (λ (b : Bool). wants t && not b) (behind_else c seat task at at' due.Nothing owed' is sound c.published (λ u away. refl) test t other))

  -- what the seat owes now it did not owe before, and nothing else comes or ceases to be due
  pub owed_now : (is_due : Due → Bool) → is_due due.Nothing ≡ false → is_due owes ≡ true → (test : Act → Bool) →
      number_at c.graph (slice_set c.views seat (view.Running task at' owed')) is_due test ≡ number_at c.graph c.views is_due test + number ((count == 1) && test does)
  owed_now is_due none met test =
      omega (
        arith,
        counted c.views seat (view.Running task at due.Nothing) (view.Running task at' owed') is (is_at c.graph is_due test),
        number_false (is_at c.graph is_due test (view.Running task at due.Nothing)) (and_left (is_due due.Nothing) _ none),
        ap number (done.owing is_due none met test),
      )

  pub owed_else : (is_due : Due → Bool) → is_due due.Nothing ≡ false → is_due owes ≡ false → (test : Act → Bool) →
      number_at c.graph c.views is_due test ≡ number_at c.graph (slice_set c.views seat (view.Running task at' owed')) is_due test
  owed_else is_due none less test = undue c seat task at at' due.Nothing owed' is sound is_due none (done.no_more is_due none less) test

  pub closing_kept : ((slot : ℕ) → closes slot does ≡ false) → (slot : ℕ) →
      number_at c.graph c.views is_anything (closes slot) ≡ number_at c.graph (slice_set c.views seat (view.Running task at' owed')) is_anything (closes slot)
  closing_kept no_close = closing_same c seat task at at' due.Nothing owed' is sound (λ slot. ap (act_passes (closes slot)) stands ∙ no_close slot) done.shut

  pub seats_kept : publishes does ≡ false → IsSeatSound c (slice_set c.views seat (view.Running task at' owed'))
  seats_kept unlike = goes_on c seat task at at' due.Nothing owed' is sound done.fits (number_kept c seat task at at' due.Nothing owed' is sound publishes (own_alike publishes unlike))

  pub done_kept : Done c.graph c.done (is_finished c.published (slice_set c.views seat (view.Running task at' owed')))
  done_kept = along (λ f. Done c.graph c.done f) (is_finished c.published c.views) (is_finished c.published (slice_set c.views seat (view.Running task at' owed'))) (finished_stay c seat task at at' due.Nothing owed' is sound c.published (λ u away. refl)) sound.done
