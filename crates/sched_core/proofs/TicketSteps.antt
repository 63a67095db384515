-- Each step of a ticket kind leaves a sound state.
use Rattle.std.proofs.Common.{◌≡◌, ◌∙◌, ◌-◌, ℕ, cond, Option, Some, None, ◌⊎◌, inl, inr, List, ap, sym, refl, subst, arith}
use Rattle.std.proofs.lemmas.List.{set-get_or}
use Rattle.std.specs.Prelude.{◌==◌, slice_get, slice_set, slice_index}
use Rattle.std.specs.List.{position}
use Rattle.std.proofs.lemmas.Bool.{cases_eq, eq-eqb, ne_eqb, cond-true, cond-false}
use Rattle.sched_core.specs.declared.act.Act.{Act}
use Rattle.sched_core.specs.declared.act.Act.TheVariants as act
use Rattle.sched_core.specs.declared.view.Due.{Due}
use Rattle.sched_core.specs.declared.view.Due.TheVariants as due
use Rattle.sched_core.specs.declared.view.View.{View}
use Rattle.sched_core.specs.declared.view.View.TheVariants as view
use Rattle.sched_core.specs.declared.view.Doing.{Doing}
use Rattle.sched_core.specs.declared.state.Core.{Core}
use Rattle.sched_core.specs.Core.{doing, script, view_of}
use Rattle.sched_core.specs.Step.{is_unmade, with_view, split, draw, seen, see, look_abort, abort, abort_before, finish, look_done, closed, joined, join, by_task, by_doing}
use Rattle.sched_core.specs.Sound.{IsSound}
use Rattle.sched_core.proofs.Seats.{IsSeat, seat_of}
use Rattle.sched_core.proofs.Drawing.{draw_sound}
use Rattle.sched_core.proofs.Closing.{split_sound, halt_sound}
use Rattle.sched_core.proofs.Beginning.{begins, begin_sound}
use Rattle.sched_core.proofs.Ending.{abort_sound}
use Rattle.sched_core.proofs.Finishing.{finish_sound}
use Rattle.sched_core.proofs.Joining.{join_sound}
use Rattle.sched_core.proofs.Places.{is_doing}

-- what a step may leave is sound
abbrev pub Leaves : Option Core → Type 0
Leaves None = Unit {0}
Leaves (Some next) = IsSound next

-- A step by what the seat's task does leaves a sound state, where each of its effects does.
pub by_task_leaves : (effect : Core → ℕ → Doing → Due → Act → Option Core) (c : Core) (seat : ℕ) →
    ((d : Doing) (owed : Due) (a : Act) → IsSeat c.views seat (view.Running d.task d.at owed) → slice_get (script c.graph d.task) d.at ≡ Some a → Leaves (effect c seat d owed a)) →
    Leaves (by_doing effect c seat)
by_task_leaves effect c seat leaves = by_task_is (doing c.graph (view_of c seat)) refl where
  by_task_is : (o : Option Doing) → doing c.graph (view_of c seat) ≡ o → Leaves (by_task effect c seat o)
  by_task_is None is = tt
  by_task_is (Some d) is =
      let h = is_doing c.graph (view_of c seat) d is in
      leaves d d.due d.act (seat_of c.views seat (view.Running d.task d.at d.due) h.0 (λ e. cc)) h.1

module _ (c : Core) (sound : IsSound c) where
  pub split_leaves : (v : View) (unmade : Option ℕ) → position is_unmade c.views ≡ unmade → Leaves (split c v unmade)
  split_leaves view.Idle (Some seat) h = split_sound c seat h sound
  split_leaves view.Idle None h = tt
  split_leaves _ unmade h = tt

  pub draw_leaves : (seat : ℕ) (v : View) → view_of c seat ≡ v → Leaves (draw c seat v)
  draw_leaves seat view.Idle is = draw_sound c seat is sound
  draw_leaves seat _ is = tt

  -- a seat whose view is set to what it was
  unchanged : (seat : ℕ) (v : View) → view_of c seat ≡ v → IsSound (with_view c seat v)
  unchanged seat v is = subst (λ (views : List View). IsSound (record c { views = views })) (sym (ap (slice_set c.views seat) (sym is) ∙ set-get_or c.views seat view.Spent)) sound

  pub see_leaves : (seat : ℕ) (v : View) → view_of c seat ≡ v → Leaves (see c seat v)
  see_leaves seat (view.Ticket place) is = by_word (cases_eq (slice_index c.ring place) 0) where
    by_word : (slice_index c.ring place ≡ 0) ⊎ (slice_index c.ring place ≡ 0 → ⊥) → IsSound (with_view c seat (seen place (slice_index c.ring place)))
    by_word (inl none) = subst (λ (v : View). IsSound (with_view c seat v)) (sym (cond-true _ _ _ (eq-eqb _ _ none))) (unchanged seat (view.Ticket place) is)
    by_word (inr some) = subst (λ (v : View). IsSound (with_view c seat v)) (sym (cond-false _ _ _ (ne_eqb _ _ some)))
        (begin_sound c seat place (slice_index c.ring place - 1) (seat_of c.views seat (view.Ticket place) is (λ e. cc)) (omega arith) sound)
  see_leaves seat _ is = tt

  pub look_abort_leaves : (seat : ℕ) (v : View) → view_of c seat ≡ v → Leaves (look_abort c seat v)
  look_abort_leaves seat (view.Ticket place) is = by_word (cases_eq c.abort 1) where
    by_word : (c.abort ≡ 1) ⊎ (c.abort ≡ 1 → ⊥) → IsSound (with_view c seat (cond (c.abort == 1) view.Halted (view.Ticket place)))
    by_word (inl set) = subst (λ (v : View). IsSound (with_view c seat v)) (sym (cond-true _ _ _ (eq-eqb _ _ set))) (halt_sound c seat place (seat_of c.views seat (view.Ticket place) is (λ e. cc)) set sound)
    by_word (inr unset) = subst (λ (v : View). IsSound (with_view c seat v)) (sym (cond-false _ _ _ (ne_eqb _ _ unset))) (unchanged seat (view.Ticket place) is)
  look_abort_leaves seat _ is = tt

  pub abort_leaves : (seat : ℕ) (v : View) → view_of c seat ≡ v → Leaves (abort c seat v)
  abort_leaves seat (view.Running task at due.Nothing) is = by_place (cases_eq at 0) where
    by_place : (at ≡ 0) ⊎ (at ≡ 0 → ⊥) → Leaves (abort_before c seat at due.Nothing)
    by_place (inl first) =
        let begun : view_of c seat ≡ begins task = is ∙ ap (λ (place : ℕ). view.Running task place due.Nothing) first in
        subst Leaves (sym (cond-true _ _ _ (eq-eqb _ _ first))) (abort_sound c seat task (seat_of c.views seat (begins task) begun (λ e. cc)) sound)
    by_place (inr later) = subst Leaves (sym (cond-false _ _ _ (ne_eqb _ _ later))) tt
  abort_leaves seat (view.Running task at due.Scrub) is = tt
  abort_leaves seat (view.Running task at due.Place) is = tt
  abort_leaves seat (view.Running task at (due.Put place)) is = tt
  abort_leaves seat _ is = tt

  pub finish_leaves : (seat : ℕ) (d : Doing) (owed : Due) (a : Act) → IsSeat c.views seat (view.Running d.task d.at owed) → slice_get (script c.graph d.task) d.at ≡ Some a → Leaves (finish c seat d owed a)
  finish_leaves seat d due.Nothing act.Finishes is stands = finish_sound c seat d.task d.at is stands sound
  finish_leaves seat d _ _ is stands = tt

  pub look_done_leaves : (v : View) → Leaves (look_done c v)
  look_done_leaves view.Idle = sound
  look_done_leaves view.Gone = sound
  look_done_leaves view.Halted = sound
  look_done_leaves (view.Closing gone halted) = sound
  look_done_leaves _ = tt

  pub join_leaves : (seat other : ℕ) → Leaves (join c seat other)
  join_leaves seat other = by_seat (cases_eq seat other) where
    both : (mine theirs : Option (ℕ × ℕ)) → closed (view_of c seat) ≡ mine → closed (view_of c other) ≡ theirs → (seat ≡ other → ⊥) → Leaves (joined c seat other mine theirs)
    both (Some mine) (Some theirs) own their apart = join_sound c seat other mine theirs apart own their sound
    both (Some mine) None own their apart = tt
    both None theirs own their apart = tt

    by_seat : (seat ≡ other) ⊎ (seat ≡ other → ⊥) → Leaves (join c seat other)
    by_seat (inl same) = subst Leaves (sym (cond-true _ _ _ (eq-eqb _ _ same))) tt
    by_seat (inr apart) = subst Leaves (sym (cond-false _ _ _ (ne_eqb _ _ apart))) (both _ _ refl refl apart)
