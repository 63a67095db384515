-- A seat that draws a place leaves a sound state.
use Rattle.std.proofs.Common.{◌≡◌, ◌∙◌, ◌≢◌, ◌≤◌, ◌<◌, ◌+◌, ℕ, ◌⊎◌, inl, inr, sym, refl, subst, arith, length-set, ◌↔◌}
use Rattle.std.specs.Prelude.{nat_lt, slice_set, slice_index}
use Rattle.std.proofs.lemmas.Bool.{cases_eq, cases_lt, lt-ltb, le-ltb, eq-eqb, ne_eqb, cond-true, cond-false}
use Rattle.sched_core.specs.declared.view.View.{View}
use Rattle.sched_core.specs.declared.view.View.TheVariants as view
use Rattle.sched_core.specs.declared.state.Core.{Core}
use Rattle.sched_core.specs.Core.{holds, holders, runners, number_behind, publishes, gone_of, halted_of, seats_of, view_of}
use Rattle.sched_core.specs.Step.{drawn}
use Rattle.sched_core.specs.Sound.{Tickets, HasBegun, IsSound}
use Rattle.sched_core.proofs.Seats.{IsSeat, seat_of, count_same, count_more, sum_same, summed}
use Rattle.sched_core.proofs.Frames.{shapes_seat, work_framed, work_of, work_as, sound_of, begun_still, running_moved}
use Rattle.sched_core.proofs.Quiet.{is_running, quiet_runners, quiet_behind, quiet_dues, quiet_same}

module _ (c : Core) (seat : ℕ) (idle : IsSeat c.views seat view.Idle) (sound : IsSound c) where
  -- a place of a task
  module _ (room : c.head < c.graph.tasks) where
    others : (place : ℕ) → place ≢ c.head → holders c.views place ≡ holders (slice_set c.views seat (view.Ticket c.head)) place
    others place other = sym (count_same c.views seat view.Idle (view.Ticket c.head) idle (holds place) (sym (ne_eqb c.head place (λ e. other (sym e)))))

    own : holders (slice_set c.views seat (view.Ticket c.head)) c.head ≡ holders c.views c.head + 1
    own = count_more c.views seat view.Idle (view.Ticket c.head) idle (holds c.head) refl (eq-eqb c.head c.head refl)

    none_yet : holders c.views c.head ≡ 0
    none_yet = by_number (cases_eq (holders c.views c.head) 0) where
      by_number : (holders c.views c.head ≡ 0) ⊎ (holders c.views c.head ≡ 0 → ⊥) → holders c.views c.head ≡ 0
      by_number (inl e) = e
      by_number (inr ne) = absurd (let h = sound.tickets.below c.head (omega arith) in omega arith)

    tickets_drawn : Tickets c.graph (c.head + 1) (holders (slice_set c.views seat (view.Ticket c.head)))
    tickets_drawn = record { below = λ place some. below place (cases_eq place c.head) some; apart = λ place. apart place (cases_eq place c.head) } where
      below : (place : ℕ) → (place ≡ c.head) ⊎ (place ≡ c.head → ⊥) → 1 ≤ holders (slice_set c.views seat (view.Ticket c.head)) place → (place < c.graph.tasks) × (place < c.head + 1)
      below place (inl e) some = (omega arith, omega arith)
      below place (inr other) some =
          let h = sound.tickets.below place (omega (arith, others place other)) in
          (omega arith, omega arith)

      apart : (place : ℕ) → (place ≡ c.head) ⊎ (place ≡ c.head → ⊥) → holders (slice_set c.views seat (view.Ticket c.head)) place ≤ 1
      apart place (inl e) = subst (λ (p : ℕ). holders (slice_set c.views seat (view.Ticket c.head)) p ≤ 1) (sym e) (omega (arith, own, none_yet))
      apart place (inr other) = omega (arith, others place other, sound.tickets.apart place)

    pub draw_ticket : IsSound (record c { head = c.head + 1; views = slice_set c.views seat (view.Ticket c.head) })
    unfolding is_running
    draw_ticket =
        let work = work_framed c c.views (slice_set c.views seat (view.Ticket c.head)) (quiet_dues c.views seat view.Idle (view.Ticket c.head) idle refl refl c.graph) (quiet_same c.views seat view.Idle (view.Ticket c.head) idle refl refl c.graph c.published) (work_of c sound) in
        let gone = sum_same c.views seat view.Idle (view.Ticket c.head) idle gone_of refl in
        let halted = sum_same c.views seat view.Idle (view.Ticket c.head) idle halted_of refl in
        let seats = sum_same c.views seat view.Idle (view.Ticket c.head) idle seats_of refl in
        sound_of (record c { head = c.head + 1 }) (slice_set c.views seat (view.Ticket c.head)) sound.graph (work_as c (c.head + 1) c.abort (slice_set c.views seat (view.Ticket c.head)) work) (record {
          shapes = shapes_seat c.graph c.ring c.dep c.published c.left c.turn c.home c.abort c.views seat (view.Ticket c.head) refl sound.shapes;
          tickets = tickets_drawn;
          running = running_moved c.graph c.head (c.head + 1) c.ring c.published (holders c.views) (holders (slice_set c.views seat (view.Ticket c.head))) (runners c.views) (runners (slice_set c.views seat (view.Ticket c.head))) (number_behind c.graph c.views publishes) (number_behind c.graph (slice_set c.views seat (view.Ticket c.head)) publishes)
              (omega arith)
              (λ place lt none. sym (others place (λ e. omega arith)) ∙ none)
              (quiet_runners c.views seat view.Idle (view.Ticket c.head) idle refl refl)
              (quiet_behind c.views seat view.Idle (view.Ticket c.head) idle refl refl c.graph publishes)
              sound.running;
          head = record { drawn = omega (arith, gone, sound.head.drawn); all = seats ∙ (sound.head.all ∙ sym (length-set c.views seat (view.Ticket c.head))) };
          nothing_lost = record {
            aborted = subst (λ (n : ℕ). (c.abort ≡ 1) ↔ (1 ≤ n)) (sym halted) sound.nothing_lost.aborted;
            ended = λ some. let h = sound.nothing_lost.ended (omega (arith, gone)) in omega arith;
            begun = λ place lt room. begun place (cases_eq place c.head) lt room;
          };
        })
      where
        begun : (place : ℕ) → (place ≡ c.head) ⊎ (place ≡ c.head → ⊥) → place < c.head + 1 → place < c.graph.tasks →
            (1 ≤ holders (slice_set c.views seat (view.Ticket c.head)) place) ⊎ (HasBegun (slice_index c.ring place) c.published (runners (slice_set c.views seat (view.Ticket c.head))) ⊎ (c.abort ≡ 1))
        begun place (inl e) lt room = inl (subst (λ (p : ℕ). 1 ≤ holders (slice_set c.views seat (view.Ticket c.head)) p) (sym e) (omega (arith, own)))
        begun place (inr other) lt room =
            begun_still (slice_index c.ring place) c.abort c.published c.published (holders c.views place) (holders (slice_set c.views seat (view.Ticket c.head)) place) (runners c.views) (runners (slice_set c.views seat (view.Ticket c.head)))
            (λ some. omega (arith, others place other)) (λ task there some. omega (arith, quiet_runners c.views seat view.Idle (view.Ticket c.head) idle refl refl task)) (sound.nothing_lost.begun place (omega arith) room)

  -- a place behind all tasks
  module _ (past : c.graph.tasks ≤ c.head) where
    same_tickets : (place : ℕ) → holders c.views place ≡ holders (slice_set c.views seat view.Gone) place
    same_tickets place = sym (count_same c.views seat view.Idle view.Gone idle (holds place) refl)

    pub draw_gone : IsSound (record c { head = c.head + 1; views = slice_set c.views seat view.Gone })
    unfolding is_running
    draw_gone =
        let work = work_framed c c.views (slice_set c.views seat view.Gone) (quiet_dues c.views seat view.Idle view.Gone idle refl refl c.graph) (quiet_same c.views seat view.Idle view.Gone idle refl refl c.graph c.published) (work_of c sound) in
        let gone = summed c.views seat view.Idle view.Gone idle gone_of in
        let halted = sum_same c.views seat view.Idle view.Gone idle halted_of refl in
        let seats = sum_same c.views seat view.Idle view.Gone idle seats_of refl in
        sound_of (record c { head = c.head + 1 }) (slice_set c.views seat view.Gone) sound.graph (work_as c (c.head + 1) c.abort (slice_set c.views seat view.Gone) work) (record {
          shapes = shapes_seat c.graph c.ring c.dep c.published c.left c.turn c.home c.abort c.views seat view.Gone refl sound.shapes;
          tickets = record {
            below = λ place some. let h = sound.tickets.below place (omega (arith, same_tickets place)) in (omega arith, omega arith);
            apart = λ place. omega (arith, same_tickets place, sound.tickets.apart place);
          };
          running = running_moved c.graph c.head (c.head + 1) c.ring c.published (holders c.views) (holders (slice_set c.views seat view.Gone)) (runners c.views) (runners (slice_set c.views seat view.Gone)) (number_behind c.graph c.views publishes) (number_behind c.graph (slice_set c.views seat view.Gone) publishes)
              (omega arith)
              (λ place lt none. sym (same_tickets place) ∙ none)
              (quiet_runners c.views seat view.Idle view.Gone idle refl refl)
              (quiet_behind c.views seat view.Idle view.Gone idle refl refl c.graph publishes)
              sound.running;
          head = record { drawn = omega (arith, gone, sound.head.drawn); all = seats ∙ (sound.head.all ∙ sym (length-set c.views seat view.Gone)) };
          nothing_lost = record {
            aborted = subst (λ (n : ℕ). (c.abort ≡ 1) ↔ (1 ≤ n)) (sym halted) sound.nothing_lost.aborted;
            ended = λ some. omega arith;
            begun = λ place lt room. begun_still (slice_index c.ring place) c.abort c.published c.published (holders c.views place) (holders (slice_set c.views seat view.Gone) place) (runners c.views) (runners (slice_set c.views seat view.Gone))
                (λ some. omega (arith, same_tickets place)) (λ task there some. omega (arith, quiet_runners c.views seat view.Idle view.Gone idle refl refl task)) (sound.nothing_lost.begun place (omega arith) room);
          };
        })

pub draw_sound : (c : Core) (seat : ℕ) → view_of c seat ≡ view.Idle → IsSound c → IsSound (record c { head = c.head + 1; views = slice_set c.views seat (drawn c c.head) })
draw_sound c seat is sound = by_order (cases_lt c.head c.graph.tasks) where
  idle : IsSeat c.views seat view.Idle
  idle = seat_of c.views seat view.Idle is (λ e. cc)

  by_order : (c.head < c.graph.tasks) ⊎ (c.graph.tasks ≤ c.head) → IsSound (record c { head = c.head + 1; views = slice_set c.views seat (drawn c c.head) })
  by_order (inl room) = subst (λ (v : View). IsSound (record c { head = c.head + 1; views = slice_set c.views seat v })) (sym (cond-true (nat_lt c.head c.graph.tasks) (view.Ticket c.head) view.Gone (lt-ltb _ _ room))) (draw_ticket c seat idle sound room)
  by_order (inr past) = subst (λ (v : View). IsSound (record c { head = c.head + 1; views = slice_set c.views seat v })) (sym (cond-false (nat_lt c.head c.graph.tasks) (view.Ticket c.head) view.Gone (le-ltb _ _ past))) (draw_gone c seat idle sound past)
