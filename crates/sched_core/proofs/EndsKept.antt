-- Where all tasks are done, the values that are home are those of the slots that are kept.
use Rattle.std.proofs.Common.{◌≡◌, ◌∙◌, ◌<◌, ℕ, Bool, true, false, cond, sym, refl, arith}
use Rattle.std.specs.Prelude.{◌==◌, ◌&&◌, ◌||◌, not, slice_index, slice_index_or}
use Rattle.std.proofs.lemmas.Bool.{false≢true, eqb-true, eq-eqb, and_parts, and_right, not_from_true, or_left}
use Rattle.std.proofs.lemmas.List.Elements.{All-from_get_or}
use Rattle.graph_types.specs.Graph.{reads, writes, is_kept}
use Rattle.sched_core.specs.declared.act.Act.{Act}
use Rattle.sched_core.specs.declared.view.Due.{Due}
use Rattle.sched_core.specs.declared.view.View.{View}
use Rattle.sched_core.specs.declared.view.View.TheVariants as view
use Rattle.sched_core.specs.declared.state.Core.{Core}
use Rattle.sched_core.specs.Core.{runs, runners, is_at, number_at, is_finished, is_behind, is_scrub, is_anything, closes, lowers_use, view_of}
use Rattle.sched_core.specs.Sound.{is_unwritten, SlotStands, Unwritten, Free, Held, Last, Scrubbed, IsSound}
use Rattle.sched_core.specs.Ends.{DoneLeavesTheKept}
use Rattle.sched_core.proofs.Lists.{none_below}
use Rattle.sched_core.proofs.Seats.{IsSeat, count_at_least}
use Rattle.sched_core.proofs.Facts.{runs_task}
use Rattle.sched_core.proofs.Quiet.{is_running, at_none}
use Rattle.sched_core.proofs.EndsCounts.{counts_each, counts_never, counts_none}

-- what is home, by how the slot stands, where all that write it have published and nobody closes or scrubs it
kept_by : (left : ℕ) (home kept : Bool) (unwritten : Bool) (turn closing scrubbing : ℕ) → left ≡ cond kept 1 0 → unwritten ≡ false → closing ≡ 0 → scrubbing ≡ 0 → SlotStands unwritten left turn home closing scrubbing → home ≡ kept
kept_by left home kept unwritten turn closing scrubbing uses written no_closing no_scrubbing (Unwritten is a b d) = absurd (false≢true (sym written ∙ is))
kept_by left home true unwritten turn closing scrubbing uses written no_closing no_scrubbing (Free a some b is d) = is
kept_by left home false unwritten turn closing scrubbing uses written no_closing no_scrubbing (Free a some b is d) = absurd (omega (arith, uses, some))
kept_by left home kept unwritten turn closing scrubbing uses written no_closing no_scrubbing (Held a b d e one) = absurd (omega (arith, one, no_closing))
kept_by left home kept unwritten turn closing scrubbing uses written no_closing no_scrubbing (Last a b d e one f) = absurd (omega (arith, one, no_scrubbing))
kept_by left home true unwritten turn closing scrubbing uses written no_closing no_scrubbing (Scrubbed a none b is d e) = absurd (omega (arith, uses, none))
kept_by left home false unwritten turn closing scrubbing uses written no_closing no_scrubbing (Scrubbed a none b is d e) = is

module _ (c : Core) (sound : IsSound c) (done : c.done ≡ c.graph.tasks) where
  finished : (task : ℕ) → task < c.graph.tasks → is_finished c.published c.views task ≡ true
  finished task lt = counts_each (is_finished c.published c.views) c.graph.tasks task lt (sym sound.done.count ∙ done)

  published_is : (task : ℕ) → task < c.graph.tasks → (slice_index c.published task == 1) ≡ true
  published_is task lt = (and_parts (slice_index c.published task == 1) (runners c.views task == 0) (finished task lt)).0

  no_runner : (task : ℕ) → task < c.graph.tasks → runners c.views task ≡ 0
  no_runner task lt = eqb-true _ _ (and_parts (slice_index c.published task == 1) (runners c.views task == 0) (finished task lt)).1

  quiet : (seat : ℕ) (v : View) → IsSeat c.views seat v → is_running v ≡ false
  unfolding is_running
  quiet seat (view.Running task at owed) is =
      let below = runs_task c sound seat task at owed is in
      let some = count_at_least c.views seat (view.Running task at owed) view.Idle is (runs task) (eq-eqb task task refl) in
      absurd (omega (arith, some, no_runner task below))
  quiet seat _ is = refl

  none_at : (is_due : Due → Bool) (test : Act → Bool) → number_at c.graph c.views is_due test ≡ 0
  none_at is_due test =
      counts_none (is_at c.graph is_due test) c.views
      (All-from_get_or (λ v. is_at c.graph is_due test v ≡ false) c.views view.Spent (λ seat within.
      at_none (view_of c seat) (quiet seat (view_of c seat) (record { within = within; was = refl })) c.graph is_due test))

  all_written : (slot : ℕ) → is_unwritten c.graph c.published slot ≡ false
  all_written slot =
      none_below (λ task. writes c.graph task slot && not (slice_index c.published task == 1)) c.graph.tasks
      (λ task lt. and_right (writes c.graph task slot) (not (slice_index c.published task == 1)) (not_from_true _ (published_is task lt)))

  behind : (task slot : ℕ) → task < c.graph.tasks → is_behind c.graph c.published c.views (lowers_use slot) task ≡ true
  behind task slot lt = or_left (is_finished c.published c.views task) _ (finished task lt)

  left_is : (slot : ℕ) → slot < c.graph.slots → slice_index c.left slot ≡ cond (is_kept c.graph slot) 1 0
  left_is slot within =
      let none =
      counts_never (λ task. (reads c.graph task slot || writes c.graph task slot) && not (is_behind c.graph c.published c.views (lowers_use slot) task)) c.graph.tasks
      (λ task lt. and_right (reads c.graph task slot || writes c.graph task slot) (not (is_behind c.graph c.published c.views (lowers_use slot) task)) (not_from_true _ (behind task slot lt))) in
      omega (arith, sound.uses.counts slot within, none)

pub done_kept : DoneLeavesTheKept
done_kept c sound done slot within =
    kept_by (slice_index c.left slot) (slice_index_or c.home slot false) (is_kept c.graph slot) (is_unwritten c.graph c.published slot) (slice_index c.turn slot)
    (number_at c.graph c.views is_anything (closes slot)) (number_at c.graph c.views is_scrub (lowers_use slot)) (left_is c sound done slot within) (all_written c sound done slot)
    (none_at c sound done is_anything (closes slot)) (none_at c sound done is_scrub (lowers_use slot)) (sound.slots.stands slot within)
