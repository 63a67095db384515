-- A seat that publishes what its task wrote leaves a sound state.
use Rattle.std.proofs.Common.{◌≡◌, ◌∙◌, ◌≢◌, ◌≤◌, ◌<◌, ◌+◌, ◌↔◌, ℕ, Bool, true, false, not, Some, ◌⊎◌, inl, inr, List, [], ◌∷◌, length, take, ap, sym, refl, subst, arith, length-set, get_or-set_same, get_or-set_other}
use Rattle.std.specs.Prelude.{◌==◌, ◌&&◌, ◌||◌, slice_get, slice_set, slice_index, slice_index_or}
use Rattle.std.specs.List.{list_any}
use Rattle.std.proofs.Math.Bool.{or-true}
use Rattle.std.proofs.lemmas.Bool.{cases_eq, cases_Bool, false≢true, eq-eqb, ne_eqb, and_from, and_left, and_right, or_left, or_right}
use Rattle.std.proofs.lemmas.List.Elements.{All-set}
use Rattle.graph_types.specs.Counting.{count_one}
use Rattle.graph_types.specs.Facts.{only_writer}
use Rattle.graph_types.specs.Graph.{reads_of, writes_of, reads, writes, has}
use Rattle.sched_core.specs.declared.act.Act.{Act}
use Rattle.sched_core.specs.declared.act.Act.TheVariants as act
use Rattle.sched_core.specs.declared.view.Due.TheVariants as due
use Rattle.sched_core.specs.declared.view.View.TheVariants as view
use Rattle.sched_core.specs.declared.state.Core.{Core}
use Rattle.std.specs.List.{flat_map}
use Rattle.sched_core.specs.Core.{reading, script, act_passes, holds, holders, runners, number_at, number_behind, is_behind, is_scrub, is_put_at, is_in_hand, is_anything, closes, publishes, lowers_use, lowers_successor, gone_of, halted_of, seats_of}
use Rattle.sched_core.specs.Step.{marked}
use Rattle.sched_core.specs.Sound.{SlotStands, Unwritten, Free, Held, Last, Scrubbed, IsSound, is_unwritten, may_owe}
use Rattle.sched_core.proofs.Lists.{number, any_below, alike_below, none_below}
use Rattle.sched_core.proofs.Seats.{IsSeat, count_same, sum_same}
use Rattle.sched_core.proofs.Frames.{SameDues, SameBehind, ring_framed, slots_framed, dependencies_framed, uses_framed, done_framed, shapes_seat, shapes_as, sound_of, fewer_tickets, head_stays, begun_still}
use Rattle.sched_core.proofs.Scripts.{reads_lower_no_use, behind_publish, no_publish_reading}
use Rattle.sched_core.proofs.Facts.{runs_task, fits_there}
use Rattle.sched_core.proofs.Progress.{next_exists, no_close_next, opens}
use Rattle.sched_core.proofs.Moving.{runs_before, runners_stay, number_was, number_is, number_else, behind_was, kept_behind, undue, closing_same, one_more, goes}

-- marks on a list of slots
pub length_marked : (slots : List ℕ) (marks : List Bool) (mark : Bool) → length (marked marks slots mark) ≡ length marks
length_marked [] marks mark = refl
length_marked (slot ∷ slots) marks mark = length_marked slots (slice_set marks slot mark) mark ∙ length-set marks slot mark

pub marked_at : (slots : List ℕ) (marks : List Bool) (slot : ℕ) → slot < length marks → slice_index_or (marked marks slots true) slot false ≡ (has slots slot || slice_index_or marks slot false)
marked_at [] marks slot lt = refl
marked_at (s ∷ slots) marks slot lt = marked_at slots (slice_set marks s true) slot (subst (λ (n : ℕ). slot < n) (sym (length-set marks s true)) lt) ∙ first (cases_eq s slot) where
  first : (s ≡ slot) ⊎ (s ≡ slot → ⊥) → (has slots slot || slice_index_or (slice_set marks s true) slot false) ≡ (((s == slot) || has slots slot) || slice_index_or marks slot false)
  first (inl e) =
      ap (λ (b : Bool). has slots slot || b) (ap (λ (k : ℕ). slice_index_or (slice_set marks k true) slot false) e ∙ get_or-set_same marks slot true false lt)
      ∙ or-true (has slots slot)
      ∙ ap (λ (b : Bool). (b || has slots slot) || slice_index_or marks slot false) (sym (eq-eqb s slot e))
  first (inr other) =
      ap (λ (b : Bool). has slots slot || b) (get_or-set_other marks s slot true false (λ e. other (sym e)))
      ∙ ap (λ (b : Bool). (b || has slots slot) || slice_index_or marks slot false) (sym (ne_eqb s slot other))

module _ (c : Core) (seat task at : ℕ) (is : IsSeat c.views seat (view.Running task at due.Nothing)) (stands : slice_get (script c.graph task) at ≡ Some act.Publishes) (sound : IsSound c) where
  below : task < c.graph.tasks
  below = runs_task c sound seat task at due.Nothing is

  word_else : (t : ℕ) → t ≢ task → slice_index (slice_set c.published task 1) t ≡ slice_index c.published t
  word_else t other = get_or-set_other c.published task t 1 0 other

  word_now : slice_index (slice_set c.published task 1) task ≡ 1
  word_now = get_or-set_same c.published task 1 0 (omega (arith, sound.shapes.published_length, below))

  nothing_behind : (test : Act → Bool) → list_any test (take at (script c.graph task)) ≡ list_any test (flat_map reading (reads_of c.graph task))
  nothing_behind test = ap (list_any test) (behind_publish c.graph task at stands)

  unread : slice_index c.published task ≡ 0
  unread =
      sound.running.told task (runs_before c seat task at (at + 1) due.Nothing due.Nothing is sound)
      ∙ number_was c seat task at (at + 1) due.Nothing due.Nothing is sound publishes
      ∙ ap number (nothing_behind publishes ∙ no_publish_reading (reads_of c.graph task))

  word_grows : (t : ℕ) → slice_index c.published t ≤ slice_index (slice_set c.published task 1) t
  word_grows t = by_task (cases_eq t task) where
    by_task : (t ≡ task) ⊎ (t ≡ task → ⊥) → slice_index c.published t ≤ slice_index (slice_set c.published task 1) t
    by_task (inl e) = subst (λ (u : ℕ). slice_index c.published u ≤ slice_index (slice_set c.published task 1) u) (sym e) (omega (arith, unread, word_now))
    by_task (inr other) = omega (arith, word_else t other)

  same_behind : SameBehind c.graph c.published (slice_set c.published task 1) c.views (slice_set c.views seat (view.Running task (at + 1) due.Nothing))
  same_behind = kept_behind c seat task at (at + 1) due.Nothing due.Nothing is sound (slice_set c.published task 1) word_else
      (λ slot. goes c seat task at is sound act.Publishes stands (lowers_use slot) refl) (λ successor. goes c seat task at is sound act.Publishes stands (lowers_successor successor) refl)

  dues : SameDues c.graph c.views (slice_set c.views seat (view.Running task (at + 1) due.Nothing))
  unfolding opens
  dues = record {
    put = λ p test. undue c seat task at (at + 1) due.Nothing due.Nothing is sound (is_put_at p) refl refl test;
    in_hand = λ t. undue c seat task at (at + 1) due.Nothing due.Nothing is sound is_in_hand refl refl (lowers_successor t);
    closing = closing_same c seat task at (at + 1) due.Nothing due.Nothing is sound (λ slot. ap (act_passes (closes slot)) stands) (λ slot. no_close_next c.graph task at slot act.Publishes stands refl);
    scrubbing = λ slot. undue c seat task at (at + 1) due.Nothing due.Nothing is sound is_scrub refl refl (lowers_use slot);
  }

  -- a slot that the task writes has no other writer
  no_other : (slot t : ℕ) → slot < c.graph.slots → writes c.graph task slot ≡ true → t < c.graph.tasks → t ≢ task → writes c.graph t slot ≡ false
  no_other slot t within own lt other = by_test (cases_Bool (writes c.graph t slot)) where
    by_test : (writes c.graph t slot ≡ true) ⊎ (writes c.graph t slot ≡ false) → writes c.graph t slot ≡ false
    by_test (inr none) = none
    by_test (inl too) = absurd (other (only_writer c.graph sound.graph.slots slot t task within lt below too own))

  slot_stands : (slot : ℕ) → slot < c.graph.slots → (writes c.graph task slot ≡ true) ⊎ (writes c.graph task slot ≡ false) →
      SlotStands (is_unwritten c.graph c.published slot) (slice_index c.left slot) (slice_index c.turn slot) (slice_index_or c.home slot false) (number_at c.graph c.views is_anything (closes slot)) (number_at c.graph c.views is_scrub (lowers_use slot)) →
      SlotStands (is_unwritten c.graph (slice_set c.published task 1) slot) (slice_index c.left slot) (slice_index c.turn slot) (slice_index_or (marked c.home (writes_of c.graph task) true) slot false) (number_at c.graph c.views is_anything (closes slot)) (number_at c.graph c.views is_scrub (lowers_use slot))
  slot_stands slot within (inl own) h = fresh h where
    was : is_unwritten c.graph c.published slot ≡ true
    was = any_below (λ t. writes c.graph t slot && not (slice_index c.published t == 1)) c.graph.tasks task below
        (and_from _ _ own (ap (λ (w : ℕ). not (w == 1)) unread))

    now : is_unwritten c.graph (slice_set c.published task 1) slot ≡ false
    now = none_below (λ t. writes c.graph t slot && not (slice_index (slice_set c.published task 1) t == 1)) c.graph.tasks (λ t lt. each t lt (cases_eq t task)) where
      each : (t : ℕ) → t < c.graph.tasks → (t ≡ task) ⊎ (t ≡ task → ⊥) → (writes c.graph t slot && not (slice_index (slice_set c.published task 1) t == 1)) ≡ false
      each t lt (inl e) = and_right _ _ (ap (λ (w : ℕ). not (w == 1)) (ap (slice_index (slice_set c.published task 1)) e ∙ word_now))
      each t lt (inr other) = and_left _ _ (no_other slot t within own lt other)

    home : slice_index_or (marked c.home (writes_of c.graph task) true) slot false ≡ true
    home = marked_at (writes_of c.graph task) c.home slot (omega (arith, sound.shapes.home_length)) ∙ or_left _ _ own

    left : 1 ≤ slice_index c.left slot
    left =
        let unlowered : is_behind c.graph c.published c.views (lowers_use slot) task ≡ false = behind_was c seat task at (at + 1) due.Nothing due.Nothing is sound c.published (lowers_use slot) ∙ nothing_behind (lowers_use slot) ∙ reads_lower_no_use slot (reads_of c.graph task) in
        let counts = count_one (λ t. (reads c.graph t slot || writes c.graph t slot) && not (is_behind c.graph c.published c.views (lowers_use slot) t)) c.graph.tasks task below
        (and_from _ _ (or_right _ _ own) (ap not unlowered)) in
        omega (arith, counts, sound.uses.counts slot within)

    fresh : SlotStands (is_unwritten c.graph c.published slot) (slice_index c.left slot) (slice_index c.turn slot) (slice_index_or c.home slot false) (number_at c.graph c.views is_anything (closes slot)) (number_at c.graph c.views is_scrub (lowers_use slot)) →
        SlotStands (is_unwritten c.graph (slice_set c.published task 1) slot) (slice_index c.left slot) (slice_index c.turn slot) (slice_index_or (marked c.home (writes_of c.graph task) true) slot false) (number_at c.graph c.views is_anything (closes slot)) (number_at c.graph c.views is_scrub (lowers_use slot))
    fresh (Unwritten unwritten turn away closing) = Free now left turn home closing
    fresh (Free written some turn there closing) = absurd (false≢true (sym written ∙ was))
    fresh (Held written some turn away closing) = absurd (false≢true (sym written ∙ was))
    fresh (Last written none turn there one closing) = absurd (false≢true (sym written ∙ was))
    fresh (Scrubbed written none turn away scrubbing closing) = absurd (false≢true (sym written ∙ was))
  slot_stands slot within (inr none) h =
      subst (λ (b : Bool). SlotStands b (slice_index c.left slot) (slice_index c.turn slot) (slice_index_or (marked c.home (writes_of c.graph task) true) slot false) (number_at c.graph c.views is_anything (closes slot)) (number_at c.graph c.views is_scrub (lowers_use slot))) unwritten
      (subst (λ (b : Bool). SlotStands (is_unwritten c.graph c.published slot) (slice_index c.left slot) (slice_index c.turn slot) b (number_at c.graph c.views is_anything (closes slot)) (number_at c.graph c.views is_scrub (lowers_use slot))) home h)
    where
      home : slice_index_or c.home slot false ≡ slice_index_or (marked c.home (writes_of c.graph task) true) slot false
      home = sym (marked_at (writes_of c.graph task) c.home slot (omega (arith, sound.shapes.home_length)) ∙ ap (λ (b : Bool). b || slice_index_or c.home slot false) none)

      unwritten : is_unwritten c.graph c.published slot ≡ is_unwritten c.graph (slice_set c.published task 1) slot
      unwritten = alike_below _ _ c.graph.tasks (λ t lt. each t (cases_eq t task)) where
        each : (t : ℕ) → (t ≡ task) ⊎ (t ≡ task → ⊥) → (writes c.graph t slot && not (slice_index c.published t == 1)) ≡ (writes c.graph t slot && not (slice_index (slice_set c.published task 1) t == 1))
        each t (inl e) =
            let away : writes c.graph t slot ≡ false = ap (λ (u : ℕ). writes c.graph u slot) e ∙ none in
            and_left _ _ away ∙ sym (and_left _ _ away)
        each t (inr other) = ap (λ (w : ℕ). writes c.graph t slot && not (w == 1)) (sym (word_else t other))

  told : (t : ℕ) → (t ≡ task) ⊎ (t ≡ task → ⊥) → 1 ≤ runners (slice_set c.views seat (view.Running task (at + 1) due.Nothing)) t →
      slice_index (slice_set c.published task 1) t ≡ number_behind c.graph (slice_set c.views seat (view.Running task (at + 1) due.Nothing)) publishes t
  told t (inl e) some =
      let one : number (list_any publishes (take (at + 1) (script c.graph task))) ≡ 1 = ap number (one_more c seat task at is sound act.Publishes stands publishes ∙ or-true (list_any publishes (take at (script c.graph task)))) in
      subst (λ (u : ℕ). slice_index (slice_set c.published task 1) u ≡ number_behind c.graph (slice_set c.views seat (view.Running task (at + 1) due.Nothing)) publishes u) (sym e)
      (word_now ∙ sym (number_is c seat task at (at + 1) due.Nothing due.Nothing is sound publishes ∙ one))
  told t (inr other) some =
      word_else t other
      ∙ sound.running.told t (omega (arith, runners_stay c seat task at (at + 1) due.Nothing due.Nothing is sound t))
      ∙ sym (number_else c seat task at (at + 1) due.Nothing due.Nothing is sound publishes t other)

  drawn_before : (t : ℕ) → (t ≡ task) ⊎ (t ≡ task → ⊥) → 1 ≤ runners (slice_set c.views seat (view.Running task (at + 1) due.Nothing)) t + slice_index (slice_set c.published task 1) t → 1 ≤ runners c.views t + slice_index c.published t
  drawn_before t (inl e) some =
      let ran : 1 ≤ runners c.views t = subst (λ (u : ℕ). 1 ≤ runners c.views u) (sym e) (runs_before c seat task at (at + 1) due.Nothing due.Nothing is sound) in
      omega arith
  drawn_before t (inr other) some = omega (arith, runners_stay c seat task at (at + 1) due.Nothing due.Nothing is sound t, word_else t other)

  pub publish_sound : IsSound (record c { published = slice_set c.published task 1; home = marked c.home (writes_of c.graph task) true; views = slice_set c.views seat (view.Running task (at + 1) due.Nothing) })
  publish_sound =
      let old = view.Running task at due.Nothing in
      let new = view.Running task (at + 1) due.Nothing in
      let gone = sum_same c.views seat old new is gone_of refl in
      let halted = sum_same c.views seat old new is halted_of refl in
      let seats = sum_same c.views seat old new is seats_of refl in
      let tickets = λ (p : ℕ). count_same c.views seat old new is (holds p) refl in
      let runners' = runners_stay c seat task at (at + 1) due.Nothing due.Nothing is sound in
      let next = next_exists c.graph task at act.Publishes stands (λ e. cc) in
      let fits = fits_there c sound seat task at (at + 1) due.Nothing due.Nothing is (ap (may_owe due.Nothing) next.1) in
      let shapes = shapes_seat c.graph c.ring c.dep c.published c.left c.turn c.home c.abort c.views seat new fits sound.shapes in
      let views = slice_set c.views seat new in
      sound_of (record c { published = slice_set c.published task 1; home = marked c.home (writes_of c.graph task) true }) views sound.graph (record {
        ring = ring_framed c.graph c.tail c.ring c.dep c.views views dues sound.ring;
        dependencies = dependencies_framed c.graph c.published (slice_set c.published task 1) c.views views same_behind c.dep sound.dependencies;
        uses = uses_framed c.graph c.published (slice_set c.published task 1) c.views views same_behind c.left sound.uses;
        slots = slots_framed c.graph c.left c.turn (marked c.home (writes_of c.graph task) true) (is_unwritten c.graph (slice_set c.published task 1)) c.views views dues
            (record { unused = sound.slots.unused; stands = λ slot within. slot_stands slot within (cases_Bool (writes c.graph task slot)) (sound.slots.stands slot within) });
        done = done_framed c.graph c.published (slice_set c.published task 1) c.views views same_behind c.done sound.done;
      }) (record {
        shapes = shapes_as c (record c { published = slice_set c.published task 1; home = marked c.home (writes_of c.graph task) true }) views refl refl (length-set c.published task 1) refl refl (length_marked (writes_of c.graph task) c.home true)
            (All-set (λ word. word ≤ 1) c.published task 1 (omega arith) shapes.published_words) shapes.turn_words shapes.abort_word shapes;
        tickets = fewer_tickets c.graph c.head (holders c.views) (holders views) (λ p. omega (arith, tickets p)) sound.tickets;
        running = record {
          drawn = λ t lt some. let was = sound.running.drawn t lt (drawn_before t (cases_eq t task) some) in (was.0, was.1, was.2, tickets was.0 ∙ was.3);
          apart = λ t. omega (arith, runners' t, sound.running.apart t);
          told = λ t some. told t (cases_eq t task) some;
        };
        head = head_stays c views gone seats (length-set c.views seat new) sound;
        nothing_lost = record {
          aborted = subst (λ (n : ℕ). (c.abort ≡ 1) ↔ (1 ≤ n)) (sym halted) sound.nothing_lost.aborted;
          ended = λ some. sound.nothing_lost.ended (omega (arith, gone));
          begun = λ p lt room. begun_still (slice_index c.ring p) c.abort c.published (slice_set c.published task 1) (holders c.views p) (holders views p) (runners c.views) (runners views)
              (λ some. omega (arith, tickets p)) (λ t there some. omega (arith, runners' t, word_grows t)) (sound.nothing_lost.begun p lt room);
        };
      })
