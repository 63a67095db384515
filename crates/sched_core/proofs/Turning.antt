-- A seat that gives a slot another turn and goes on: all but this slot stands as it did.
use Rattle.std.proofs.Common.{◌≡◌, ◌≢◌, ◌≤◌, ◌<◌, ◌+◌, ℕ, Bool, false, Some, ◌⊎◌, inl, inr, List, take, ap, sym, refl, subst, arith, length-set, get_or-set_other}
use Rattle.std.specs.Prelude.{slice_get, slice_set, slice_index, slice_index_or}
use Rattle.std.specs.List.{list_any}
use Rattle.std.proofs.lemmas.Bool.{cases_eq}
use Rattle.std.proofs.lemmas.List.Elements.{All-set}
use Rattle.sched_core.specs.declared.act.Act.{Act}
use Rattle.sched_core.specs.declared.act.Act.TheVariants as act
use Rattle.sched_core.specs.declared.view.Due.{Due}
use Rattle.sched_core.specs.declared.view.Due.TheVariants as due
use Rattle.sched_core.specs.declared.view.View.{View}
use Rattle.sched_core.specs.declared.view.View.TheVariants as view
use Rattle.sched_core.specs.declared.state.Core.{Core}
use Rattle.sched_core.specs.Core.{script, places_behind, number_at, is_scrub, is_put_at, is_in_hand, is_anything, closes, publishes, lowers_use, lowers_successor}
use Rattle.sched_core.specs.Sound.{SlotStands, IsSound, is_unwritten, may_owe}
use Rattle.sched_core.proofs.Seats.{IsSeat}
use Rattle.sched_core.proofs.Frames.{SameBehind, ring_alike, dependencies_framed, uses_framed, done_framed, IsSeatSound, seats_as, sound_of}
use Rattle.sched_core.proofs.Progress.{next_exists}
use Rattle.sched_core.proofs.Moving.{number_kept, kept_behind, undue}
use Rattle.sched_core.proofs.Going.{goes_on}

-- how a slot stands, by the turns, the marks and the views
abbrev pub Stands : Core → (turn : List ℕ) (home : List Bool) → List View → (slot : ℕ) → Type 0
Stands c turn home views s =
    SlotStands (is_unwritten c.graph c.published s) (slice_index c.left s) (slice_index turn s) (slice_index_or home s false)
    (number_at c.graph views is_anything (closes s)) (number_at c.graph views is_scrub (lowers_use s))

-- It stood at a place with nothing due but perhaps the slot to scrub, and lowers nothing between the two places.
module _ (c : Core) (seat task at slot word : ℕ) (mark : Bool) (owed : Due) (does : Act)
    (is : IsSeat c.views seat (view.Running task at owed)) (stands : slice_get (script c.graph task) at ≡ Some does) (ends_not : does ≢ act.Finishes) (sound : IsSound c)
    (small : word ≤ 2) (no_put : (place : ℕ) → is_put_at place owed ≡ false) (no_hand : is_in_hand owed ≡ false)
    (no_use : (s : ℕ) → list_any (lowers_use s) (take (places_behind at owed) (script c.graph task)) ≡ list_any (lowers_use s) (take (at + 1) (script c.graph task)))
    (no_successor : (t : ℕ) → list_any (lowers_successor t) (take (places_behind at owed) (script c.graph task)) ≡ list_any (lowers_successor t) (take (at + 1) (script c.graph task)))
    (no_publish : list_any publishes (take (places_behind at owed) (script c.graph task)) ≡ list_any publishes (take (at + 1) (script c.graph task)))
    (closing : (s : ℕ) → s ≢ slot → number_at c.graph (slice_set c.views seat (view.Running task (at + 1) due.Nothing)) is_anything (closes s) ≡ number_at c.graph c.views is_anything (closes s))
    (scrubbing : (s : ℕ) → s ≢ slot → number_at c.graph (slice_set c.views seat (view.Running task (at + 1) due.Nothing)) is_scrub (lowers_use s) ≡ number_at c.graph c.views is_scrub (lowers_use s))
    (fewer : number_at c.graph (slice_set c.views seat (view.Running task (at + 1) due.Nothing)) is_scrub (lowers_use slot) ≤ number_at c.graph c.views is_scrub (lowers_use slot))
    (own : slot < c.graph.slots → Stands c c.turn c.home c.views slot → Stands c (slice_set c.turn slot word) (slice_set c.home slot mark) (slice_set c.views seat (view.Running task (at + 1) due.Nothing)) slot) where
  abbrev views : List View
  views = slice_set c.views seat (view.Running task (at + 1) due.Nothing)

  same_behind : SameBehind c.graph c.published c.published c.views views
  same_behind = kept_behind c seat task at (at + 1) owed due.Nothing is sound c.published (λ t other. refl) no_use no_successor

  seats : IsSeatSound c views
  seats = goes_on c seat task at (at + 1) owed due.Nothing is sound (ap (may_owe due.Nothing) (next_exists c.graph task at does stands ends_not).1) (number_kept c seat task at (at + 1) owed due.Nothing is sound publishes no_publish)

  other_slot : (s : ℕ) → s ≢ slot → Stands c c.turn c.home c.views s → Stands c (slice_set c.turn slot word) (slice_set c.home slot mark) views s
  other_slot s other h =
      subst (λ (n : ℕ). SlotStands (is_unwritten c.graph c.published s) (slice_index c.left s) (slice_index (slice_set c.turn slot word) s) (slice_index_or (slice_set c.home slot mark) s false) (number_at c.graph views is_anything (closes s)) n) (sym (scrubbing s other))
      (subst (λ (n : ℕ). SlotStands (is_unwritten c.graph c.published s) (slice_index c.left s) (slice_index (slice_set c.turn slot word) s) (slice_index_or (slice_set c.home slot mark) s false) n (number_at c.graph c.views is_scrub (lowers_use s))) (sym (closing s other))
      (subst (λ (b : Bool). SlotStands (is_unwritten c.graph c.published s) (slice_index c.left s) (slice_index (slice_set c.turn slot word) s) b (number_at c.graph c.views is_anything (closes s)) (number_at c.graph c.views is_scrub (lowers_use s))) (sym (get_or-set_other c.home slot s mark false other))
      (subst (λ (n : ℕ). SlotStands (is_unwritten c.graph c.published s) (slice_index c.left s) n (slice_index_or c.home s false) (number_at c.graph c.views is_anything (closes s)) (number_at c.graph c.views is_scrub (lowers_use s))) (sym (get_or-set_other c.turn slot s word 0 other)) h)))

  slot_stands : (s : ℕ) → s < c.graph.slots → (s ≡ slot) ⊎ (s ≡ slot → ⊥) → Stands c (slice_set c.turn slot word) (slice_set c.home slot mark) views s
  slot_stands s within (inl e) = subst (Stands c (slice_set c.turn slot word) (slice_set c.home slot mark) views) (sym e) (own (omega arith) (sound.slots.stands slot (omega arith)))
  slot_stands s within (inr other) = other_slot s other (sound.slots.stands s within)

  scrub_less : (s : ℕ) → (s ≡ slot) ⊎ (s ≡ slot → ⊥) → number_at c.graph views is_scrub (lowers_use s) ≤ number_at c.graph c.views is_scrub (lowers_use s)
  scrub_less s (inl e) = subst (λ (u : ℕ). number_at c.graph views is_scrub (lowers_use u) ≤ number_at c.graph c.views is_scrub (lowers_use u)) (sym e) fewer
  scrub_less s (inr other) = omega (arith, scrubbing s other)

  pub turned_sound : IsSound (record c { turn = slice_set c.turn slot word; home = slice_set c.home slot mark; views = slice_set c.views seat (view.Running task (at + 1) due.Nothing) })
  turned_sound = sound_of (record c { turn = slice_set c.turn slot word; home = slice_set c.home slot mark }) views sound.graph (record {
    ring = ring_alike c.graph c.tail c.ring c.dep c.views views (λ p. undue c seat task at (at + 1) owed due.Nothing is sound (is_put_at p) (no_put p) refl) (λ t. undue c seat task at (at + 1) owed due.Nothing is sound is_in_hand no_hand refl (lowers_successor t)) sound.ring;
    dependencies = dependencies_framed c.graph c.published c.published c.views views same_behind c.dep sound.dependencies;
    uses = uses_framed c.graph c.published c.published c.views views same_behind c.left sound.uses;
    slots = record {
      unused = λ s some. sound.slots.unused s (omega (arith, scrub_less s (cases_eq s slot)));
      stands = λ s within. slot_stands s within (cases_eq s slot);
    };
    done = done_framed c.graph c.published c.published c.views views same_behind c.done sound.done;
  }) (seats_as c c.tail c.dep c.left (slice_set c.turn slot word) (slice_set c.home slot mark) views refl refl (length-set c.turn slot word) (length-set c.home slot mark) (All-set (λ w. w ≤ 2) c.turn slot word small seats.shapes.turn_words) seats)
