-- A seat that lowers how often a slot is used leaves a sound state.
use Rattle.std.proofs.Common.{◌≡◌, ◌∙◌, ◌≢◌, ◌≤◌, ◌<◌, ◌+◌, ◌-◌, ℕ, true, false, cond, not, Some, ◌⊎◌, inl, inr, List, [], ap, sym, refl, subst, arith, length-set, get_or-set_same, get_or-set_other}
use Rattle.std.specs.Prelude.{◌==◌, ◌&&◌, ◌||◌, slice_get, slice_set, slice_index, slice_index_or}
use Rattle.std.specs.List.{count_by}
use Rattle.std.proofs.lemmas.Bool.{cases_eq, eq-eqb, ne_eqb, and_from, and_left, and_right, or_cases, or_left}
use Rattle.std.proofs.lemmas.List.Elements.{All-get_or}
use Rattle.graph_types.specs.declared.graph.Graph.{Graph}
use Rattle.graph_types.specs.Counting.{count_one, has_all}
use Rattle.graph_types.specs.Graph.{tasks_of, reads_of, writes_of, reads, writes, is_kept, IsSlotList, IsValid}
use Rattle.sched_core.specs.declared.act.Act.TheVariants as act
use Rattle.sched_core.specs.declared.view.Due.{Due}
use Rattle.sched_core.specs.declared.view.Due.TheVariants as due
use Rattle.sched_core.specs.declared.view.View.{View}
use Rattle.sched_core.specs.declared.view.View.TheVariants as view
use Rattle.sched_core.specs.declared.state.Core.{Core}
use Rattle.sched_core.specs.Core.{script, number_at, is_behind, is_scrub, is_put_at, is_in_hand, is_anything, closes, lowers_use, lowers_successor}
use Rattle.sched_core.specs.Sound.{Dependencies, SlotStands, Unwritten, Free, Held, Last, Scrubbed, IsSound, is_unwritten}
use Rattle.sched_core.proofs.Lists.{number, number_true, number_false}
use Rattle.sched_core.proofs.Seats.{IsSeat}
use Rattle.sched_core.proofs.Frames.{along2, ring_alike, seats_as, sound_of}
use Rattle.sched_core.proofs.Scripts.{body_uses, in_body}
use Rattle.sched_core.proofs.Facts.{runs_task, zero_or_more}
use Rattle.sched_core.proofs.Once.{use_once}
use Rattle.sched_core.proofs.Moving.{runners_stay}
use Rattle.sched_core.proofs.Lowering.{HasLowered, count_lowered, alike, as_many, one_less, owed_now, owed_else, closing_kept, seats_kept, done_kept}
use Rattle.sched_core.proofs.SoundClosers.{closer_waits}

module _ (g : Graph) (valid : IsValid g) (task at slot : ℕ) (lt : task < g.tasks) (stands : slice_get (script g task) at ≡ Some (act.LowersUse slot)) where
  -- a task lowers the uses of what it reads or writes
  used : (reads g task slot || writes g task slot) ≡ true
  used = sym (body_uses g task slot) ∙ in_body g task at (lowers_use slot) (act.LowersUse slot) stands (eq-eqb slot slot refl) refl

  used_below : slot < g.slots
  used_below = by_part (or_cases (reads g task slot) (writes g task slot) used) where
    by_part : (reads g task slot ≡ true) ⊎ (writes g task slot ≡ true) → slot < g.slots
    by_part (inl read) = has_all (λ s. s < g.slots) (reads_of g task) (All-get_or (IsSlotList g.slots) g.reads task [] (omega (arith, lt, valid.lengths.reads)) valid.reads).below slot read
    by_part (inr written) = has_all (λ s. s < g.slots) (writes_of g task) (All-get_or (IsSlotList g.slots) g.writes task [] (omega (arith, lt, valid.lengths.writes)) valid.writes).below slot written

module _ (c : Core) (seat task at slot at' : ℕ) (owed' : Due) (is : IsSeat c.views seat (view.Running task at due.Nothing)) (stands : slice_get (script c.graph task) at ≡ Some (act.LowersUse slot)) (sound : IsSound c)
    (lowered : HasLowered c.graph task at (act.LowersUse slot) due.Scrub (slice_index c.left slot) at' owed') where
  abbrev views : List View
  views = slice_set c.views seat (view.Running task at' owed')

  abbrev left : List ℕ
  left = slice_set c.left slot (slice_index c.left slot - 1)

  below : task < c.graph.tasks
  below = runs_task c sound seat task at due.Nothing is

  within : slot < c.graph.slots
  within = used_below c.graph sound.graph task at slot below stands

  less : slice_index c.left slot ≡ (count_by (λ t. (reads c.graph t slot || writes c.graph t slot) && not (is_behind c.graph c.published views (lowers_use slot) t)) (tasks_of c.graph) + cond (is_kept c.graph slot) 1 0) + 1
  less =
      let counts = one_less c seat task at (act.LowersUse slot) due.Scrub (slice_index c.left slot) at' owed' is stands sound lowered (lowers_use slot) (eq-eqb slot slot refl) (use_once c.graph sound.graph task slot below)
      (λ t. reads c.graph t slot || writes c.graph t slot) (used c.graph sound.graph task at slot below stands) in
      omega (arith, sound.uses.counts slot within, counts)

  uses_now : (s : ℕ) → s < c.graph.slots →
      slice_index left s ≡ count_by (λ t. (reads c.graph t s || writes c.graph t s) && not (is_behind c.graph c.published views (lowers_use s) t)) (tasks_of c.graph) + cond (is_kept c.graph s) 1 0
  uses_now s lt =
      count_lowered c.left slot (λ u. count_by (λ t. (reads c.graph t u || writes c.graph t u) && not (is_behind c.graph c.published views (lowers_use u) t)) (tasks_of c.graph) + cond (is_kept c.graph u) 1 0)
      (omega (arith, sound.shapes.left_length, within)) less s
      (λ other. sound.uses.counts s lt ∙ ap (λ (n : ℕ). n + cond (is_kept c.graph s) 1 0)
      (as_many c seat task at (act.LowersUse slot) due.Scrub (slice_index c.left slot) at' owed' is stands sound lowered (lowers_use s) (ne_eqb slot s (λ same. other (sym same))) (λ t. reads c.graph t s || writes c.graph t s)))

  left_now : slice_index left slot ≡ slice_index c.left slot - 1
  left_now = get_or-set_same c.left slot (slice_index c.left slot - 1) 0 (omega (arith, sound.shapes.left_length, within))

  left_else : (s : ℕ) → s ≢ slot → slice_index left s ≡ slice_index c.left s
  left_else s other = get_or-set_other c.left slot s (slice_index c.left slot - 1) 0 other

  -- the seat scrubs the slot where the count was 1, and nobody did before
  scrubs : (s : ℕ) → number_at c.graph views is_scrub (lowers_use s) ≡ number_at c.graph c.views is_scrub (lowers_use s) + number ((slice_index c.left slot == 1) && (slot == s))
  scrubs s = owed_now c seat task at (act.LowersUse slot) due.Scrub (slice_index c.left slot) at' owed' is stands sound lowered is_scrub refl refl (lowers_use s)

  scrubs_else : (s : ℕ) → s ≢ slot → number_at c.graph views is_scrub (lowers_use s) ≡ number_at c.graph c.views is_scrub (lowers_use s)
  scrubs_else s other = omega (arith, scrubs s, number_false ((slice_index c.left slot == 1) && (slot == s)) (and_right _ _ (ne_eqb slot s (λ same. other (sym same)))))

  none_scrubbing : number_at c.graph c.views is_scrub (lowers_use slot) ≡ 0
  none_scrubbing = by_number (zero_or_more (number_at c.graph c.views is_scrub (lowers_use slot))) where
    by_number : (number_at c.graph c.views is_scrub (lowers_use slot) ≡ 0) ⊎ (1 ≤ number_at c.graph c.views is_scrub (lowers_use slot)) → number_at c.graph c.views is_scrub (lowers_use slot) ≡ 0
    by_number (inl none) = none
    by_number (inr some) = absurd (omega (arith, sound.slots.unused slot some, less))

  scrubs_last : slice_index c.left slot ≡ 1 → number_at c.graph views is_scrub (lowers_use slot) ≡ 1
  scrubs_last last = omega (arith, scrubs slot, none_scrubbing, number_true ((slice_index c.left slot == 1) && (slot == slot)) (and_from _ _ (eq-eqb _ _ last) (eq-eqb slot slot refl)))

  scrubs_more : (slice_index c.left slot ≡ 1 → ⊥) → number_at c.graph views is_scrub (lowers_use slot) ≡ 0
  scrubs_more more = omega (arith, scrubs slot, none_scrubbing, number_false ((slice_index c.left slot == 1) && (slot == slot)) (and_left _ _ (ne_eqb _ _ more)))

  closing_same : (s : ℕ) → number_at c.graph views is_anything (closes s) ≡ number_at c.graph c.views is_anything (closes s)
  closing_same s = sym (closing_kept c seat task at (act.LowersUse slot) due.Scrub (slice_index c.left slot) at' owed' is stands sound lowered (λ t. refl) s)

  unused : (s : ℕ) → (s ≡ slot) ⊎ (s ≡ slot → ⊥) → 1 ≤ number_at c.graph views is_scrub (lowers_use s) → slice_index left s ≡ 0
  unused s (inl same) some = subst (λ (u : ℕ). 1 ≤ number_at c.graph views is_scrub (lowers_use u) → slice_index left u ≡ 0) (sym same) (by_count (cases_eq (slice_index c.left slot) 1)) some where
    by_count : (slice_index c.left slot ≡ 1) ⊎ (slice_index c.left slot ≡ 1 → ⊥) → 1 ≤ number_at c.graph views is_scrub (lowers_use slot) → slice_index left slot ≡ 0
    by_count (inl last) due_now = omega (arith, left_now, last)
    by_count (inr more) due_now = absurd (omega (arith, scrubs_more more, due_now))
  unused s (inr other) some = left_else s other ∙ sound.slots.unused s (omega (arith, scrubs_else s other, some))

  -- who has the turn of the slot has a use of it left
  still_used : 1 ≤ number_at c.graph c.views is_anything (closes slot) → 1 ≤ slice_index left slot
  still_used some =
      let closer = closer_waits c.graph sound.graph.lengths.reads c.published views (λ t. omega (arith, runners_stay c seat task at at' due.Nothing owed' is sound t, sound.running.apart t)) slot (omega (arith, closing_same slot, some)) in
      let counts = count_one (λ t. (reads c.graph t slot || writes c.graph t slot) && not (is_behind c.graph c.published views (lowers_use slot) t)) c.graph.tasks closer.0 closer.1.is_task
      (and_from _ _ (or_left _ _ closer.1.reads_it) (ap not closer.1.unlowered)) in
      omega (arith, left_now, less, counts)

  own_slot :
      SlotStands (is_unwritten c.graph c.published slot) (slice_index c.left slot) (slice_index c.turn slot) (slice_index_or c.home slot false) (number_at c.graph c.views is_anything (closes slot)) (number_at c.graph c.views is_scrub (lowers_use slot)) →
      SlotStands (is_unwritten c.graph c.published slot) (slice_index left slot) (slice_index c.turn slot) (slice_index_or c.home slot false) (number_at c.graph views is_anything (closes slot)) (number_at c.graph views is_scrub (lowers_use slot))
  own_slot (Unwritten unwritten turn away none) = Unwritten unwritten turn away (closing_same slot ∙ none)
  own_slot (Free written some turn there none) = by_count (cases_eq (slice_index c.left slot) 1) where
    by_count : (slice_index c.left slot ≡ 1) ⊎ (slice_index c.left slot ≡ 1 → ⊥) →
        SlotStands (is_unwritten c.graph c.published slot) (slice_index left slot) (slice_index c.turn slot) (slice_index_or c.home slot false) (number_at c.graph views is_anything (closes slot)) (number_at c.graph views is_scrub (lowers_use slot))
    by_count (inl last) = Last written (omega (arith, left_now, last)) turn there (scrubs_last last) (closing_same slot ∙ none)
    by_count (inr more) = Free written (omega (arith, left_now, less, more)) turn there (closing_same slot ∙ none)
  own_slot (Held written some turn away one) = Held written (still_used (omega (arith, one))) turn away (closing_same slot ∙ one)
  own_slot (Last written none turn there one away) = absurd (omega (arith, less, none))
  own_slot (Scrubbed written none turn away scrubbing closing) = absurd (omega (arith, less, none))

  slot_stands : (s : ℕ) → s < c.graph.slots → (s ≡ slot) ⊎ (s ≡ slot → ⊥) →
      SlotStands (is_unwritten c.graph c.published s) (slice_index left s) (slice_index c.turn s) (slice_index_or c.home s false) (number_at c.graph views is_anything (closes s)) (number_at c.graph views is_scrub (lowers_use s))
  slot_stands s lt (inl same) =
      subst (λ (u : ℕ). SlotStands (is_unwritten c.graph c.published u) (slice_index left u) (slice_index c.turn u) (slice_index_or c.home u false) (number_at c.graph views is_anything (closes u)) (number_at c.graph views is_scrub (lowers_use u))) (sym same)
      (own_slot (sound.slots.stands slot within))
  slot_stands s lt (inr other) =
      subst (λ (n : ℕ). SlotStands (is_unwritten c.graph c.published s) (slice_index left s) (slice_index c.turn s) (slice_index_or c.home s false) (number_at c.graph views is_anything (closes s)) n) (sym (scrubs_else s other))
      (subst (λ (n : ℕ). SlotStands (is_unwritten c.graph c.published s) (slice_index left s) (slice_index c.turn s) (slice_index_or c.home s false) n (number_at c.graph c.views is_scrub (lowers_use s))) (sym (closing_same s))
      (subst (λ (n : ℕ). SlotStands (is_unwritten c.graph c.published s) n (slice_index c.turn s) (slice_index_or c.home s false) (number_at c.graph c.views is_anything (closes s)) (number_at c.graph c.views is_scrub (lowers_use s))) (sym (left_else s other))
      (sound.slots.stands s lt)))

  pub lower_use_sound : IsSound (record c { left = slice_set c.left slot (slice_index c.left slot - 1); views = slice_set c.views seat (view.Running task at' owed') })
  lower_use_sound = sound_of (record c { left = left }) views sound.graph (record {
    ring = ring_alike c.graph c.tail c.ring c.dep c.views views
        (λ p. owed_else c seat task at (act.LowersUse slot) due.Scrub (slice_index c.left slot) at' owed' is stands sound lowered (is_put_at p) refl refl)
        (λ t. owed_else c seat task at (act.LowersUse slot) due.Scrub (slice_index c.left slot) at' owed' is stands sound lowered is_in_hand refl refl (lowers_successor t)) sound.ring;
    dependencies = along2 (λ f. Dependencies c.graph c.dep f) (λ t s. is_behind c.graph c.published c.views (lowers_successor s) t) (λ t s. is_behind c.graph c.published views (lowers_successor s) t)
        (λ t s. alike c seat task at (act.LowersUse slot) due.Scrub (slice_index c.left slot) at' owed' is stands sound lowered (lowers_successor s) refl t) sound.dependencies;
    uses = record { counts = uses_now };
    slots = record {
      unused = λ s some. unused s (cases_eq s slot) some;
      stands = λ s lt. slot_stands s lt (cases_eq s slot);
    };
    done = done_kept c seat task at (act.LowersUse slot) due.Scrub (slice_index c.left slot) at' owed' is stands sound lowered;
  }) (seats_as c c.tail c.dep left c.turn c.home views refl (length-set c.left slot (slice_index c.left slot - 1)) refl refl sound.shapes.turn_words
      (seats_kept c seat task at (act.LowersUse slot) due.Scrub (slice_index c.left slot) at' owed' is stands sound lowered refl))
