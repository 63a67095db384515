-- Which slots are filled before a task, and after it.
use Rattle.std.proofs.Common.{◌≡◌, ◌∙◌, inl, inr, ℕ, ℤ, zero, suc, ◌+◌, ◌<◌, ◌≤◌, true, List, [], ◌∷◌, length, Option, Some, refl, subst, sym, arith}
use Rattle.std.specs.Prelude.{slice_get}
use Rattle.std.proofs.Math.Nat.{eq-or-lt_of_le}
use Rattle.std.proofs.lemmas.Bool.{cases_Bool, cases_lt}
use Rattle.std.proofs.lemmas.Option.{slice_get_within, slice_get_read, get_or_from_slice_get}
use Rattle.uts_geom.specs.Counting.{counted-at, length-counted}
use Rattle.uts_geom.specs.Spans.{counted}
use Rattle.graph_types.specs.declared.graph.Graph.{Graph}
use Rattle.graph_types.specs.Counting.{has_all, has_at, has_from}
use Rattle.graph_types.specs.Facts.{reader_follows, some_writer}
use Rattle.graph_types.specs.Graph.{IsSlotList, IsValid, reads, reads_of, writes, writes_of}
use Rattle.unified_scheduler.specs.Fitting.{AreFitting}
use Rattle.serial_step.specs.Filled.{IsFilled, AreAllFitting, AreFilledBefore}
use Rattle.serial_step.specs.Put.{ArePut}

-- what stands at a place within a list
found_at : {V : Type 0} (xs : List V) (k : ℕ) → k < length xs → (x : V) × (slice_get xs k ≡ Some x)
found_at [] k below = absurd (omega arith)
found_at (x ∷ xs) zero below = (x, refl)
found_at (x ∷ xs) (suc k) below = found_at xs k (omega arith)

pub reads_list : (g : Graph) → IsValid g → (task : ℕ) → task < g.tasks → IsSlotList g.slots (reads_of g task)
reads_list g valid task there = valid.reads task [] (omega (arith, valid.lengths.reads))

pub writes_list : (g : Graph) → IsValid g → (task : ℕ) → task < g.tasks → IsSlotList g.slots (writes_of g task)
writes_list g valid task there = valid.writes task [] (omega (arith, valid.lengths.writes))

module _ {V : Type 0} (fits : List ℤ → V → Type 0) (content : List (List ℤ)) (g : Graph) where
  -- what a task reads is filled before it
  read_filled : IsValid g → (task slot : ℕ) (places : List (Option V)) → task < g.tasks → AreFilledBefore fits content g task places
      → reads g task slot ≡ true → IsFilled fits content places slot
  read_filled valid task slot places here filled is_read =
      let there : slot < g.slots = has_all (λ s. s < g.slots) (reads_of g task) (reads_list g valid task here).below slot is_read in
      elim (cases_lt slot g.old) [
        | inl old ↦ filled.old slot old
        | inr new ↦
            let writer = some_writer g valid.slots slot new there in
            filled.written writer.0 slot (valid.order.forward writer.0 task writer.1 here (reader_follows g writer.0 task slot writer.2 is_read)) writer.2
      ]

  pub all_reads_filled : IsValid g → (task : ℕ) (places : List (Option V)) → task < g.tasks → AreFilledBefore fits content g task places
      → (k slot : ℕ) → slice_get (reads_of g task) k ≡ Some slot → IsFilled fits content places slot
  all_reads_filled valid task places here filled k slot at =
      let below : k < length (reads_of g task) = slice_get_within (reads_of g task) k slot at in
      read_filled valid task slot places here filled (has_from (reads_of g task) k slot below (get_or_from_slice_get (reads_of g task) k slot 0 at))

  -- what a task writes is filled after it, and what was filled stays so
  module _ (task : ℕ) (values : List V) (before after : List (Option V)) (fitting : AreFitting fits content (writes_of g task) values)
      (put : ArePut (writes_of g task) values before after) where
    write_filled : (slot : ℕ) → writes g task slot ≡ true → IsFilled fits content after slot
    write_filled slot is_written =
        let at = has_at (writes_of g task) slot is_written in
        let stands : slice_get (writes_of g task) at.0 ≡ Some slot = slice_get_read (writes_of g task) (length (writes_of g task)) at.0 slot refl at.1 (sym at.2) in
        let found = found_at values at.0 (omega (arith, fitting.many, at.1)) in
        record { value = found.0; there = put.put at.0 slot found.0 stands found.1; fit = fitting.each at.0 slot found.0 stands found.1 }

    stays_filled : (slot : ℕ) → IsFilled fits content before slot → IsFilled fits content after slot
    stays_filled slot filled = elim (cases_Bool (writes g task slot)) [
      | inl is_written ↦ write_filled slot is_written
      | inr other ↦ record { value = filled.value; there = put.others slot other ∙ filled.there; fit = filled.fit }
    ]

    pub filled_after : AreFilledBefore fits content g task before → AreFilledBefore fits content g (task + 1) after
    filled_after filled = record {
      many = put.many ∙ filled.many;
      old = λ slot old. stays_filled slot (filled.old slot old);
      written = λ first slot earlier is_written.
          elim (eq-or-lt_of_le (let le : first ≤ task = omega arith in le)) [
            | inl same ↦ write_filled slot (subst (λ (t : ℕ). writes g t slot ≡ true) same is_written)
            | inr less ↦ stays_filled slot (filled.written first slot less is_written)
          ];
    }

  -- after all tasks all slots are filled
  pub all_filled : IsValid g → (before : ℕ) (places : List (Option V)) → before ≡ g.tasks → AreFilledBefore fits content g before places
      → AreAllFitting fits content g.slots places
  all_filled valid before places last filled = record {
    many = filled.many;
    each = λ slot there.
        elim (cases_lt slot g.old) [
          | inl old ↦ filled.old slot old
          | inr new ↦ let writer = some_writer g valid.slots slot new there in filled.written writer.0 slot (omega (arith, writer.1, last)) writer.2
        ];
  }

  -- before all tasks the old slots are filled
  pub old_filled : (old : List V) (places : List (Option V)) → AreFitting fits content (counted 0 g.old) old → length places ≡ g.slots
      → ((slot : ℕ) (value : V) → slice_get old slot ≡ Some value → slice_get places slot ≡ Some (Some value)) → AreFilledBefore fits content g 0 places
  old_filled old places fitting many stands = record {
    many = many;
    old = λ slot is_old.
        let found = found_at old slot (omega (arith, fitting.many, length-counted 0 g.old)) in
        record { value = found.0; there = stands slot found.0 found.1; fit = fitting.each slot slot found.0 (counted-at g.old slot is_old) found.1 };
    written = λ task slot none is_written. absurd (omega arith);
  }
