-- Counts of slots, list by list, and the rules of all slots slot by slot.
use Rattle.std.proofs.Common.{◌≡◌, ◌∙◌, ℕ, ◌+◌, ◌<◌, ◌≤◌, Bool, true, false, cond, List, [], length, get_or, take, ap, sym, refl, subst, arith}
use Rattle.std.specs.Prelude.{nat_lt, replicate, slice_index_or}
use Rattle.std.specs.List.{All}
use Rattle.std.proofs.lemmas.Bool.{le-ltb, lt-ltb, ltb-false, ltb-true}
use Rattle.std.proofs.lemmas.List.{get_or-replicate, length-replicate, length-take-le}
use Rattle.std.proofs.lemmas.List.Elements.{All-from_get_or}
use Rattle.std.proofs.lemmas.List.Sums.{count_by-le-length, sum_by_more}
use Rattle.graph_types.specs.declared.graph.Graph.{Graph}
use Rattle.graph_types.specs.Graph.{AreSlotsValid, has, is_kept, readers, writers}
use Rattle.graph_types.specs.Parts.{AreCounts, IsPlaced, IsSlotValid}
use Rattle.graph_types.proofs.Writing.{IsRaised}

pub counts_none : (slots : ℕ) → AreCounts slots [] (replicate slots 0)
counts_none slots = record { size = length-replicate slots 0; at = λ slot below. get_or-replicate slots slot 0 0 below }

module _ (slots : ℕ) (lists : List (List ℕ)) (i : ℕ) (d : List ℕ) (below : i < length lists) where
  pub counts_more : (old now : List ℕ) → length now ≡ length old → AreCounts slots (take i lists) old →
      IsRaised old now (get_or lists i d) → AreCounts slots (take (i + 1) lists) now
  counts_more old now size so_far raised = record {
    size = size ∙ so_far.size;
    at = λ slot there.
        raised slot (omega (arith, so_far.size))
        ∙ ap (λ (n : ℕ). n + cond (has (get_or lists i d) slot) 1 0) (so_far.at slot there)
        ∙ sym (sum_by_more (λ (numbers : List ℕ). cond (has numbers slot) 1 0) lists i d below);
  }

  pub counts_few : (counts : List ℕ) → length lists ≤ 65536 → AreCounts slots (take i lists) counts → All (λ n. n ≤ 65536) counts
  counts_few counts few so_far = All-from_get_or (λ n. n ≤ 65536) counts 0 (λ k there.
      omega (arith, so_far.at k (omega (arith, so_far.size)), count_by-le-length (λ (numbers : List ℕ). has numbers k) (take i lists), length-take-le i lists (omega arith)))

pub slot_of : (g : Graph) → AreSlotsValid g → (slot : ℕ) → slot < g.slots → IsSlotValid g slot
slot_of g valid slot there = record {
  written = λ new. valid.written slot new there;
  unwritten = λ old. valid.unwritten slot old;
  wanted = λ old. valid.wanted slot old;
  let_go = λ old. valid.let_go slot old;
  uses = valid.uses slot there;
}

pub slots_from : (g : Graph) → g.old ≤ g.slots → ((slot : ℕ) → slot < g.slots → IsSlotValid g slot) → AreSlotsValid g
slots_from g among each = record {
  written = λ slot new there. (each slot there).written new;
  unwritten = λ slot old. (each slot (omega arith)).unwritten old;
  wanted = λ slot old. (each slot (omega arith)).wanted old;
  let_go = λ slot old. (each slot (omega arith)).let_go old;
  uses = λ slot there. (each slot there).uses;
}

-- the test on a slot's place is the slot's rules
module _ (g : Graph) (slot : ℕ) where
  abbrev Placed : Bool → Type 0
  Placed old = IsPlaced old (readers g slot) (writers g slot) (is_kept g slot)

  placed_if : (old : Bool) → (old ≡ true → slot < g.old) → (old ≡ false → g.old ≤ slot) → IsSlotValid g slot → Placed old
  placed_if true is_old is_new valid = (valid.unwritten (is_old refl), valid.wanted (is_old refl), valid.let_go (is_old refl))
  placed_if false is_old is_new valid = valid.written (is_new refl)

  pub placed_of : IsSlotValid g slot → Placed (nat_lt slot g.old)
  placed_of valid = placed_if (nat_lt slot g.old) (ltb-true slot g.old) (ltb-false slot g.old) valid

  pub valid_from : Placed (nat_lt slot g.old) → slice_index_or g.uses slot 0 ≡ readers g slot + (writers g slot + cond (is_kept g slot) 1 0) → IsSlotValid g slot
  valid_from placed uses = record {
    written = λ new. subst Placed (le-ltb slot g.old new) placed;
    unwritten = λ old. (subst Placed (lt-ltb slot g.old old) placed).0;
    wanted = λ old. (subst Placed (lt-ltb slot g.old old) placed).1;
    let_go = λ old. (subst Placed (lt-ltb slot g.old old) placed).2;
    uses = uses;
  }

pub placed_as : (old : Bool) (r s w v : ℕ) (k l : Bool) → r ≡ s → w ≡ v → k ≡ l → IsPlaced old r w k → IsPlaced old s v l
placed_as old r s w v k l read written kept placed =
    subst (λ (n : ℕ). IsPlaced old n v l) read (subst (λ (n : ℕ). IsPlaced old r n l) written (subst (λ (b : Bool). IsPlaced old r w b) kept placed))
