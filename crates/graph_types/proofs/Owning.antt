-- The table of writers, task by task, and who follows whom by it.
use Rattle.std.proofs.Common.{◌≡◌, ◌∙◌, ◌≢◌, ◌⊎◌, inl, inr, ℕ, ◌+◌, ◌<◌, ◌≤◌, Bool, true, false, cond, List, [], length, get_or, ap, sym, arith}
use Rattle.std.specs.Prelude.{◌==◌, replicate}
use Rattle.std.specs.List.{list_any}
use Rattle.std.proofs.Math.Nat.{eq-or-lt_of_le}
use Rattle.std.proofs.lemmas.Bool.{cases_Bool, eq-eqb, false_from_ne_true, ne_eqb}
use Rattle.std.proofs.lemmas.List.{get_or-replicate, length-replicate}
use Rattle.graph_types.specs.declared.graph.Graph.{Graph}
use Rattle.graph_types.specs.Counting.{any_alike, has_swap}
use Rattle.graph_types.specs.Facts.{only_one}
use Rattle.graph_types.specs.Linked.{IsLinkable}
use Rattle.graph_types.specs.Graph.{follows, has, reads_of, writes, writes_of}
use Rattle.graph_types.specs.Parts.{AreLeaders, AreNoted, AreOwners}
use Rattle.graph_types.proofs.Writing.{IsOwned}

-- the table has the writers among the tasks before one, and else no task
pub record AreOwnersBefore (g : Graph) (before : ℕ) (owners : List ℕ) : Type 0 where
  pub size : length owners ≡ g.slots
  pub at : (task slot : ℕ) → task < before → slot < g.slots → writes g task slot ≡ (get_or owners slot 0 == task)
  pub others : (slot : ℕ) → slot < g.slots → (get_or owners slot 0 < before) ⊎ (get_or owners slot 0 ≡ g.tasks)

pub owners_none : (g : Graph) → AreOwnersBefore g 0 (replicate g.slots g.tasks)
owners_none g = record {
  size = length-replicate g.slots g.tasks;
  at = λ task slot early there. absurd (omega arith);
  others = λ slot there. inr (get_or-replicate g.slots slot g.tasks 0 there);
}

pub owners_all : (g : Graph) (owners : List ℕ) → AreOwnersBefore g g.tasks owners → AreOwners g owners
owners_all g owners all = record { size = all.size; at = all.at }

module _ (g : Graph) (linkable : IsLinkable g) (before : ℕ) (room : before < g.tasks) (old now : List ℕ) (size : length now ≡ length old) (done : AreOwnersBefore g before old)
    (put : IsOwned old now (writes_of g before) before) where
  put_there : (slot : ℕ) → slot < g.slots → writes g before slot ≡ true → get_or now slot 0 ≡ before
  put_there slot there owned = put slot (omega (arith, done.size)) ∙ ap (λ (b : Bool). cond b before (get_or old slot 0)) owned

  put_not : (slot : ℕ) → slot < g.slots → writes g before slot ≡ false → get_or now slot 0 ≡ get_or old slot 0
  put_not slot there free = put slot (omega (arith, done.size)) ∙ ap (λ (b : Bool). cond b before (get_or old slot 0)) free

  -- no earlier task writes what this one writes
  at_owned : (task slot : ℕ) → slot < g.slots → writes g before slot ≡ true → (task ≡ before) ⊎ (task < before) → writes g task slot ≡ (get_or now slot 0 == task)
  at_owned task slot there owned (inl here) =
      ap (λ (t : ℕ). writes g t slot) here ∙ owned ∙ sym (eq-eqb (get_or now slot 0) task (put_there slot there owned ∙ sym here))
  at_owned task slot there owned (inr less) =
      let other : get_or now slot 0 ≢ task = omega (arith, put_there slot there owned) in
      false_from_ne_true (writes g task slot) (λ also. absurd (omega (arith, only_one g slot (linkable.once slot there) task before (omega arith) room also owned)))
      ∙ sym (ne_eqb (get_or now slot 0) task other)

  not_this : (slot : ℕ) → (get_or old slot 0 < before) ⊎ (get_or old slot 0 ≡ g.tasks) → get_or old slot 0 ≢ before
  not_this slot (inl less) = omega arith
  not_this slot (inr none) = omega arith

  at_free : (task slot : ℕ) → slot < g.slots → writes g before slot ≡ false → (task ≡ before) ⊎ (task < before) → writes g task slot ≡ (get_or now slot 0 == task)
  at_free task slot there free (inl here) =
      let other : get_or now slot 0 ≢ task = omega (arith, put_not slot there free, not_this slot (done.others slot there)) in
      ap (λ (t : ℕ). writes g t slot) here ∙ free ∙ sym (ne_eqb (get_or now slot 0) task other)
  at_free task slot there free (inr less) = done.at task slot less there ∙ ap (λ (t : ℕ). t == task) (sym (put_not slot there free))

  others_then : (slot : ℕ) → slot < g.slots → (get_or old slot 0 < before) ⊎ (get_or old slot 0 ≡ g.tasks) → (writes g before slot ≡ true) ⊎ (writes g before slot ≡ false) →
      (get_or now slot 0 < before + 1) ⊎ (get_or now slot 0 ≡ g.tasks)
  others_then slot there was (inl owned) = inl (omega (arith, put_there slot there owned))
  others_then slot there (inl less) (inr free) = inl (omega (arith, put_not slot there free))
  others_then slot there (inr none) (inr free) = inr (put_not slot there free ∙ none)

  at_either : (task slot : ℕ) → slot < g.slots → (task ≡ before) ⊎ (task < before) → (writes g before slot ≡ true) ⊎ (writes g before slot ≡ false) →
      writes g task slot ≡ (get_or now slot 0 == task)
  at_either task slot there when (inl owned) = at_owned task slot there owned when
  at_either task slot there when (inr free) = at_free task slot there free when

  pub owners_more : AreOwnersBefore g (before + 1) now
  owners_more = record {
    size = size ∙ done.size;
    at = λ task slot early there. at_either task slot there (eq-or-lt_of_le (let le : task ≤ before = omega arith in le)) (cases_Bool (writes g before slot));
    others = λ slot there. others_then slot there (done.others slot there) (cases_Bool (writes g before slot));
  }

-- a task follows the owners of the slots that it reads
pub follows_by_owners : (g : Graph) → IsLinkable g → (owners : List ℕ) → AreOwners g owners → (first second : ℕ) → first < g.tasks → second < g.tasks →
    follows g first second ≡ list_any (λ slot. get_or owners slot 0 == first) (reads_of g second)
follows_by_owners g linkable owners owned first second here there =
    let slots = (linkable.reads second [] (omega (arith, linkable.reads_count))).below in
    has_swap (reads_of g second) (writes_of g first)
    ∙ any_alike (has (writes_of g first)) (λ slot. get_or owners slot 0 == first) (reads_of g second) (λ k d below. owned.at first (get_or (reads_of g second) k d) here (slots k d below))

-- what is found by the owners of what a task reads
pub leaders_from : (g : Graph) → IsLinkable g → (owners : List ℕ) → AreOwners g owners → (task : ℕ) → task < g.tasks → (seen : List ℕ) (mark : ℕ) (found slots : List ℕ) →
    AreNoted seen mark found → length seen ≡ g.tasks → slots ≡ reads_of g task →
    ((first : ℕ) → first < g.tasks → has found first ≡ list_any (λ slot. get_or owners slot 0 == first) slots) → AreLeaders g task found
leaders_from g linkable owners owned task there seen mark found slots noted size same are = record {
  once = noted.once;
  within = λ k d below. (let less : get_or found k d < length seen = noted.within k d below in omega (arith, size));
  are = λ first here.
      are first here
      ∙ ap (λ (ss : List ℕ). list_any (λ slot. get_or owners slot 0 == first) ss) same
      ∙ sym (follows_by_owners g linkable owners owned first task here there);
}
