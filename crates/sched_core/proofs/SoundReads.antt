-- A task that opens or closes a slot reads it, and has met nothing that stands behind its reads.
use Rattle.std.proofs.Common.{◌≡◌, ◌∙◌, ◌≤◌, ◌+◌, ℕ, zero, suc, Bool, true, false, List, [], ◌∷◌, ◌++◌, take, Some, ap, sym, refl, arith}
use Rattle.std.specs.Prelude.{◌||◌, ◌==◌, slice_get}
use Rattle.std.specs.List.{flat_map, list_any}
use Rattle.std.proofs.Math.Bool.{or-false}
use Rattle.std.proofs.lemmas.Bool.{false≢true, or_parts, or_from}
use Rattle.std.proofs.lemmas.List.Folds.{list_any-append}
use Rattle.graph_types.specs.declared.graph.Graph.{Graph}
use Rattle.graph_types.specs.Graph.{reads_of, reads, has}
use Rattle.sched_core.specs.declared.act.Act.{Act}
use Rattle.sched_core.specs.declared.act.Act.TheVariants.{Opens, Closes, Publishes, Finishes}
use Rattle.sched_core.specs.Core.{reading, lowering, script}
use Rattle.sched_core.proofs.Scripts.{stands_in, none_behind_reads}

-- it opens or closes the slot
abbrev pub touches : (slot : ℕ) → Act → Bool
touches slot (Opens s) = s == slot
touches slot (Closes s) = s == slot
touches slot _ = false

touches_read : (slot : ℕ) (slots : List ℕ) → list_any (touches slot) (flat_map reading slots) ≡ has slots slot
touches_read slot [] = refl
touches_read slot (s ∷ slots) = ap (λ (b : Bool). (s == slot) || ((s == slot) || b)) (touches_read slot slots) ∙ twice (s == slot) (has slots slot) where
  twice : (a b : Bool) → (a || (a || b)) ≡ (a || b)
  twice true b = refl
  twice false b = refl

touches_none : (g : Graph) (task slot : ℕ) → list_any (touches slot) (Publishes ∷ (lowering g task ++ (Finishes ∷ []))) ≡ false
touches_none g task slot = none_behind_reads g task (touches slot) (λ s. refl) (λ t. refl) refl refl

-- what a task opens or closes, it reads
pub touched_read : (g : Graph) (task at slot : ℕ) (act : Act) → slice_get (script g task) at ≡ Some act → touches slot act ≡ true → reads g task slot ≡ true
unfolding script
touched_read g task at slot act h met =
    sym (list_any-append (touches slot) (flat_map reading (reads_of g task)) (Publishes ∷ (lowering g task ++ (Finishes ∷ [])))
    ∙ ap (λ (b : Bool). list_any (touches slot) (flat_map reading (reads_of g task)) || b) (touches_none g task slot)
    ∙ or-false (list_any (touches slot) (flat_map reading (reads_of g task)))
    ∙ touches_read slot (reads_of g task))
    ∙ stands_in (touches slot) (flat_map reading (reads_of g task) ++ (Publishes ∷ (lowering g task ++ (Finishes ∷ [])))) at act h met

-- at a place in the front none that stands only behind it was met
none_met : (here late : Act → Bool) (front rest : List Act) (at n : ℕ) (act : Act) → list_any late front ≡ false → list_any here rest ≡ false →
    slice_get (front ++ rest) at ≡ Some act → here act ≡ true → n ≤ at + 1 → list_any late (take n (front ++ rest)) ≡ false
none_met here late [] rest at n act none away h met le = absurd (false≢true (sym away ∙ stands_in here rest at act h met))
none_met here late (x ∷ front) rest at zero act none away h met le = refl
none_met here late (x ∷ front) rest zero (suc zero) act none away h met le = or_from (late x) false (or_parts (late x) (list_any late front) none).0 refl
none_met here late (x ∷ front) rest zero (suc (suc n)) act none away h met le = absurd (omega arith)
none_met here late (x ∷ front) rest (suc at) (suc n) act none away h met le =
    let parts = or_parts (late x) (list_any late front) none in
    or_from (late x) (list_any late (take n (front ++ rest))) parts.0 (none_met here late front rest at n act parts.1 away h met (omega arith))

-- a task that opens or closes has met nothing that stands behind its reads
pub none_met_yet : (g : Graph) (late : Act → Bool) (task at n slot : ℕ) (act : Act) → list_any late (flat_map reading (reads_of g task)) ≡ false →
    slice_get (script g task) at ≡ Some act → touches slot act ≡ true → n ≤ at + 1 → list_any late (take n (script g task)) ≡ false
unfolding script
none_met_yet g late task at n slot act none h met le =
    none_met (touches slot) late (flat_map reading (reads_of g task)) (Publishes ∷ (lowering g task ++ (Finishes ∷ []))) at n act none (touches_none g task slot) h met le
