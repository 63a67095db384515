-- What a task has behind it, and what stands at its next place.
use Rattle.std.proofs.Common.{◌≡◌, ◌∙◌, ◌≢◌, ◌≤◌, ◌<◌, ◌+◌, ℕ, zero, suc, Bool, true, false, List, [], ◌∷◌, ◌++◌, take, Some, ◌⊎◌, inl, inr, length, ap, sym, refl, arith, length-append}
use Rattle.std.specs.Prelude.{◌||◌, slice_get}
use Rattle.std.specs.List.{flat_map, list_any}
use Rattle.std.proofs.lemmas.Bool.{false≢true, cases_lt, or_parts}
use Rattle.std.proofs.lemmas.Option.{same_Some, slice_get_within, slice_get-get_or, get_or_from_slice_get}
use Rattle.std.proofs.lemmas.List.Folds.{list_any_more}
use Rattle.graph_types.specs.declared.graph.Graph.{Graph}
use Rattle.graph_types.specs.Graph.{reads_of}
use Rattle.sched_core.specs.declared.act.Act.{Act}
use Rattle.sched_core.specs.declared.act.Act.TheVariants.{Opens, Closes, Publishes, Finishes}
use Rattle.sched_core.specs.Core.{reading, lowering, script, act_passes, closes}
use Rattle.sched_core.proofs.Lists.{slice_get-append_past}
use Rattle.sched_core.proofs.Scripts.{body, script_body, stands_in, none_behind_reads}

-- what passes at no place of a list passes at none of its places
passes_nowhere : (test : Act → Bool) (acts : List Act) (at : ℕ) → list_any test acts ≡ false → act_passes test (slice_get acts at) ≡ false
passes_nowhere test [] at none = refl
passes_nowhere test (x ∷ acts) zero none = (or_parts (test x) (list_any test acts) none).0
passes_nowhere test (x ∷ acts) (suc at) none = passes_nowhere test acts at (or_parts (test x) (list_any test acts) none).1

-- one more act behind
pub one_behind : (test : Act → Bool) (acts : List Act) (at : ℕ) (act : Act) → slice_get acts at ≡ Some act → list_any test (take (at + 1) acts) ≡ (list_any test (take at acts) || test act)
one_behind test acts at act h =
    list_any_more test acts at act (slice_get_within acts at act h)
    ∙ ap (λ (a : Act). list_any test (take at acts) || test a) (get_or_from_slice_get acts at act act h)

-- every act but the last one has a next
pub next_exists : (g : Graph) (task at : ℕ) (act : Act) → slice_get (script g task) at ≡ Some act → act ≢ Finishes → (next : Act) × (slice_get (script g task) (at + 1) ≡ Some next)
next_exists g task at act h other = (_, slice_get-get_or (script g task) (at + 1) Finishes (inside (cases_lt (at + 1) (length (script g task))))) where
  long : length (script g task) ≡ length (body g task) + 1
  long = ap (λ (acts : List Act). length acts) (script_body g task) ∙ length-append (body g task) (Finishes ∷ [])

  within : at < length (script g task)
  within = slice_get_within (script g task) at act h

  inside : (at + 1 < length (script g task)) ⊎ (length (script g task) ≤ at + 1) → at + 1 < length (script g task)
  inside (inl lt) = lt
  inside (inr le) =
      let last : at ≡ length (body g task) + 0 = omega (arith, long, within, le) in
      let ends : slice_get (script g task) at ≡ Some Finishes = ap (λ (acts : List Act). slice_get acts at) (script_body g task) ∙ slice_get-append_past (body g task) (Finishes ∷ []) at 0 last in
      absurd (other (same_Some act Finishes (sym h ∙ ends)))

-- Only an act that opens is followed by one that closes.
unfoldable pub opens : Act → Bool
opens (Opens slot) = true
opens _ = false

closes_at_first : (slot : ℕ) (reads : List ℕ) (rest : List Act) → act_passes (closes slot) (slice_get rest 0) ≡ false → act_passes (closes slot) (slice_get (flat_map reading reads ++ rest) 0) ≡ false
closes_at_first slot [] rest none = none
closes_at_first slot (read ∷ reads) rest none = refl

closes_next : (slot : ℕ) (reads : List ℕ) (rest : List Act) (at : ℕ) (act : Act) → list_any (closes slot) rest ≡ false →
    slice_get (flat_map reading reads ++ rest) at ≡ Some act → opens act ≡ false → act_passes (closes slot) (slice_get (flat_map reading reads ++ rest) (suc at)) ≡ false
unfolding opens
closes_next slot [] rest at act none h shut = passes_nowhere (closes slot) rest (suc at) none
closes_next slot (read ∷ reads) rest zero act none h shut =
    absurd (false≢true (sym (ap opens (same_Some (Opens read) act h) ∙ shut)))
closes_next slot (read ∷ reads) rest (suc zero) act none h shut = closes_at_first slot reads rest (passes_nowhere (closes slot) rest 0 none)
closes_next slot (read ∷ reads) rest (suc (suc at)) act none h shut = closes_next slot reads rest at act none h shut

pub no_close_next : (g : Graph) (task at slot : ℕ) (act : Act) → slice_get (script g task) at ≡ Some act → opens act ≡ false → act_passes (closes slot) (slice_get (script g task) (at + 1)) ≡ false
unfolding script
no_close_next g task at slot act h shut =
    ap (λ (k : ℕ). act_passes (closes slot) (slice_get (flat_map reading (reads_of g task) ++ (Publishes ∷ (lowering g task ++ (Finishes ∷ [])))) k)) (let e : at + 1 ≡ suc at = omega arith in e)
    ∙ closes_next slot (reads_of g task) (Publishes ∷ (lowering g task ++ (Finishes ∷ []))) at act
    (none_behind_reads g task (closes slot) (λ s. refl) (λ t. refl) refl refl) h shut

-- An act that opens a slot is followed by the one that closes it.
opens_next : (reads : List ℕ) (rest : List Act) (at slot : ℕ) → list_any opens rest ≡ false → slice_get (flat_map reading reads ++ rest) at ≡ Some (Opens slot) → slice_get (flat_map reading reads ++ rest) (suc at) ≡ Some (Closes slot)
unfolding opens
opens_next [] rest at slot none h = absurd (false≢true (sym none ∙ stands_in opens rest at (Opens slot) h refl))
opens_next (r ∷ reads) rest zero slot none h = let e : r ≡ slot = cc in ap (λ (s : ℕ). Some (Closes s)) e
opens_next (r ∷ reads) rest (suc zero) slot none h = cc
opens_next (r ∷ reads) rest (suc (suc at)) slot none h = opens_next reads rest at slot none h

pub closes_then : (g : Graph) (task at slot : ℕ) → slice_get (script g task) at ≡ Some (Opens slot) → slice_get (script g task) (at + 1) ≡ Some (Closes slot)
unfolding script opens
closes_then g task at slot stands =
    ap (slice_get (script g task)) (let e : at + 1 ≡ suc at = omega arith in e)
    ∙ opens_next (reads_of g task) (Publishes ∷ (lowering g task ++ (Finishes ∷ []))) at slot
    (none_behind_reads g task opens (λ s. refl) (λ t. refl) refl refl) stands
