-- What stands at each place of a script.
use Rattle.std.proofs.Common.{◌≡◌, ◌∙◌, ◌<◌, ◌+◌, ◌*◌, ◌/◌, ◌%◌, ℕ, zero, suc, cond, List, [], ◌∷◌, ◌++◌, map, Option, Some, None, length, ap, sym, refl, arith}
use Rattle.std.specs.Prelude.{slice_get, option_map, ◌==◌}
use Rattle.std.specs.List.{flat_map}
use Rattle.sched_core.specs.declared.act.Act.{Act}
use Rattle.sched_core.specs.declared.act.Act.TheVariants.{Opens, Closes, Publishes, LowersUse, LowersSuccessor, Finishes}
use Rattle.std.proofs.Common.{append_assoc, length-append, ◌≢◌}
use Rattle.std.proofs.lemmas.List.{length-map}
use Rattle.graph_types.specs.declared.graph.Graph.{Graph}
use Rattle.graph_types.specs.Graph.{reads_of, writes_of, successors_of}
use Rattle.std.proofs.Common.{subst, ◌^◌}
use Rattle.std.specs.Prelude.{IfSome}
use Rattle.std.proofs.lemmas.Option.{none-some, same_Some, slice_get_within}
use Rattle.sched_core.specs.declared.state.Core.{Core}
use Rattle.sched_core.specs.declared.view.Doing.{Doing}
use Rattle.sched_core.specs.declared.view.View.{View}
use Rattle.sched_core.specs.declared.view.View.TheVariants.{Running}
use Rattle.sched_core.specs.Bounds.{IsBounded}
use Rattle.sched_core.specs.Core.{reading, lowering, script, doing, view_of}
use Rattle.sched_core.proofs.Lists.{slice_get-append, slice_get-append_past}

-- what a task does at an even place and at an odd one
abbrev pub read_at : (place slot : ℕ) → Act
read_at place slot = cond (place % 2 == 0) (Opens slot) (Closes slot)

pub reading_place : (slots : List ℕ) (place : ℕ) → slice_get (flat_map reading slots) place ≡ option_map (read_at place) (slice_get slots (place / 2))
reading_place [] place = refl
reading_place (slot ∷ slots) zero = refl
reading_place (slot ∷ slots) (suc zero) = refl
reading_place (slot ∷ slots) (suc (suc place)) =
    let half : suc (suc place) / 2 ≡ suc (place / 2) = omega arith in
    let rest : suc (suc place) % 2 ≡ place % 2 = omega arith in
    reading_place slots place
    ∙ ap (λ (r : ℕ). option_map (λ s. cond (r == 0) (Opens s) (Closes s)) (slice_get slots (place / 2))) (sym rest)
    ∙ ap (λ (k : ℕ). option_map (read_at (suc (suc place))) (slice_get (slot ∷ slots) k)) (sym half)

pub reading_none : (slots : List ℕ) (place : ℕ) → slice_get slots (place / 2) ≡ None → slice_get (flat_map reading slots) place ≡ None
reading_none slots place h = reading_place slots place ∙ ap (option_map (read_at place)) h

pub reading_opens : (slots : List ℕ) (place slot : ℕ) → slice_get slots (place / 2) ≡ Some slot → place % 2 ≡ 0 → slice_get (flat_map reading slots) place ≡ Some (Opens slot)
reading_opens slots place slot h even =
    reading_place slots place ∙ ap (option_map (read_at place)) h ∙ ap (λ (r : ℕ). Some (cond (r == 0) (Opens slot) (Closes slot))) even

pub reading_closes : (slots : List ℕ) (place slot : ℕ) → slice_get slots (place / 2) ≡ Some slot → place % 2 ≢ 0 → slice_get (flat_map reading slots) place ≡ Some (Closes slot)
reading_closes slots place slot h odd =
    let one : place % 2 ≡ 1 = omega arith in
    reading_place slots place ∙ ap (option_map (read_at place)) h ∙ ap (λ (r : ℕ). Some (cond (r == 0) (Opens slot) (Closes slot))) one

pub length_reading : (slots : List ℕ) → length (flat_map reading slots) ≡ 2 * length slots
length_reading [] = refl
length_reading (slot ∷ slots) = let ih = length_reading slots in omega arith

module _ (g : Graph) (task : ℕ) where
  -- the three parts of a script, by the place behind the part before
  pub script_reading : (place : ℕ) → place / 2 < length (reads_of g task) → slice_get (script g task) place ≡ slice_get (flat_map reading (reads_of g task)) place
  unfolding script
  script_reading place h =
      slice_get-append (flat_map reading (reads_of g task)) _ place (let n = length_reading (reads_of g task) in omega arith)

  pub script_publish : (place : ℕ) → place ≡ 2 * length (reads_of g task) → slice_get (script g task) place ≡ Some Publishes
  unfolding script
  script_publish place h =
      slice_get-append_past (flat_map reading (reads_of g task)) (Publishes ∷ (lowering g task ++ (Finishes ∷ []))) place 0 (let n = length_reading (reads_of g task) in omega arith)

  pub script_behind : (place after : ℕ) → place ≡ 2 * length (reads_of g task) + suc after → slice_get (script g task) place ≡ slice_get (lowering g task ++ (Finishes ∷ [])) after
  unfolding script
  script_behind place after h =
      slice_get-append_past (flat_map reading (reads_of g task)) (Publishes ∷ (lowering g task ++ (Finishes ∷ []))) place (suc after) (let n = length_reading (reads_of g task) in omega arith)

  length_uses : length (map LowersUse (reads_of g task ++ writes_of g task)) ≡ length (reads_of g task) + length (writes_of g task)
  length_uses = length-map (reads_of g task ++ writes_of g task) LowersUse ∙ length-append (reads_of g task) (writes_of g task)

  pub lowering_use : (place : ℕ) → place < length (reads_of g task) + length (writes_of g task) →
      slice_get (lowering g task ++ (Finishes ∷ [])) place ≡ slice_get (map LowersUse (reads_of g task ++ writes_of g task)) place
  lowering_use place h =
      ap (λ (acts : List Act). slice_get acts place) (append_assoc (map LowersUse (reads_of g task ++ writes_of g task)) (map LowersSuccessor (successors_of g task)) (Finishes ∷ []))
      ∙ slice_get-append (map LowersUse (reads_of g task ++ writes_of g task)) _ place (omega (arith, length_uses))

  pub lowering_end : (place after : ℕ) → place ≡ length (reads_of g task) + length (writes_of g task) + after →
      slice_get (lowering g task ++ (Finishes ∷ [])) place ≡ slice_get (map LowersSuccessor (successors_of g task) ++ (Finishes ∷ [])) after
  lowering_end place after h =
      ap (λ (acts : List Act). slice_get acts place) (append_assoc (map LowersUse (reads_of g task ++ writes_of g task)) (map LowersSuccessor (successors_of g task)) (Finishes ∷ []))
      ∙ slice_get-append_past (map LowersUse (reads_of g task ++ writes_of g task)) (map LowersSuccessor (successors_of g task) ++ (Finishes ∷ [])) place after (omega (arith, length_uses))

pub end_finishes : (successors : List ℕ) (place : ℕ) → place ≡ length successors → slice_get (map LowersSuccessor successors ++ (Finishes ∷ [])) place ≡ Some Finishes
end_finishes successors place h =
    slice_get-append_past (map LowersSuccessor successors) (Finishes ∷ []) place 0 (omega (arith, length-map successors LowersSuccessor))

pub end_lowers : (successors : List ℕ) (place : ℕ) → place ≢ length successors → slice_get (map LowersSuccessor successors ++ (Finishes ∷ [])) place ≡ option_map LowersSuccessor (slice_get successors place)
end_lowers [] zero h = absurd (h refl)
end_lowers [] (suc place) h = refl
end_lowers (task ∷ successors) zero h = refl
end_lowers (task ∷ successors) (suc place) h = end_lowers successors place (λ e. h (ap suc e))

-- the view that does something is that of a running seat
pub is_doing : (g : Graph) (view : View) (d : Doing) → doing g view ≡ Some d → (view ≡ Running d.task d.at d.due) × (slice_get (script g d.task) d.at ≡ Some d.act)
is_doing g (Running task at due) d h = found (slice_get (script g task) at) refl h where
  found : (o : Option Act) → slice_get (script g task) at ≡ o → option_map (λ act. record { task = task; at = at; due = due; act = act }) o ≡ Some d →
      (Running task at due ≡ Running d.task d.at d.due) × (slice_get (script g d.task) d.at ≡ Some d.act)
  found None e h = absurd (none-some d h)
  found (Some act) e h = subst (λ (x : Doing). (Running task at due ≡ Running x.task x.at x.due) × (slice_get (script g x.task) x.at ≡ Some x.act)) (same_Some _ d h) (refl, e)
is_doing g _ d h = absurd (none-some d h)

pub doing_room : (c : Core) → IsBounded c → (seat : ℕ) (o : Option Doing) → o ≡ doing c.graph (view_of c seat) → IfSome o (λ d. d.at + 1 < 2 ^ 32)
doing_room c bounded seat None h = tt
doing_room c bounded seat (Some d) h =
    let within = slice_get_within (script c.graph d.task) d.at d.act (is_doing c.graph (view_of c seat) d (sym h)).1 in
    let room = bounded.places d.task in
    omega arith
