-- Old slots and marks that are put one behind the other.
use Rattle.std.proofs.Common.{◌≡◌, ◌∙◌, ◌<◌, ◌+◌, ℕ, List, [], ◌∷◌, ◌++◌, Bool, true, false, cond, length, map, take, filter, get_or, ap, sym, refl, subst, append_assoc, append-nil}
use Rattle.std.specs.List.{flat_map}
use Rattle.std.proofs.lemmas.List.{map-append}
use Rattle.std.proofs.lemmas.List.Elements.{filter-append}
use Rattle.uts_geom.specs.Spans.{counted}
use Rattle.problem_types.specs.declared.problem.Problem.{Problem}
use Rattle.problem_types.specs.declared.problem.Task.{Task}
use Rattle.task_check.specs.Plan.{Slot as TaskSlot, is_read}
use Rattle.graph_compiler.specs.Places.{ArePut}
use Rattle.graph_compiler.specs.Shown.{shown_slot}
use Rattle.graph_compiler.specs.declared.plan.Slot.{Slot}
use Rattle.graph_compiler.proofs.Growing.{counted_more, flat_map-counted, flat_map-next}

module _ (p : Problem) (tasks : List Task) where
  put_none : (marks : List Bool) (slots : List Slot) → ArePut p tasks [] marks marks slots slots
  put_none marks slots = record { marks_are = sym (append-nil marks); slots_are = sym (append-nil slots) }

  -- some more
  pub put_more : (seen next : List TaskSlot) (marks now more : List Bool) (slots grown all : List Slot) → ArePut p tasks seen marks now slots grown → ArePut p tasks next now more grown all
      → ArePut p tasks (seen ++ next) marks more slots all
  put_more seen next marks now more slots grown all first then = record {
    marks_are =
        then.marks_are
        ∙ ap (λ (xs : List Bool). xs ++ map (is_read p tasks) next) first.marks_are
        ∙ append_assoc marks (map (is_read p tasks) seen) (map (is_read p tasks) next)
        ∙ ap (λ (xs : List Bool). marks ++ xs) (sym (map-append (is_read p tasks) seen next));
    slots_are =
        then.slots_are
        ∙ ap (λ (xs : List Slot). xs ++ map (shown_slot tasks) (filter (is_read p tasks) next)) first.slots_are
        ∙ append_assoc slots (map (shown_slot tasks) (filter (is_read p tasks) seen)) (map (shown_slot tasks) (filter (is_read p tasks) next))
        ∙ ap (λ (xs : List Slot). slots ++ xs) (sym (map-append (shown_slot tasks) (filter (is_read p tasks) seen) (filter (is_read p tasks) next))
        ∙ ap (map (shown_slot tasks)) (sym (filter-append (is_read p tasks) seen next)));
  }

  -- one more
  pub put_one : (s : TaskSlot) (shown : Slot) (read : Bool) (marks more : List Bool) (slots grown : List Slot) → shown ≡ shown_slot tasks s → read ≡ is_read p tasks s
      → more ≡ marks ++ read ∷ [] → grown ≡ slots ++ cond read (shown ∷ []) [] → ArePut p tasks (s ∷ []) marks more slots grown
  put_one s shown read marks more slots grown is_shown is_mark more_are grown_are = record {
    marks_are = more_are ∙ ap (λ (b : Bool). marks ++ b ∷ []) is_mark;
    slots_are =
        grown_are
        ∙ ap (λ (x : Slot). slots ++ cond read (x ∷ []) []) is_shown
        ∙ ap (λ (b : Bool). slots ++ cond b (shown_slot tasks s ∷ []) []) is_mark
        ∙ ap (λ (xs : List Slot). slots ++ xs) (by_bool (is_read p tasks s));
  }
    where
      by_bool : (b : Bool) → cond b (shown_slot tasks s ∷ []) [] ≡ map (shown_slot tasks) (cond b (s ∷ []) [])
      by_bool true = refl
      by_bool false = refl

  -- those of one number more
  pub put_number : (f : ℕ → TaskSlot) (n : ℕ) (shown : Slot) (read : Bool) (marks now more : List Bool) (slots grown all : List Slot) → ArePut p tasks (map f (counted 0 n)) marks now slots grown
      → shown ≡ shown_slot tasks (f n) → read ≡ is_read p tasks (f n) → more ≡ now ++ read ∷ [] → all ≡ grown ++ cond read (shown ∷ []) []
      → ArePut p tasks (map f (counted 0 (n + 1))) marks more slots all
  put_number f n shown read marks now more slots grown all first is_shown is_mark more_are all_are =
      subst (λ (seen : List TaskSlot). ArePut p tasks seen marks more slots all) (sym (ap (map f) (counted_more n) ∙ map-append f (counted 0 n) (n ∷ [])))
      (put_more (map f (counted 0 n)) (f n ∷ []) marks now more slots grown all first (put_one (f n) shown read now more grown all is_shown is_mark more_are all_are))

  pub put_next : (f : ℕ → List TaskSlot) (n : ℕ) (marks now more : List Bool) (slots grown all : List Slot) → ArePut p tasks (flat_map f (counted 0 n)) marks now slots grown
      → ArePut p tasks (f n) now more grown all → ArePut p tasks (flat_map f (counted 0 (n + 1))) marks more slots all
  put_next f n marks now more slots grown all first then =
      subst (λ (seen : List TaskSlot). ArePut p tasks seen marks more slots all) (sym (flat_map-counted f n)) (put_more (flat_map f (counted 0 n)) (f n) marks now more slots grown all first then)

  pub put_item : {X : Type 0} (f : X → List TaskSlot) (xs : List X) (i : ℕ) (x : X) → i < length xs → x ≡ get_or xs i x → (marks now more : List Bool) (slots grown all : List Slot)
      → ArePut p tasks (flat_map f (take i xs)) marks now slots grown → ArePut p tasks (f x) now more grown all → ArePut p tasks (flat_map f (take (i + 1) xs)) marks more slots all
  put_item f xs i x below is marks now more slots grown all first then =
      subst (λ (seen : List TaskSlot). ArePut p tasks seen marks more slots all) (sym (flat_map-next f xs i x below is)) (put_more (flat_map f (take i xs)) (f x) marks now more slots grown all first then)
