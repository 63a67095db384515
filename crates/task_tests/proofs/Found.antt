-- What the old slots of a step hold.
use Rattle.std.proofs.Common.{◌≡◌, ◌∙◌, inl, inr, ℕ, ℤ, zero, suc, ◌+◌, ◌-◌, ◌<◌, ◌≤◌, List, [], ◌∷◌, ◌++◌, length, length-append, map, Some, refl, sym, ap, subst, arith}
use Rattle.std.specs.Prelude.{slice_get, slice_index_or}
use Rattle.std.specs.Option.{option_map}
use Rattle.std.proofs.Math.Nat.{eq-or-lt_of_le}
use Rattle.std.proofs.lemmas.Option.{get_or_from_slice_get, slice_get-map}
use Rattle.uts_geom.specs.Spans.{counted}
use Rattle.uts_geom.specs.Counting.{at-counted, counted-at, length-counted}
use Rattle.problem_types.specs.Lists.{task_list}
use Rattle.problem_types.specs.declared.problem.Problem.{Problem}
use Rattle.problem_types.specs.declared.problem.Task.{Task}
use Rattle.graph_types.specs.Content.{FitsSlot}
use Rattle.graph_compiler.specs.Kinds.{list_at, tasks_in}
use Rattle.graph_compiler.specs.Plan.{plan_of, slots_of_list}
use Rattle.graph_compiler.specs.Shown.{shown_slot}
use Rattle.graph_compiler.specs.declared.plan.Plan.{Plan}
use Rattle.graph_compiler.specs.declared.plan.Slot.{Slot as ShownSlot}
use Rattle.graph_compiler.specs.declared.plan.SlotKind.{SlotKind}
use Rattle.graph_compiler.specs.declared.plan.SlotKind.TheVariants as kind
use Rattle.graph_compiler.specs.declared.plan.StepKind.{StepKind}
use Rattle.field_box.specs.declared.value.Value.{Value}
use Rattle.field_box.specs.declared.value.Value.TheVariants as value
use Rattle.task_check.specs.Plan.{Old, OldNumber, New, Part, Number, Slot, slots_of}
use Rattle.uts_model.specs.Ends.{reduction_at_end}
use Rattle.uts_model.specs.WholeField.{before_step, end_of_step, reduction_at, task_count}
use Rattle.unified_scheduler.specs.Fitting.{AreFitting}
use Rattle.slot_contents.specs.Contents.{content_of, contents_of}
use Rattle.slot_contents.specs.Values.{Fits}
use Rattle.run_task.specs.Jobs.{IsPlanFor}

-- the step before ends as it stands before this one
before_is_end : (p : Problem) (step : ℕ) → 0 < step → (name : ℕ) → reduction_at p (step - 1) (task_count p (step - 1)) name ≡ (before_step p step).reduction name
before_is_end p zero later name = absurd (omega arith)
before_is_end p (suc n) later name =
    let same : suc n - 1 ≡ n = omega arith in
    subst (λ (m : ℕ). reduction_at p m (task_count p m) name ≡ (end_of_step p n).reduction name) (sym same) (reduction_at_end p n name)

-- a slot that is shown as one of an old number is one
pub old_number_fits : (p : Problem) (step : ℕ) → 0 < step → (slot : ShownSlot) (n : ℤ) → slot.kind ≡ kind.OldNumber
    → n ≡ reduction_at p (step - 1) (task_count p (step - 1)) slot.name → (s : Slot) → slot ≡ shown_slot (task_list p step) s → Fits (content_of p step s) (value.Number n)
old_number_fits p step later slot n is_number are (OldNumber name) shown =
    let names : slot.name ≡ name = ap (λ (t : ShownSlot). t.name) shown in
    ap (λ (m : ℤ). m ∷ []) (sym (are ∙ before_is_end p step later slot.name ∙ ap (before_step p step).reduction names))
old_number_fits p step later slot n is_number are (Old name level material patch) shown =
    absurd (let other : slot.kind ≡ kind.Old = ap (λ (t : ShownSlot). t.kind) shown in cc)
old_number_fits p step later slot n is_number are (New task line level material patch) shown =
    absurd (let other : slot.kind ≡ kind.New = ap (λ (t : ShownSlot). t.kind) shown in cc)
old_number_fits p step later slot n is_number are (Part task line level material patch) shown =
    absurd (let other : slot.kind ≡ kind.Part = ap (λ (t : ShownSlot). t.kind) shown in cc)
old_number_fits p step later slot n is_number are (Number task line) shown =
    absurd (let other : slot.kind ≡ kind.Number = ap (λ (t : ShownSlot). t.kind) shown in cc)

list_of : (p : Problem) (step : ℕ) → tasks_in p (list_at step) ≡ task_list p step
list_of p zero = refl
list_of p (suc n) = refl

slots_made : (p : Problem) (k : StepKind) → (plan_of p k).slots ≡ slots_of_list p (tasks_in p k.list)
unfolding plan_of
slots_made p k = refl

slots_are : (p : Problem) (step : ℕ) (plan : Plan) → IsPlanFor p step plan → plan.slots ≡ map (shown_slot (task_list p step)) (slots_of p (task_list p step))
slots_are p step plan is =
    let at : tasks_in p is.kind.list ≡ task_list p step = ap (tasks_in p) is.list ∙ list_of p step in
    ap (λ (q : Plan). q.slots) is.made ∙ slots_made p is.kind ∙ ap (slots_of_list p) at

some_shown : {A B : Type 0} (f : A → B) (xs : List A) (k : ℕ) (y : B) → slice_get (map f xs) k ≡ Some y → (x : A) × (slice_get xs k ≡ Some x) × (y ≡ f x)
some_shown f [] k y at = absurd cc
some_shown f (x ∷ xs) zero y at = (x, refl, let e : y ≡ f x = cc in e)
some_shown f (x ∷ xs) (suc k) y at = some_shown f xs k y at

content_at : (p : Problem) (step k : ℕ) (s : Slot) → slice_get (slots_of p (task_list p step)) k ≡ Some s → slice_index_or (contents_of p step) k [] ≡ content_of p step s
unfolding contents_of
content_at p step k s at =
    get_or_from_slice_get (map (content_of p step) (slots_of p (task_list p step))) k (content_of p step s) []
    (slice_get-map (content_of p step) (slots_of p (task_list p step)) k ∙ ap (option_map (content_of p step)) at)

-- what fits a slot of a list by its data fits the slot at its place
pub fits_at : (p : Problem) (step : ℕ) (plan : Plan) → IsPlanFor p step plan → (k : ℕ) (slot : ShownSlot) (v : Value) → slice_get plan.slots k ≡ Some slot
    → ((s : Slot) → slot ≡ shown_slot (task_list p step) s → Fits (content_of p step s) v) → FitsSlot Fits (contents_of p step) k v
fits_at p step plan is k slot v at fits =
    let s = some_shown (shown_slot (task_list p step)) (slots_of p (task_list p step)) k slot (sym (ap (λ (xs : List ShownSlot). slice_get xs k) (slots_are p step plan is)) ∙ at) in
    content_at p step k s.0 s.1 ∙ fits s.0 s.2

get_left : {A : Type 0} (xs : List A) (y : A) (k : ℕ) → k < length xs → slice_get (xs ++ y ∷ []) k ≡ slice_get xs k
get_left [] y k below = absurd (omega arith)
get_left (x ∷ xs) y zero below = refl
get_left (x ∷ xs) y (suc k) below = get_left xs y k (omega arith)

get_last : {A : Type 0} (xs : List A) (y : A) (k : ℕ) → k ≡ length xs → slice_get (xs ++ y ∷ []) k ≡ Some y
get_last [] y zero last = refl
get_last [] y (suc k) last = absurd (omega arith)
get_last (x ∷ xs) y zero last = absurd (omega arith)
get_last (x ∷ xs) y (suc k) last = get_last xs y k (omega arith)

-- a value more
module _ {V : Type 0} (fits : List ℤ → V → Type 0) (content : List (List ℤ)) where
  pub fitting_none : AreFitting fits content (counted 0 0) []
  fitting_none = record { many = refl; each = λ k slot v at also. absurd cc }

  pub fitting_more : (n : ℕ) (values : List V) (value : V) → AreFitting fits content (counted 0 n) values → FitsSlot fits content n value
      → AreFitting fits content (counted 0 (n + 1)) (values ++ value ∷ [])
  fitting_more n values value before fit =
      let long : length values ≡ n = before.many ∙ length-counted 0 n in
      record {
        many = length-append values (value ∷ []) ∙ omega (arith, long, length-counted 0 (n + 1));
        each = λ k slot v at also.
            let stands = at-counted (n + 1) k slot at in
            elim (eq-or-lt_of_le (let le : k ≤ n = omega arith in le)) [
              | inl last ↦
                  let is : Some value ≡ Some v = sym (get_last values value k (omega (arith, long))) ∙ also in
                  let slot_is : n ≡ slot = omega arith in
                  let value_is : value ≡ v = cc in
                  subst (λ (w : V). FitsSlot fits content slot w) value_is (subst (λ (m : ℕ). FitsSlot fits content m value) slot_is fit)
              | inr less ↦
                  before.each k slot v (counted-at n k less ∙ ap Some (sym stands.0)) (sym (get_left values value k (omega (arith, long))) ∙ also)
            ];
      }
