-- The graph of each plan of an accepted problem is valid.
use Rattle.std.proofs.Common.{◌≡◌, ◌∙◌, ◌<◌, ◌≤◌, ◌-◌, inl, inr, ℕ, zero, suc, List, [], ◌∷◌, ◌++◌, Bool, true, false, cond, Some, length, map, get_or, ap, sym, refl, arith, length-append}
use Rattle.std.specs.Prelude.{slice_get, slice_index_or, option_map, All, filter}
use Rattle.std.specs.List.{AllPairs, count_by, flat_map}
use Rattle.std.proofs.lemmas.List.{length-map}
use Rattle.std.proofs.lemmas.List.Elements.{All-append, All-filter, All-map, filter_passes}
use Rattle.std.proofs.lemmas.List.Sums.{sum_by-append, sum_by-cons}
use Rattle.std.proofs.lemmas.Option.{slice_get-map, get_or_from_slice_get}
use Rattle.uts_geom.specs.Spans.{counted}
use Rattle.uts_geom.specs.Counting.{get_left, get_right}
use Rattle.uts_geom.specs.Lists.{all_at, not_above}
use Rattle.problem_types.specs.Form.{IsProblemInForm, IsTaskInForm, AreTasksInForm}
use Rattle.problem_types.specs.Lists.{task_list}
use Rattle.problem_types.specs.declared.problem.Problem.{Problem}
use Rattle.problem_types.specs.declared.problem.Reduction.{Reduction}
use Rattle.problem_types.specs.declared.problem.Task.{Task}
use Rattle.problem_types.specs.declared.problem.Var.{Var}
use Rattle.graph_types.specs.Graph.{IsValid}
use Rattle.task_check.specs.declared.fault.Which.{Which}
use Rattle.task_check.specs.declared.fault.Which.TheVariants as limit
use Rattle.task_check.specs.Counts.{IsAbove, detailed_count, slot_count, read_count}
use Rattle.task_check.specs.First.{IsAccepted}
use Rattle.task_check.specs.Plan.{Slot, OldNumber, New, Part, Number, Old, details_of, slots_of, written_by, old_variables, old_numbers, patches_of, is_read, reads}
use Rattle.graph_compiler.specs.Kept.{is_kept_slot, kept_slots}
use Rattle.graph_compiler.specs.Kinds.{tasks_in}
use Rattle.graph_compiler.specs.Laws.{PlansAreValid}
use Rattle.graph_compiler.specs.Plan.{is_old, is_writing, slots_of_list, graph_of, plan_of}
use Rattle.graph_compiler.specs.Shown.{shown_slot}
use Rattle.graph_compiler.specs.declared.plan.ListKind.{ListKind}
use Rattle.graph_compiler.specs.declared.plan.ListKind.TheVariants as list
use Rattle.graph_compiler.specs.declared.plan.Slot.{Slot as ShownSlot}
use Rattle.graph_compiler.specs.declared.plan.StepKind.{StepKind}
use Rattle.graph_compiler.proofs.ValidLists.{count-none, count-some}
use Rattle.graph_compiler.proofs.ValidOrders.{all-flat_map}
use Rattle.graph_compiler.proofs.ValidGraphs.{IsFit, fit_is_valid}
use Rattle.graph_compiler.proofs.ValidDetails.{Before, in_order, ordered_details, old_unwritten, written_are_new, written_once}
use Rattle.graph_compiler.proofs.ValidForward.{readers_behind}

count-all : {X : Type 0} (p : X → Bool) (xs : List X) → ((k : ℕ) (x : X) → slice_get xs k ≡ Some x → p x ≡ true) → count_by p xs ≡ length xs
count-all p [] each = refl
count-all p (x ∷ xs) each =
    let here : cond {A = ℕ} (p x) 1 0 ≡ 1 = ap (λ (b : Bool). cond b 1 0) (each 0 x refl) in
    omega (arith, sum_by-cons (λ y. cond (p y) 1 0) x xs, here, count-all p xs (λ k y at. each (suc k) y at))

-- The slots of a list: old ones first, and then what the detailed tasks write.
module _ (p : Problem) (tasks : List Task) where
  abbrev olds : List Slot
  olds = filter (is_read p tasks) (old_variables p ++ old_numbers p)

  abbrev written : List Slot
  written = flat_map (written_by tasks) (details_of p tasks)

  abbrev old_count : ℕ
  old_count = count_by is_old (slots_of p tasks)

  abbrev is_old_slot : Slot → Type 0
  is_old_slot s = is_old s ≡ true

  module _ (name : ℕ) where
    abbrev on_material : (level material : ℕ) → List Slot
    on_material level material = map (Old name level material) (patches_of p level)

    abbrev on_level : ℕ → List Slot
    on_level level = flat_map (on_material level) (counted 0 p.materials.value)

    old_on_level : (level : ℕ) → All is_old_slot (on_level level)
    old_on_level level = all-flat_map is_old_slot (on_material level) (counted 0 p.materials.value) (λ i m on.
        All-map is_old_slot (Old name level (get_or (counted 0 p.materials.value) i m)) (patches_of p level) (λ j patch under. refl))

    old_on_levels : All is_old_slot (flat_map on_level (counted 0 (length p.levels)))
    old_on_levels = all-flat_map is_old_slot on_level (counted 0 (length p.levels)) (λ i l on. old_on_level (get_or (counted 0 (length p.levels)) i l))

  variables_are_old : All is_old_slot (old_variables p)
  variables_are_old = all-flat_map is_old_slot (λ (v : Var). flat_map (on_level v.name) (counted 0 (length p.levels))) p.vars (λ i v on. old_on_levels (get_or p.vars i v).name)

  numbers_are_old : All is_old_slot (old_numbers p)
  numbers_are_old = All-map is_old_slot (λ (q : Reduction). OldNumber q.name) p.reductions (λ i q on. refl)

  pub olds_are_old : All is_old_slot olds
  olds_are_old = All-filter (is_read p tasks) is_old_slot (old_variables p ++ old_numbers p)
      (All-append is_old_slot (old_variables p) (old_numbers p) variables_are_old numbers_are_old)

  pub old_count_is : old_count ≡ length olds
  old_count_is =
      sum_by-append (λ s. cond (is_old s) 1 0) olds written
      ∙ omega (
        arith,
        count-all is_old olds (λ k s at. all_at is_old_slot olds k s at olds_are_old),
        count-none is_old written (λ k s at. all_at (λ x. is_old x ≡ false) written k s at (written_are_new tasks (details_of p tasks))),
      )

  -- a slot below their number is an old one, and one from there on is written
  old_at : (k : ℕ) (s : Slot) → slice_get (slots_of p tasks) k ≡ Some s → k < old_count → slice_get olds k ≡ Some s
  old_at k s at below = sym (get_left olds written k (omega (arith, old_count_is, below))) ∙ at

  written_at : (k : ℕ) (s : Slot) → slice_get (slots_of p tasks) k ≡ Some s → old_count ≤ k → slice_get written (k - length olds) ≡ Some s
  written_at k s at from = sym (get_right olds written k (k - length olds) (omega (arith, old_count_is, from))) ∙ at

  is_old_at : (k : ℕ) (s : Slot) → slice_get (slots_of p tasks) k ≡ Some s → k < old_count → is_old s ≡ true
  is_old_at k s at below = all_at is_old_slot olds k s (old_at k s at below) olds_are_old

  old_wanted : (k : ℕ) (s : Slot) → slice_get (slots_of p tasks) k ≡ Some s → k < old_count → 1 ≤ count_by (λ d. reads p tasks d s) (details_of p tasks)
  old_wanted k s at below = count-some (λ d. reads p tasks d s) (details_of p tasks)
      (all_at (λ x. is_read p tasks x ≡ true) olds k s (old_at k s at below) (filter_passes (is_read p tasks) (old_variables p ++ old_numbers p)))

  few_old : old_count ≤ length (slots_of p tasks)
  few_old = omega (arith, old_count_is, length-append olds written)

  -- an old slot is not kept
  module _ (k : StepKind) where
    old_goes : (slots : List ShownSlot) (s : Slot) → is_old s ≡ true → is_kept_slot p k slots (shown_slot tasks s) ≡ false
    old_goes slots (Old name level material patch) old = refl
    old_goes slots (OldNumber name) old = refl
    old_goes slots (New task line level material patch) old = absurd cc
    old_goes slots (Part task line level material patch) old = absurd cc
    old_goes slots (Number task line) old = absurd cc

    let_go : (slot : ℕ) (s : Slot) → slice_get (slots_of p tasks) slot ≡ Some s → slot < old_count →
        slice_index_or (kept_slots p k (slots_of_list p tasks)) slot false ≡ false
    let_go slot s at below =
        let slots : List ShownSlot = slots_of_list p tasks in
        get_or_from_slice_get (kept_slots p k slots) slot (is_kept_slot p k slots (shown_slot tasks s)) false
        (slice_get-map (is_kept_slot p k slots) slots slot ∙ ap (option_map (is_kept_slot p k slots)) (slice_get-map (shown_slot tasks) (slots_of p tasks) slot ∙ ap (option_map (shown_slot tasks)) at))
        ∙ old_goes slots s (is_old_at slot s at below)

    pub each_kept : length (kept_slots p k (slots_of_list p tasks)) ≡ length (slots_of p tasks)
    each_kept = length-map (slots_of_list p tasks) (is_kept_slot p k (slots_of_list p tasks)) ∙ length-map (slots_of p tasks) (shown_slot tasks)

-- a list of a problem in form
module _ (p : Problem) (form : IsProblemInForm p) (list : ℕ) (of_two : list < 2) where
  pub task_in_form : (place : ℕ) (t : Task) → slice_get (task_list p list) place ≡ Some t → IsTaskInForm (length p.names) t
  task_in_form place t at = all_at (IsTaskInForm (length p.names)) (task_list p list) place t at (by_list list of_two).each
    where
      by_list : (n : ℕ) → n < 2 → AreTasksInForm (length p.names) (task_list p n)
      by_list zero below = form.init
      by_list (suc n) below = form.timestep

  pub ordered : AllPairs Before (details_of p (task_list p list))
  ordered = ordered_details p (task_list p list) (λ place t at. let f = task_in_form place t at in (f.levels.ascending, f.materials.ascending))

module _ (p : Problem) (k : StepKind) (form : IsProblemInForm p) (accepted : IsAccepted p) (list : ℕ) (of_two : list < 2) where
  abbrev tasks : List Task
  tasks = task_list p list

  within : (which : Which) → IsAbove p tasks which → ⊥
  within which above = by_list list of_two above
    where
      by_list : (n : ℕ) → n < 2 → IsAbove p (task_list p n) which → ⊥
      by_list zero below above = accepted.plans which (inl above)
      by_list (suc n) below above = accepted.plans which (inr above)

  fit : IsFit (details_of p tasks) (slots_of p tasks) (reads p tasks) (is_writing tasks) (count_by is_old (slots_of p tasks)) (kept_slots p k (slots_of_list p tasks))
  fit = record {
    few_tasks = not_above (detailed_count p tasks) 65536 (within limit.Detailed);
    few_slots = not_above (slot_count p tasks) 262144 (within limit.Slots);
    few_reads = not_above (read_count p tasks) 2097152 (within limit.Reads);
    each_kept = each_kept p tasks k;
    few_old = few_old p tasks;
    written = λ slot s at from. written_once tasks (details_of p tasks) (ordered p form list of_two) (slot - length (olds p tasks)) s (written_at p tasks slot s at from);
    unwritten = λ slot s at below. old_unwritten tasks s (is_old_at p tasks slot s at below) (details_of p tasks);
    wanted = λ slot s at below. old_wanted p tasks slot s at below;
    let_go = λ slot s at below. let_go p tasks k slot s at below;
    forward = λ first second d e s at_first at_second writing reading.
        in_order (details_of p tasks) (ordered p form list of_two) first second d e at_first at_second (readers_behind p accepted.faultless list of_two d e s writing reading);
  }

  graph_is_valid : IsValid (graph_of p tasks (kept_slots p k (slots_of_list p tasks)))
  unfolding graph_of
  graph_is_valid = fit_is_valid (details_of p tasks) (slots_of p tasks) (reads p tasks) (is_writing tasks) (count_by is_old (slots_of p tasks)) (kept_slots p k (slots_of_list p tasks)) fit

pub plans_valid : PlansAreValid
unfolding plan_of
plans_valid p k form accepted = by_list k.list
  where
    by_list : (l : ListKind) → IsValid (graph_of p (tasks_in p l) (kept_slots p k (slots_of_list p (tasks_in p l))))
    by_list list.Init = graph_is_valid p k form accepted 0 (omega arith)
    by_list list.Timestep = graph_is_valid p k form accepted 1 (omega arith)
