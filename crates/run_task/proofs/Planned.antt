-- What the numbers of a plan stand for.
use Rattle.std.proofs.Common.{◌≡◌, ◌∙◌, ℕ, zero, suc, ◌+◌, ◌<◌, ◌≤◌, Bool, true, false, cond, List, [], ◌∷◌, ◌++◌, length, map, get_or, take, Option, Some, refl, sym, ap, subst, arith, add-one}
use Rattle.std.specs.Prelude.{slice_get, slice_index_or}
use Rattle.std.specs.List.{filter}
use Rattle.std.specs.Option.{option_map, option_map_or}
use Rattle.std.proofs.lemmas.List.{length-map, map-append, take_all, take_more}
use Rattle.std.proofs.lemmas.List.Elements.{filter-append}
use Rattle.std.proofs.lemmas.Option.{get_or_from_slice_get, slice_get-map, slice_get_within}
use Rattle.uts_geom.specs.Spans.{counted}
use Rattle.problem_types.specs.Form.{IsProblemInForm}
use Rattle.problem_types.specs.Lists.{task_list}
use Rattle.problem_types.specs.declared.problem.Problem.{Problem}
use Rattle.problem_types.specs.declared.problem.Task.{Task}
use Rattle.graph_types.specs.Graph.{reads_of, writes_of}
use Rattle.graph_types.specs.Linked.{linked}
use Rattle.task_check.specs.First.{IsAccepted}
use Rattle.task_check.specs.Plan.{Detail, Slot, details_of, reads, slots_of, written_by}
use Rattle.graph_compiler.specs.Kinds.{list_at, tasks_in}
use Rattle.graph_compiler.specs.Places.{StandsAt}
use Rattle.graph_compiler.specs.Plan.{graph_of, is_writing, places_of, plan_of}
use Rattle.graph_compiler.specs.Shown.{shown_slot, shown_task}
use Rattle.graph_compiler.specs.Slots.{StandInOrder, WritesStandInOrder}
use Rattle.graph_compiler.specs.declared.plan.Detail.{Detail as Shown}
use Rattle.graph_compiler.specs.declared.plan.Plan.{Plan}
use Rattle.graph_compiler.specs.declared.plan.Slot.{Slot as ShownSlot}
use Rattle.graph_compiler.specs.declared.plan.StepKind.{StepKind}
use Rattle.slot_contents.specs.Contents.{content_of, contents_of}
use Rattle.run_task.specs.Gathered.{slots_read}
use Rattle.run_task.specs.Jobs.{IsPlanFor, ShowsList}
use Rattle.run_task.proofs.Lists.{there_at}

-- ---- the places of the items that pass a test stand beside the items

module _ {A : Type 0} (test : A → Bool) (items : List A) where
  abbrev passes_at : ℕ → Bool
  passes_at place = option_map_or test (slice_get items place) false

  abbrev shown : A → Option A
  shown x = Some x

  one_by_test : (n : ℕ) (x : A) → slice_get items n ≡ Some x → (b : Bool) → passes_at n ≡ b → test x ≡ b →
      map (slice_get items) (cond (passes_at n) (n ∷ []) []) ≡ map shown (cond (test x) (x ∷ []) [])
  one_by_test n x at true first second = rw (first, second) (ap (λ (o : Option A). o ∷ []) at)
  one_by_test n x at false first second = rw (first, second) refl

  fronts : (n : ℕ) → n ≤ length items → map (slice_get items) (filter passes_at (counted 0 n)) ≡ map shown (filter test (take n items))
  fronts zero within = refl
  fronts (suc n) within =
      let here = there_at items n (omega arith) in
      let x = here.0 in
      let at : slice_get items n ≡ Some x = here.1 in
      let again : 0 + n ≡ n = omega arith in
      let same : passes_at n ≡ test x = ap (λ (o : Option A). option_map_or test o false) at in
      let next : take (suc n) items ≡ take n items ++ x ∷ [] =
      ap (λ (m : ℕ). take m items) (sym (add-one n)) ∙ take_more items n x (omega arith)
      ∙ ap (λ (y : A). take n items ++ y ∷ []) (get_or_from_slice_get items n x x at) in
      ap (λ (m : ℕ). map (slice_get items) (filter passes_at (counted 0 n ++ m ∷ []))) again
      ∙ ap (map (slice_get items)) (filter-append passes_at (counted 0 n) (n ∷ []))
      ∙ map-append (slice_get items) (filter passes_at (counted 0 n)) (filter passes_at (n ∷ []))
      ∙ ap (λ (front : List (Option A)). front ++ map (slice_get items) (filter passes_at (n ∷ []))) (fronts n (omega arith))
      ∙ ap (λ (end : List (Option A)). map shown (filter test (take n items)) ++ end) (one_by_test n x at (test x) same refl)
      ∙ sym (map-append shown (filter test (take n items)) (filter test (x ∷ [])))
      ∙ ap (map shown) (sym (filter-append test (take n items) (x ∷ [])))
      ∙ ap (λ (xs : List A). map shown (filter test xs)) (sym next)

  beside : map (slice_get items) (places_of test items) ≡ map shown (filter test items)
  beside = fronts (length items) (omega arith) ∙ ap (λ (xs : List A). map shown (filter test xs)) (take_all (length items) items (omega arith))

  pub places_counted : length (places_of test items) ≡ length (filter test items)
  places_counted =
      sym (length-map (places_of test items) (slice_get items)) ∙ ap length beside ∙ length-map (filter test items) shown

  pub place_holds : (k place : ℕ) → slice_get (places_of test items) k ≡ Some place →
      (x : A) × (slice_get (filter test items) k ≡ Some x) × (slice_get items place ≡ Some x)
  place_holds k place at =
      let within : k < length (filter test items) = omega (arith, places_counted, slice_get_within (places_of test items) k place at) in
      let kept = there_at (filter test items) k within in
      let first : slice_get (map (slice_get items) (places_of test items)) k ≡ Some (slice_get items place) =
      slice_get-map (slice_get items) (places_of test items) k ∙ ap (option_map (slice_get items)) at in
      let second : slice_get (map shown (filter test items)) k ≡ Some (shown kept.0) =
      slice_get-map shown (filter test items) k ∙ ap (option_map shown) kept.1 in
      let both : Some (slice_get items place) ≡ Some (shown kept.0) = sym first ∙ ap (λ (xs : List (Option A)). slice_get xs k) beside ∙ second in
      (kept.0, kept.1, (let e : slice_get items place ≡ shown kept.0 = cc in e))

-- ---- what a plan of a step's list says of it

list_of : (p : Problem) (step : ℕ) → tasks_in p (list_at step) ≡ task_list p step
list_of p zero = refl
list_of p (suc n) = refl

-- the list of a step is one of the two, by its number
pub list_numbered : (p : Problem) (step : ℕ) → (list : ℕ) × (list < 2) × (task_list p list ≡ task_list p step)
list_numbered p zero = (0, omega arith, refl)
list_numbered p (suc n) = (1, omega arith, refl)

shows_made : (p : Problem) (k : StepKind) → ShowsList p (tasks_in p k.list) (plan_of p k)
unfolding plan_of graph_of linked
shows_made p k = record { tasks = refl; slots = refl; reads = refl; writes = refl; many = refl }

pub shows_list : (p : Problem) (step : ℕ) (plan : Plan) → IsPlanFor p step plan → ShowsList p (task_list p step) plan
shows_list p step plan is =
    let at : tasks_in p is.kind.list ≡ task_list p step = ap (tasks_in p) is.list ∙ list_of p step in
    subst (λ (list : List Task). ShowsList p list plan) at (subst (λ (q : Plan). ShowsList p (tasks_in p is.kind.list) q) (sym is.made) (shows_made p is.kind))

-- The slot stands at this place: so the plan shows it, and has its content there.
pub record IsAt (p : Problem) (step : ℕ) (plan : Plan) (place : ℕ) (s : Slot) : Type 0 where
  pub stands : StandsAt p (task_list p step) place s
  pub shown : slice_get plan.slots place ≡ Some (shown_slot (task_list p step) s)
  pub content : slice_index_or (contents_of p step) place [] ≡ content_of p step s

stands_at : (p : Problem) (step : ℕ) (plan : Plan) → ShowsList p (task_list p step) plan → (place : ℕ) (s : Slot) → StandsAt p (task_list p step) place s → IsAt p step plan place s
unfolding contents_of
stands_at p step plan shows place s at = record {
  stands = at;
  shown =
      ap (λ (shown : List ShownSlot). slice_get shown place) shows.slots
      ∙ slice_get-map (shown_slot (task_list p step)) (slots_of p (task_list p step)) place ∙ ap (option_map (shown_slot (task_list p step))) at;
  content =
      get_or_from_slice_get (map (content_of p step) (slots_of p (task_list p step))) place (content_of p step s) []
      (slice_get-map (content_of p step) (slots_of p (task_list p step)) place ∙ ap (option_map (content_of p step)) at);
}

-- the slots that a detailed task reads, up to one of them and with it
pub next_taken : (p : Problem) (step : ℕ) (d : Detail) (k : ℕ) (s : Slot) → slice_get (slots_read p step d) k ≡ Some s →
    take (k + 1) (slots_read p step d) ≡ take k (slots_read p step d) ++ s ∷ []
next_taken p step d k s at =
    take_more (slots_read p step d) k s (slice_get_within (slots_read p step d) k s at)
    ∙ ap (λ (other : Slot). take k (slots_read p step d) ++ other ∷ []) (get_or_from_slice_get (slots_read p step d) k s s at)

module _ (p : Problem) (step : ℕ) (plan : Plan) (shows : ShowsList p (task_list p step) plan) where
  abbrev tasks : List Task
  tasks = task_list p step

  -- a number of a task is that of a detailed task
  pub task_there : (task : ℕ) → task < plan.graph.tasks → (d : Detail) × (slice_get (details_of p tasks) task ≡ Some d)
  task_there task below = there_at (details_of p tasks) task (let many = shows.many in omega (arith, below, many))

  pub task_within : (task : ℕ) (d : Detail) → slice_get (details_of p tasks) task ≡ Some d → task < plan.graph.tasks
  task_within task d at = let many = shows.many in omega (arith, many, slice_get_within (details_of p tasks) task d at)

  module _ (task : ℕ) (d : Detail) (at : slice_get (details_of p tasks) task ≡ Some d) where
    -- what the plan shows of it
    pub task_shown : slice_get plan.tasks task ≡ Some (shown_task d)
    task_shown =
        ap (λ (shown : List Shown). slice_get shown task) shows.tasks ∙ slice_get-map shown_task (details_of p tasks) task ∙ ap (option_map shown_task) at

    -- its reads and its writes
    pub reads_listed : slice_get plan.graph.reads task ≡ Some (places_of (reads p tasks d) (slots_of p tasks))
    reads_listed =
        ap (λ (lists : List (List ℕ)). slice_get lists task) shows.reads
        ∙ slice_get-map (λ (other : Detail). places_of (reads p tasks other) (slots_of p tasks)) (details_of p tasks) task
        ∙ ap (option_map (λ (other : Detail). places_of (reads p tasks other) (slots_of p tasks))) at

    pub writes_listed : slice_get plan.graph.writes task ≡ Some (places_of (is_writing tasks d) (slots_of p tasks))
    writes_listed =
        ap (λ (lists : List (List ℕ)). slice_get lists task) shows.writes
        ∙ slice_get-map (λ (other : Detail). places_of (is_writing tasks other) (slots_of p tasks)) (details_of p tasks) task
        ∙ ap (option_map (λ (other : Detail). places_of (is_writing tasks other) (slots_of p tasks))) at

    reads_are : reads_of plan.graph task ≡ places_of (reads p tasks d) (slots_of p tasks)
    reads_are = get_or_from_slice_get plan.graph.reads task (places_of (reads p tasks d) (slots_of p tasks)) [] reads_listed

    writes_are : writes_of plan.graph task ≡ places_of (is_writing tasks d) (slots_of p tasks)
    writes_are = get_or_from_slice_get plan.graph.writes task (places_of (is_writing tasks d) (slots_of p tasks)) [] writes_listed

    -- it has as many reads as slots that it reads
    pub reads_counted : length (reads_of plan.graph task) ≡ length (slots_read p step d)
    reads_counted = ap length reads_are ∙ places_counted (reads p tasks d) (slots_of p tasks)

    -- after so many it has gathered all of them
    pub all_taken : take (length (reads_of plan.graph task)) (slots_read p step d) ≡ slots_read p step d
    all_taken = take_all (length (reads_of plan.graph task)) (slots_read p step d) (omega (arith, reads_counted))

    -- and the slot of each
    pub read_stands : (k slot : ℕ) → slice_get (reads_of plan.graph task) k ≡ Some slot →
        (s : Slot) × (slice_get (slots_read p step d) k ≡ Some s) × IsAt p step plan slot s
    read_stands k slot is =
        let found = place_holds (reads p tasks d) (slots_of p tasks) k slot (ap (λ (places : List ℕ). slice_get places k) (sym reads_are) ∙ is) in
        (found.0, found.1, stands_at p step plan shows slot found.0 found.2)

    -- the slot of a read, as the plan shows it at the place that is found in the list of the task's reads
    pub read_shown : (found : List ℕ) → found ≡ get_or plan.graph.reads task found → (k : ℕ) → k < length (reads_of plan.graph task) →
        (s : Slot) × (slice_get (slots_read p step d) k ≡ Some s) × (slice_get plan.slots (get_or found k 0) ≡ Some (shown_slot tasks s))
    read_shown found is k below =
        let same : found ≡ reads_of plan.graph task =
        is ∙ get_or_from_slice_get plan.graph.reads task (places_of (reads p tasks d) (slots_of p tasks)) found reads_listed ∙ sym reads_are in
        let slot = there_at (reads_of plan.graph task) k below in
        let stands = read_stands k slot.0 slot.1 in
        let here : get_or found k 0 ≡ slot.0 = ap (λ (places : List ℕ). get_or places k 0) same ∙ get_or_from_slice_get (reads_of plan.graph task) k slot.0 0 slot.1 in
        (stands.0, stands.1, ap (slice_get plan.slots) here ∙ stands.2.shown)

    -- What it writes, where that stands in the order of its lines.
    module _ (in_order : WritesStandInOrder) (form : IsProblemInForm p) (accepted : IsAccepted p) where
      writes_ordered : StandInOrder p tasks (places_of (is_writing tasks d) (slots_of p tasks)) (written_by tasks d)
      writes_ordered =
          let one = list_numbered p step in
          subst (λ (of_list : List Task). slice_get (details_of p of_list) task ≡ Some d → StandInOrder p of_list (places_of (is_writing of_list d) (slots_of p of_list)) (written_by of_list d))
          one.2 (in_order p one.0 task d form accepted one.1) at

      pub writes_counted : length (writes_of plan.graph task) ≡ length (written_by tasks d)
      writes_counted = ap length writes_are ∙ writes_ordered.many

      pub write_stands : (k slot : ℕ) (s : Slot) → slice_get (writes_of plan.graph task) k ≡ Some slot → slice_get (written_by tasks d) k ≡ Some s →
          IsAt p step plan slot s
      write_stands k slot s is written =
          stands_at p step plan shows slot s (writes_ordered.each k slot s (ap (λ (places : List ℕ). slice_get places k) (sym writes_are) ∙ is) written)
