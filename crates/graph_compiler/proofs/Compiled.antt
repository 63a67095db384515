-- What the parts of a plan make together.
use Rattle.std.proofs.Common.{◌≡◌, ◌∙◌, ◌<◌, ◌≤◌, ◌+◌, ◌*◌, ℕ, List, ◌++◌, Bool, length, get_or, map, ap, sym, refl, subst, arith, length-append}
use Rattle.std.specs.Prelude.{All, filter}
use Rattle.std.specs.List.{flat_map}
use Rattle.std.proofs.lemmas.List.{length-map, map-append}
use Rattle.std.proofs.lemmas.Option.{slice_get-get_or}
use Rattle.uts_geom.specs.Lists.{placed}
use Rattle.problem_types.specs.Form.{IsProblemInForm, IsShort}
use Rattle.problem_types.specs.Lists.{task_list}
use Rattle.problem_types.specs.declared.problem.Problem.{Problem}
use Rattle.problem_types.specs.declared.problem.Task.{Task}
use Rattle.graph_types.specs.declared.graph.Graph.{Graph}
use Rattle.graph_types.specs.Facts.{most_writers}
use Rattle.graph_types.specs.Graph.{IsValid}
use Rattle.graph_types.specs.Linked.{IsLinkable, linked}
use Rattle.task_check.specs.Bounds.{AreBoundedTasks, IsBounded}
use Rattle.task_check.specs.First.{IsAccepted}
use Rattle.task_check.specs.Plan.{Slot as TaskSlot, details_of, is_read, old_numbers, old_variables, slots_of, written_by}
use Rattle.graph_compiler.specs.Kept.{kept_slots}
use Rattle.graph_compiler.specs.Kinds.{list_number, tasks_in}
use Rattle.graph_compiler.specs.Layouts.{AreLaidOut}
use Rattle.graph_compiler.specs.Places.{AreOldSlots}
use Rattle.graph_compiler.specs.Plan.{graph_of, plan_of, reads_of_list, slots_of_list, tasks_of_list, unlinked, writes_of_list}
use Rattle.graph_compiler.specs.Shown.{shown_slot}
use Rattle.graph_compiler.specs.declared.old_slots.OldSlots.{OldSlots}
use Rattle.graph_compiler.specs.declared.plan.Detail.{Detail}
use Rattle.graph_compiler.specs.declared.layout.Layout.{Layout}
use Rattle.graph_compiler.specs.declared.plan.ListKind.{ListKind}
use Rattle.graph_compiler.specs.declared.plan.ListKind.TheVariants as list
use Rattle.graph_compiler.specs.declared.plan.Plan.{Plan}
use Rattle.graph_compiler.specs.declared.plan.Slot.{Slot}
use Rattle.graph_compiler.specs.declared.plan.StepKind.{StepKind}
use Rattle.graph_compiler.proofs.ValidPlans.{each_kept, old_count_is, plans_valid}

pub list_is : (p : Problem) (l : ListKind) → tasks_in p l ≡ task_list p (list_number l)
list_is p list.Init = refl
list_is p list.Timestep = refl

pub of_two : (l : ListKind) → list_number l < 2
of_two list.Init = omega arith
of_two list.Timestep = omega arith

pub bounded_tasks : (p : Problem) (l : ListKind) → IsBounded p → AreBoundedTasks p (tasks_in p l)
bounded_tasks p list.Init bounded = bounded.init
bounded_tasks p list.Timestep bounded = bounded.timestep

pub short_lines : (p : Problem) (tasks : List Task) → AreBoundedTasks p tasks → All (λ t. IsShort t.writes) tasks
short_lines p tasks bounded = λ k d below. (let few = (bounded.tasks k d below).few_lines in omega (arith, few))

-- what a valid graph is linked from
of_linked : (g : Graph) → IsValid (linked g) → IsLinkable g
unfolding linked
of_linked g valid = record {
  tasks = valid.limits.tasks;
  slots = valid.limits.slots;
  reads_count = valid.lengths.reads;
  writes_count = valid.lengths.writes;
  kept_count = valid.lengths.kept;
  reads = valid.reads;
  writes = valid.writes;
  once = most_writers (linked g) valid.slots;
}

-- how many old slots the tasks read
abbrev pub olds_count : Problem → List Task → ℕ
olds_count p tasks = length (filter (is_read p tasks) (old_variables p ++ old_numbers p))

-- the graph of a plan, from what is read, written and kept
module _ (p : Problem) (k : StepKind) (form : IsProblemInForm p) (accepted : IsAccepted p) where
  abbrev tasks : List Task
  tasks = tasks_in p k.list

  abbrev kept : List Bool
  kept = kept_slots p k (slots_of_list p tasks)

  abbrev olds : ℕ
  olds = olds_count p tasks

  plan_is : plan_of p k ≡ record { graph = graph_of p tasks kept; tasks = tasks_of_list p tasks; slots = slots_of_list p tasks }
  unfolding plan_of
  plan_is = refl

  graph : IsValid (graph_of p tasks kept)
  graph = subst (λ (plan : Plan). IsValid plan.graph) plan_is (plans_valid p k form accepted)

  -- the linked graph is that of the plan
  pub links : linked (unlinked olds (reads_of_list p tasks) (writes_of_list p tasks) kept) ≡ graph_of p tasks kept
  unfolding graph_of
  links =
      ap (λ (n : ℕ). linked (record (unlinked olds (reads_of_list p tasks) (writes_of_list p tasks) kept) { tasks = n })) (length-map (details_of p tasks) _)
      ∙ ap (λ (n : ℕ). linked (record (unlinked olds (reads_of_list p tasks) (writes_of_list p tasks) kept) { tasks = length (details_of p tasks); slots = n })) (each_kept p tasks k)
      ∙ ap (λ (n : ℕ). linked (record (unlinked olds (reads_of_list p tasks) (writes_of_list p tasks) kept) { tasks = length (details_of p tasks); slots = length (slots_of p tasks); old = n }))
      (sym (old_count_is p tasks))

  pub linkable : IsLinkable (unlinked olds (reads_of_list p tasks) (writes_of_list p tasks) kept)
  linkable = of_linked (unlinked olds (reads_of_list p tasks) (writes_of_list p tasks) kept) (subst IsValid (sym links) graph)

  pub few_slots : length (slots_of p tasks) ≤ 262144
  few_slots = let few = linkable.slots in omega (arith, few, each_kept p tasks k)

  pub plan_from : (g : Graph) (details : List Detail) (slots : List Slot) → g ≡ linked (unlinked olds (reads_of_list p tasks) (writes_of_list p tasks) kept)
      → details ≡ tasks_of_list p tasks → slots ≡ slots_of_list p tasks → (record { graph = g; tasks = details; slots = slots }) ≡ plan_of p k
  unfolding plan_of
  plan_from g details slots is_graph are_details are_slots =
      ap (λ (h : Graph). record { graph = h; tasks = details; slots = slots }) (is_graph ∙ links)
      ∙ ap (λ (ds : List Detail). record { graph = graph_of p tasks kept; tasks = ds; slots = slots }) are_details
      ∙ ap (λ (ss : List Slot). record { graph = graph_of p tasks kept; tasks = tasks_of_list p tasks; slots = ss }) are_slots

-- what is known of the tasks of a list
pub record IsCompiled (p : Problem) (k : StepKind) (tasks : List Task) : Type 0 where
  pub form : IsProblemInForm p
  pub accepted : IsAccepted p
  pub listed : tasks ≡ tasks_in p k.list
  pub bounded : AreBoundedTasks p tasks
  pub short : All (λ t. IsShort t.writes) tasks
  pub few_slots : length (slots_of p tasks) ≤ 262144
  pub list : (list : ℕ) × (list < 2) × (tasks ≡ task_list p list)
  pub linkable : IsLinkable (unlinked (olds_count p tasks) (reads_of_list p tasks) (writes_of_list p tasks) (kept_slots p k (slots_of_list p tasks)))
  pub plan : (g : Graph) (details : List Detail) (slots : List Slot)
      → g ≡ linked (unlinked (olds_count p tasks) (reads_of_list p tasks) (writes_of_list p tasks) (kept_slots p k (slots_of_list p tasks)))
      → details ≡ tasks_of_list p tasks → slots ≡ slots_of_list p tasks → (record { graph = g; tasks = details; slots = slots }) ≡ plan_of p k

pub is_compiled : (p : Problem) (k : StepKind) (tasks : List Task) → IsProblemInForm p → IsAccepted p → IsBounded p → tasks ≡ tasks_in p k.list → IsCompiled p k tasks
is_compiled p k tasks form accepted limits is = subst (IsCompiled p k) (sym is) (record {
  form = form;
  accepted = accepted;
  listed = refl;
  bounded = bounded_tasks p k.list limits;
  short = short_lines p (tasks_in p k.list) (bounded_tasks p k.list limits);
  few_slots = few_slots p k form accepted;
  list = (list_number k.list, of_two k.list, list_is p k.list);
  linkable = linkable p k form accepted;
  plan = plan_from p k form accepted;
})

-- the old slots of the list, once they are found
module _ (p : Problem) (k : StepKind) (tasks : List Task) (compiled : IsCompiled p k tasks) (old : OldSlots) (before : AreOldSlots p (tasks_in p k.list) old) where
  abbrev read_before : List TaskSlot
  read_before = filter (is_read p tasks) (old_variables p ++ old_numbers p)

  abbrev written : List TaskSlot
  written = flat_map (written_by tasks) (details_of p tasks)

  -- they are those of its tasks, and few
  pub old_found : AreOldSlots p tasks old
  old_found = subst (λ (ts : List Task). AreOldSlots p ts old) (sym compiled.listed) before

  pub old_counted : length old.slots ≡ olds_count p tasks
  old_counted = ap length old_found.slots ∙ length-map read_before (shown_slot tasks)

  pub few_olds : length old.slots ≤ 262144
  few_olds = omega (arith, old_counted, compiled.few_slots, length-append read_before written)

  -- with what is written behind them they are all slots of the list
  pub slots_found : (slots : List Slot) → slots ≡ old.slots ++ map (shown_slot tasks) written → slots ≡ slots_of_list p tasks
  slots_found slots grown =
      grown ∙ ap (λ (xs : List Slot). xs ++ map (shown_slot tasks) written) old_found.slots ∙ sym (map-append (shown_slot tasks) read_before written)

  -- the graph is that of the list, by who reads and writes what and what is kept
  pub same_unlinked : {layouts seen : List Layout} {slots shown : List Slot} {count : ℕ} {reads writes : List (List ℕ)} {kept : List Bool}
      → AreLaidOut p tasks layouts → seen ≡ layouts → slots ≡ old.slots ++ map (shown_slot tasks) written → shown ≡ slots → count ≡ length old.slots
      → reads ≡ reads_of_list p tasks
      → ((q : Problem) (ts : List Task) → IsProblemInForm q → IsAccepted q → AreBoundedTasks q ts → (list : ℕ) → list < 2 → ts ≡ task_list q list
      → AreLaidOut q ts seen → writes ≡ writes_of_list q ts)
      → kept ≡ kept_slots p k shown
      → unlinked count reads writes kept ≡ unlinked (olds_count p tasks) (reads_of_list p tasks) (writes_of_list p tasks) (kept_slots p k (slots_of_list p tasks))
  same_unlinked {layouts} {seen} {slots} {shown} {count} {reads} {writes} {kept} laid seen_is grown shown_is counted reads_are writes_are kept_are =
      ap (λ (n : ℕ). unlinked n reads writes kept) (counted ∙ old_counted)
      ∙ ap (λ (xs : List (List ℕ)). unlinked (olds_count p tasks) xs writes kept) reads_are
      ∙ ap (λ (xs : List (List ℕ)). unlinked (olds_count p tasks) (reads_of_list p tasks) xs kept)
      (writes_are p tasks compiled.form compiled.accepted compiled.bounded compiled.list.0 compiled.list.1 compiled.list.2 (subst (AreLaidOut p tasks) (sym seen_is) laid))
      ∙ ap (λ (xs : List Bool). unlinked (olds_count p tasks) (reads_of_list p tasks) (writes_of_list p tasks) xs)
      (kept_are ∙ ap (kept_slots p k) (shown_is ∙ slots_found slots grown))

-- the slots of each layout are few
pub are_few : (p : Problem) (tasks : List Task) (layouts : List Layout) → AreLaidOut p tasks layouts
    → All (λ layout. layout.first + (layout.parts * layout.lines + layout.numbers) ≤ 262144) layouts
are_few p tasks layouts laid = λ place d below.
    let t = placed tasks place (omega (arith, laid.count)) in
    (laid.each place t.0 (get_or layouts place d) t.1 (slice_get-get_or layouts place d below)).few
