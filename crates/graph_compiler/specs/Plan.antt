-- The plan of a list of tasks.
use Rattle.std.specs.Prelude.{ℕ, ◌==◌, Bool, true, false, ◌&&◌, List, [], filter, length, map, slice_get}
use Rattle.std.specs.List.{count_by, list_any}
use Rattle.std.specs.Option.{option_map_or}
use Rattle.uts_geom.specs.Spans.{counted}
use Rattle.problem_types.specs.declared.problem.Problem.{Problem}
use Rattle.problem_types.specs.declared.problem.Task.{Task}
use Rattle.graph_types.specs.declared.graph.Graph.{Graph}
use Rattle.task_check.specs.Plan.{Detail as DetailedTask, Slot as TaskSlot, Old, OldNumber, New, Part, Number, details_of, slots_of, written_by, reads as is_reading}
use Rattle.graph_compiler.specs.Kinds.{tasks_in}
use Rattle.graph_compiler.specs.Kept.{kept_slots}
use Rattle.graph_types.specs.Linked.{linked}
use Rattle.graph_compiler.specs.Shown.{shown_slot, shown_task}
use Rattle.graph_compiler.specs.declared.plan.Detail.{Detail}
use Rattle.graph_compiler.specs.declared.plan.Plan.{Plan}
use Rattle.graph_compiler.specs.declared.plan.Slot.{Slot}
use Rattle.graph_compiler.specs.declared.plan.StepKind.{StepKind}

-- both are the same slot
abbrev pub is_same : TaskSlot → TaskSlot → Bool
is_same (Old name level material patch) (Old n l m q) = (name == n) && ((level == l) && ((material == m) && (patch == q)))
is_same (OldNumber name) (OldNumber n) = name == n
is_same (New task line level material patch) (New t k l m q) = (task == t) && ((line == k) && ((level == l) && ((material == m) && (patch == q))))
is_same (Part task line level material patch) (Part t k l m q) = (task == t) && ((line == k) && ((level == l) && ((material == m) && (patch == q))))
is_same (Number task line) (Number t k) = (task == t) && (line == k)
is_same s other = false

-- the detailed task writes the slot
abbrev pub is_writing : List Task → DetailedTask → TaskSlot → Bool
is_writing tasks d s = list_any (is_same s) (written_by tasks d)

-- the slot holds how something stood at the end of the step before
abbrev pub is_old : TaskSlot → Bool
is_old (Old name level material patch) = true
is_old (OldNumber name) = true
is_old (New task line level material patch) = false
is_old (Part task line level material patch) = false
is_old (Number task line) = false

-- the places of the items that pass a test, ascending
abbrev pub places_of : {A : Type 0} → (A → Bool) → List A → List ℕ
places_of test items = filter (λ place. option_map_or test (slice_get items place) false) (counted 0 (length items))

-- the detailed tasks and the slots of a list as data
abbrev pub tasks_of_list : Problem → List Task → List Detail
tasks_of_list p tasks = map shown_task (details_of p tasks)

abbrev pub slots_of_list : Problem → List Task → List Slot
slots_of_list p tasks = map (shown_slot tasks) (slots_of p tasks)

-- for each detailed task of a list the places of the slots that it reads, and of those that it writes
abbrev pub reads_of_list : Problem → List Task → List (List ℕ)
reads_of_list p tasks = map (λ d. places_of (is_reading p tasks d) (slots_of p tasks)) (details_of p tasks)

abbrev pub writes_of_list : Problem → List Task → List (List ℕ)
writes_of_list p tasks = map (λ d. places_of (is_writing tasks d) (slots_of p tasks)) (details_of p tasks)

-- a graph of which it is told who reads and writes what, and what is kept
abbrev pub unlinked : (old : ℕ) → (reads writes : List (List ℕ)) → (kept : List Bool) → Graph
unlinked old reads writes kept = record {
  tasks = length reads;
  old = old;
  slots = length kept;
  reads = reads;
  writes = writes;
  successors = [];
  predecessors = [];
  uses = [];
  kept = kept;
}

-- the graph of a list of tasks, by the slots that are kept
unfoldable pub graph_of : Problem → List Task → (kept : List Bool) → Graph
graph_of p tasks kept = linked (record {
  tasks = length (details_of p tasks);
  old = count_by is_old (slots_of p tasks);
  slots = length (slots_of p tasks);
  reads = reads_of_list p tasks;
  writes = writes_of_list p tasks;
  successors = [];
  predecessors = [];
  uses = [];
  kept = kept;
})

-- the plan of a problem's list for a kind of steps
unfoldable pub plan_of : Problem → StepKind → Plan
plan_of p k = let tasks = tasks_in p k.list in record {
  graph = graph_of p tasks (kept_slots p k (slots_of_list p tasks));
  tasks = tasks_of_list p tasks;
  slots = slots_of_list p tasks;
}
