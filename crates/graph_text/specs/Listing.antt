-- The listing of a problem's task graphs as text: for each plan a line of its own, one for each slot and one for each detailed task.
use Rattle.std.specs.Prelude.{ℕ, pos, true, List, [], ◌∷◌, ◌++◌, Option, None, Some, length, map, codes, decimal, slice_get, slice_index_or, if◌then◌else◌}
use Rattle.std.specs.List.{enumerate_from, flat_map, sum_by}
use Rattle.std.specs.Option.{option_map_or}
use Rattle.problem_types.specs.declared.problem.Problem.{Problem}
use Rattle.problem_types.specs.declared.problem.Task.{Task}
use Rattle.graph_types.specs.Graph.{is_kept, reads_of, writes_of}
use Rattle.graph_types.specs.declared.graph.Graph.{Graph}
use Rattle.graph_compiler.specs.Kinds.{tasks_in}
use Rattle.graph_compiler.specs.Plan.{plan_of}
use Rattle.graph_compiler.specs.Shown.{of_line}
use Rattle.graph_compiler.specs.declared.plan.Detail.{Detail}
use Rattle.graph_compiler.specs.declared.plan.ListKind.{ListKind}
use Rattle.graph_compiler.specs.declared.plan.ListKind.TheVariants.{Init, Timestep}
use Rattle.graph_compiler.specs.declared.plan.Plan.{Plan}
use Rattle.graph_compiler.specs.declared.plan.Slot.{Slot}
use Rattle.graph_compiler.specs.declared.plan.SlotKind.{SlotKind}
use Rattle.graph_compiler.specs.declared.plan.SlotKind.TheVariants as kind
use Rattle.graph_compiler.specs.declared.plan.StepKind.{StepKind}
use Rattle.uts_model.specs.Dump.{line, name_text, spaced_numbers}
use Rattle.graph_text.specs.Predecessors.{predecessors_of}

-- the word of a list of tasks, and that of a kind of slots
abbrev pub list_word : ListKind → List ℕ
list_word Init = codes "init"
list_word Timestep = codes "timestep"

abbrev pub kind_word : SlotKind → List ℕ
kind_word kind.Old = codes "old"
kind_word kind.New = codes "new"
kind_word kind.Part = codes "part"
kind_word kind.Number = codes "number"
kind_word kind.OldNumber = codes "oldnumber"

-- a number behind a label
abbrev pub labelled : (label : List ℕ) → (number : ℕ) → List ℕ
labelled label number = label ++ decimal number

-- tasks or slots by their numbers behind a label, each behind a space
abbrev pub labelled_all : (label : List ℕ) → (numbers : List ℕ) → List ℕ
labelled_all label numbers = label ++ spaced_numbers (map pos numbers)

-- ---- the line of a plan: its list, and how many detailed tasks, slots and reads it has

unfoldable pub plan_line : ListKind → Graph → List ℕ
plan_line list g = line (codes "plan " ++ list_word list ++ labelled (codes " tasks ") g.tasks ++ labelled (codes " slots ") g.slots
    ++ labelled (codes " reads ") (sum_by length g.reads))

-- ---- the line of a slot

-- what the slot holds
abbrev pub named_text : Problem → Slot → List ℕ
named_text p s = kind_word s.kind ++ codes " " ++ name_text p s.name

-- where it lies, and of which version it is
unfoldable pub placed_text : Slot → List ℕ
placed_text s = labelled (codes " material ") s.material ++ labelled (codes " level ") s.level ++ labelled (codes " patch ") s.patch
    ++ labelled (codes " version ") s.version

-- nothing, where it holds a whole reduction
abbrev pub place_text : SlotKind → Slot → List ℕ
place_text kind.Old s = placed_text s
place_text kind.New s = placed_text s
place_text kind.Part s = placed_text s
place_text kind.Number s = []
place_text kind.OldNumber s = []

-- the slot of this number: what it holds, where it lies, how many uses it has and whether it is kept
unfoldable pub slot_line : Problem → Graph → (number : ℕ) → Slot → List ℕ
slot_line p g number s = line (labelled (codes "slot ") number ++ codes " " ++ named_text p s ++ place_text s.kind s
    ++ labelled (codes " uses ") (slice_index_or g.uses number 0) ++ labelled (codes " kept ") (if is_kept g number then 1 else 0))

-- ---- the line of a detailed task

-- the name of the task at a place in its list
abbrev pub task_name : List Task → (place : ℕ) → ℕ
task_name tasks place = option_map_or (λ t. t.name) (slice_get tasks place) 0

-- a task where it runs
unfoldable pub running_text : Problem → List Task → Detail → List ℕ
running_text p tasks d = name_text p (task_name tasks d.task) ++ labelled (codes " level ") d.level ++ labelled (codes " material ") d.material
    ++ labelled (codes " patch ") d.patch

-- the reduction whose parts are combined, by the line of the task that reduces
unfoldable pub combining_text : Problem → List Task → Detail → (writes_line : ℕ) → List ℕ
combining_text p tasks d writes_line = codes "combine " ++ name_text p (of_line tasks d.task writes_line (λ w. w.name))

abbrev pub detail_text : Problem → List Task → Detail → Option ℕ → List ℕ
detail_text p tasks d None = running_text p tasks d
detail_text p tasks d (Some writes_line) = combining_text p tasks d writes_line

-- the detailed task of this number: what it is, the slots that it reads, those that it writes, and the tasks that it waits for
unfoldable pub task_line : Problem → ListKind → Graph → (number : ℕ) → Detail → List ℕ
task_line p list g number d = line (labelled (codes "task ") number ++ codes " " ++ detail_text p (tasks_in p list) d d.combine
    ++ labelled_all (codes " reads") (reads_of g number) ++ labelled_all (codes " writes") (writes_of g number)
    ++ labelled_all (codes " after") (predecessors_of g number))

-- ---- all lines

-- a line for each item, by its number
abbrev pub numbered : {A B : Type 0} → (ℕ → A → B) → List A → List B
numbered of items = map (λ item. of item.0 item.1) (enumerate_from 0 items)

-- the lines of a plan of a list: its own, those of its slots and those of its detailed tasks
unfoldable pub plan_lines : Problem → ListKind → Plan → List (List ℕ)
plan_lines p list plan =
    plan_line list plan.graph ∷ (numbered (slot_line p plan.graph) plan.slots ++ numbered (task_line p list plan.graph) plan.tasks)

-- the listing of the two plans of a problem
unfoldable pub lines_of_plans : Problem → (init timestep : Plan) → List (List ℕ)
lines_of_plans p init timestep =
    codes "graph 1\n" ∷ (plan_lines p Init init ++ plan_lines p Timestep timestep ++ codes "end\n" ∷ [])

-- the kind of a step of the list that another step follows and the dump shows
abbrev pub listed : ListKind → StepKind
listed list = record { list = list; next = true; dump = true }

-- The listing of a problem: that of the plans of both lists, each for a step that another one follows and the dump shows.
abbrev pub listing_lines : Problem → List (List ℕ)
listing_lines p = lines_of_plans p (plan_of p (listed Init)) (plan_of p (listed Timestep))

-- its bytes
abbrev pub listing_bytes : Problem → List ℕ
listing_bytes p = flat_map (λ bytes. bytes) (listing_lines p)
