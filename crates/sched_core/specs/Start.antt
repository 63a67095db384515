-- The core at the start of a step.
use Rattle.std.specs.Prelude.{ℕ, ◌+◌, ◌-◌, ◌==◌, true, false, List, ◌∷◌, ◌++◌, map, length, filter, replicate, slice_index}
use Rattle.graph_types.specs.declared.graph.Graph.{Graph}
use Rattle.graph_types.specs.Graph.{tasks_of}
use Rattle.sched_core.specs.declared.view.View.TheVariants.{Unmade, Idle}
use Rattle.sched_core.specs.declared.state.Core.{Core}

-- the tasks that wait for no other, ascending
abbrev pub first_tasks : Graph → List ℕ
first_tasks g = filter (λ task. slice_index g.predecessors task == 0) (tasks_of g)

-- as the ring holds them
abbrev pub first_words : Graph → List ℕ
first_words g = map (λ task. task + 1) (first_tasks g)

-- The first tasks stand in the ring from its first place on. Old slots alone have their values. One seat is made.
abbrev pub start : Graph → (seats : ℕ) → Core
start g seats =
    record {
      graph = g;
      head = 0;
      tail = length (first_words g);
      ring = first_words g ++ replicate (g.tasks - length (first_words g)) 0;
      dep = g.predecessors;
      published = replicate g.tasks 0;
      left = g.uses;
      turn = replicate g.slots 0;
      done = 0;
      abort = 0;
      home = replicate g.old true ++ replicate (g.slots - g.old) false;
      views = Idle ∷ replicate (seats - 1) Unmade;
    }
