-- What follows in a graph from who reads and writes what, and from what is kept.
use Rattle.std.specs.Prelude.{◌≡◌, ℕ, ◌+◌, ◌<◌, ◌≤◌, cond, List, All, filter, length, map}
use Rattle.std.specs.List.{count_by, range_with_len}
use Rattle.graph_types.specs.Graph.{IsSlotList, follows, is_kept, readers, tasks_of, writers}
use Rattle.graph_types.specs.declared.graph.Graph.{Graph}

-- for each task those that read a slot which it writes
abbrev pub all_successors : Graph → List (List ℕ)
all_successors g = map (λ task. filter (follows g task) (tasks_of g)) (tasks_of g)

-- for each task how many it follows
abbrev pub all_predecessors : Graph → List ℕ
all_predecessors g = map (λ task. count_by (λ first. follows g first task) (tasks_of g)) (tasks_of g)

-- for each slot how many tasks read it, how many write it, and 1 more where it is kept
abbrev pub all_uses : Graph → List ℕ
all_uses g = map (λ slot. readers g slot + (writers g slot + cond (is_kept g slot) 1 0)) (range_with_len 0 g.slots)

-- the graph with the successors, predecessors and uses that follow from the rest of it
unfoldable pub linked : Graph → Graph
linked g = record g { successors = all_successors g; predecessors = all_predecessors g; uses = all_uses g }

-- the lists of who reads, who writes and what is kept are those of a graph, and no slot is written twice
pub record IsLinkable (g : Graph) : Type 0 where
  pub tasks : g.tasks ≤ 65536
  pub slots : g.slots ≤ 262144
  pub reads_count : length g.reads ≡ g.tasks
  pub writes_count : length g.writes ≡ g.tasks
  pub kept_count : length g.kept ≡ g.slots
  pub reads : All (IsSlotList g.slots) g.reads
  pub writes : All (IsSlotList g.slots) g.writes
  pub once : (slot : ℕ) → slot < g.slots → writers g slot ≤ 1
