-- A graph whose lists and slots keep the rules can be linked.
use Rattle.graph_types.specs.declared.graph.Graph.{Graph}
use Rattle.graph_types.specs.Facts.{most_writers}
use Rattle.graph_types.specs.Graph.{AreSlotsValid}
use Rattle.graph_types.specs.Linked.{IsLinkable}
use Rattle.graph_types.specs.Parts.{HasLists}

pub linkable : (g : Graph) → HasLists g → AreSlotsValid g → IsLinkable g
linkable g lists slots = record {
  tasks = lists.limits.tasks;
  slots = lists.limits.slots;
  reads_count = lists.lengths.reads;
  writes_count = lists.lengths.writes;
  kept_count = lists.lengths.kept;
  reads = lists.reads;
  writes = lists.writes;
  once = most_writers g slots;
}
