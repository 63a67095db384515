use Rattle.graph_types.proofs.Linking.{is_linked}
use Rattle.graph_types.proofs.links.linked.Goals as goal

pub returns : goal.returns
returns c = is_linked c.args.g c.in_ok-links.links.successors c.in_ok-links.links.predecessors c.in_ok-uses.uses c.in_ok-links.ensures.successors
    c.in_ok-links.ensures.predecessors c.in_ok-uses.ensures
