use Rattle.graph_types.proofs.Linkable.{linkable}
use Rattle.graph_types.proofs.order.are_tasks_ordered.Goals as goal

pub owners_of-requires : goal.owners_of-requires
owners_of-requires c = linkable c.args.g.now c.requires.lists c.requires.slots
