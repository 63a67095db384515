use Rattle.std.proofs.lemmas.List.Elements.{All-contains_itself}
use Rattle.task_check.proofs.plan.gathered.gathers_above.Goals as goal

pub is_any_above-requires-clause-levels : goal.is_any_above-requires-clause-levels
is_any_above-requires-clause-levels c = rw c.as_slice.ensures (All-contains_itself c.args.t.now.levels)
