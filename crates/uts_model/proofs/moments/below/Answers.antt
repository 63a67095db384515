use Rattle.uts_model.proofs.moments.below.Goals as goal

pub returns-clause-index : goal.returns-clause-index
returns-clause-index c = rw c.coarse_index-index.ensures at c.moved.ensures
