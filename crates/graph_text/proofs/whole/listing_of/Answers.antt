use Rattle.std.proofs.Common.{rules}
use Rattle.std.proofs.lemmas.List.{append_assoc}
use Rattle.graph_text.specs.Listing.{lines_of_plans}
use Rattle.graph_text.proofs.whole.listing_of.Goals as goal

pub returns : goal.returns
unfolding lines_of_plans
returns c = search (rules, append_assoc)
