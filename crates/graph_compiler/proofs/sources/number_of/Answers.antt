use Rattle.graph_compiler.proofs.Asked.{no_number_among, number_among}
use Rattle.graph_compiler.proofs.sources.number_of.Goals as goal

pub returns-in-Some : goal.returns-in-Some
returns-in-Some c =
    number_among c.args.t.now.writes c.as_slice-writes.result.now c.args.name c.in-Some.line c.reduces_count.result c.as_slice-writes.ensures c.in-Some.ensures
    c.reduces_count.ensures.count

pub returns-in-None : goal.returns-in-None
returns-in-None c = no_number_among c.args.t.now.writes c.as_slice-writes.result.now c.args.name c.as_slice-writes.ensures c.in-None.ensures
