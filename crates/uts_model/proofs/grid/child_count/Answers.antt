use Rattle.std.proofs.Common.{◌≡◌, ap, length, arith}
use Rattle.std.proofs.lemmas.Int.{ints}
use Rattle.problem_types.specs.Regions.{children_of}
use Rattle.uts_model.proofs.Indexes.{few_indexes}
use Rattle.uts_model.proofs.grid.child_count.Goals as goal

pub overflow_cast-result : goal.overflow_cast-result
overflow_cast-result c =
    let few = few_indexes c.children.result c.children.ensures.near in
    omega (arith, ints, few, c.volume.ensures)

pub returns : goal.returns
returns c =
    let few = few_indexes c.children.result c.children.ensures.near in
    let same : c.volume.result ≡ length (children_of c.args.problem.now c.args.level c.args.c c.args.i) = cc (c.volume.ensures, ap length c.children.ensures.children) in
    omega (arith, ints, few, c.volume.ensures, same)
