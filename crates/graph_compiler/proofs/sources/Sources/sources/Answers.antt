use Rattle.std.proofs.Common.{◌≡◌, ◌<◌, List, length, ap, arith}
use Rattle.problem_types.specs.declared.problem.Require.{Require}
use Rattle.graph_compiler.proofs.Joining.{so_far_more}
use Rattle.graph_compiler.proofs.sources.Sources.sources.Goals as goal

pub loop-r-preserved : goal.loop-r-preserved
loop-r-preserved c =
    let s = c.args.self.now in
    let same : c.as_slice-r-items.result.now ≡ c.args.t.now.requirements = c.as_slice-r-items.ensures in
    let below : c.loop-r.r-index < length c.args.t.now.requirements = omega (arith, c.loop-r-test.true, ap (λ (rs : List Require). length rs) same) in
    so_far_more s.problem.now s.tasks.now c.args.task c.args.t.now c.args.level c.args.material c.args.t.now.requirements c.as_slice-r-items.result.now c.loop-r.r-index _
    c.args.searches.now.made c.loop-r.searches.made c.source.new.searches.made s.old.now.variables.items c.loop-r.sources c.put_found.new.sources c.in_ok-found.found
    c.as_slice-r-items.ensures below c.loop-r.invariant c.in_ok-found.ensures.searched c.in_ok-found.ensures.more c.in_ok-found.ensures.source c.in_ok-put_found.ensures
