use Rattle.std.proofs.Common.{◌≡◌, arith}
use Rattle.slot_contents.specs.Contents.{contents_of}
use Rattle.slot_contents.specs.Values.{Fits}
use Rattle.task_tests.proofs.Found.{fitting_none, fitting_more}
use Rattle.task_tests.proofs.olds.old_numbers.Goals as goal

pub loop-k-init : goal.loop-k-init
loop-k-init c = record { fitting = rw c.new-values.ensures.items (fitting_none Fits (contents_of c.args.c.now c.args.step)) }

pub loop-k-preserved : goal.loop-k-preserved
loop-k-preserved c = record {
  fitting = rw c.in_ok-put.ensures
      (fitting_more Fits (contents_of c.args.c.now c.args.step) c.loop-k.k c.loop-k.values.items c.in-Some.value c.loop-k.invariant.fitting c.in-Some.ensures);
}

pub returns : goal.returns
returns c = let all : c.args.plan.now.graph.old ≡ c.loop-k.k = omega arith in rw all c.loop-k.invariant.fitting
