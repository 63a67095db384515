use Rattle.std.proofs.Common.{[], ◌∷◌, if◌then◌else◌, arith}
use Rattle.problem_types.specs.Lists.{is_reduces}
use Rattle.plain_engine.specs.Moments.{line_number_at}
use Rattle.plain_engine.proofs.Lists.{flat_map-take}
use Rattle.plain_engine.proofs.numbers.written_numbers.Goals as goal

pub loop-write-preserved : goal.loop-write-preserved
loop-write-preserved c =
    flat_map-take (λ w. if is_reduces w.kind then line_number_at c.args.moment.now c.args.task.now w ∷ [] else []) _ _
    c.as_slice-write-items.result.now c.loop-write.write-index c.write-item.result (omega arith) c.write-item.is
    c.loop-write.invariant c.in_ok-push_number.ensures
