use Rattle.std.proofs.Common.{refl}
use Rattle.model_tests.proofs.dumps.put_step.Goals as goal

pub dump_step-requires-clause-has : goal.dump_step-requires-clause-has
dump_step-requires-clause-has g c = λ k d below. record {
  variable = λ declared i f within j at inside. refl;
  reduction = λ other. refl;
}
