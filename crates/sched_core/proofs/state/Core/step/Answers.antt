use Rattle.std.proofs.Common.{subst, sym}
use Rattle.sched_core.specs.Sound.{IsSound}
use Rattle.sched_core.specs.Step.{next_state}
use Rattle.sched_core.proofs.SoundSteps.{step_sound}
use Rattle.sched_core.proofs.state.Core.step.Goals as goal

pub returns-clause-sound : goal.returns-clause-sound
unfolding next_state
returns-clause-sound c = subst IsSound (sym c.step_by.ensures.state) (step_sound c.args.self.now c.args.event c.requires)
