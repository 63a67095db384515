use Rattle.sched_core.proofs.SoundSteps.{steps_sound}
use Rattle.sched_core.proofs.laws.steps_keep_sound.Goals as goal

pub returns : goal.returns
returns c = steps_sound
