use Rattle.sched_core.proofs.SoundSteps.{reached_sound}
use Rattle.sched_core.proofs.laws.reached_are_sound.Goals as goal

pub returns : goal.returns
returns c = reached_sound
