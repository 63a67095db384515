use Rattle.sched_core.proofs.SoundSteps.{keeps_sound}
use Rattle.sched_core.proofs.laws.each_kind_keeps_sound.Goals as goal

pub returns : goal.returns
returns c = keeps_sound
