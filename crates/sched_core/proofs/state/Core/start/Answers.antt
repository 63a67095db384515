use Rattle.sched_core.proofs.StartSound.{sound_at_start}
use Rattle.sched_core.proofs.state.Core.start.Goals as goal

pub returns-clause-sound : goal.returns-clause-sound
returns-clause-sound c = sound_at_start c.in_ok-core.core c.args.graph c.args.seats c.in_ok-core.ensures c.requires.valid c.requires.some_seat c.requires.few_seats
