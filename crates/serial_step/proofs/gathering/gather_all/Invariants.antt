use Rattle.serial_step.proofs.gathering.gather_all.Given as goal

-- the reads before this one are gathered
abbrev pub invariant-loop-k : goal.invariant-loop-k
invariant-loop-k g l = g.J.Job.filled l.job l.task l.k l.work
