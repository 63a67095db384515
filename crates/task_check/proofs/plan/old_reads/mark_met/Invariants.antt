use Rattle.uts_geom.specs.Spans.{do_meet}
use Rattle.patch_regions.specs.Regions.{owned_span}
use Rattle.task_check.proofs.Marks.{AreMarkedBefore}
use Rattle.task_check.proofs.plan.old_reads.mark_met.Given as goal

abbrev pub invariant-loop-patch : goal.invariant-loop-patch
invariant-loop-patch l = AreMarkedBefore l.initial.marks l.marks l.patch (λ patch. do_meet (owned_span l.c l.l patch) l.window)
