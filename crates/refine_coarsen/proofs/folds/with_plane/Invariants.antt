use Rattle.uts_geom.specs.Spans.{row_indexes}
use Rattle.refine_coarsen.proofs.Adding.{AreCombined}
use Rattle.refine_coarsen.proofs.folds.with_plane.Given as goal

-- the rows so far are combined
abbrev pub invariant-loop-y : goal.invariant-loop-y
invariant-loop-y l = AreCombined l.fn.how l.w l.fn.before l.fn.s.lo.y l.fn.s.hi.y (λ y. row_indexes l.fn.s y l.fn.z) l.y l.all
