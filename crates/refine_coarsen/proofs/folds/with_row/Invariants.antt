use Rattle.std.proofs.Common.{[], ◌∷◌}
use Rattle.uts_geom.specs.Spans.{index}
use Rattle.refine_coarsen.proofs.Adding.{AreCombined}
use Rattle.refine_coarsen.proofs.folds.with_row.Given as goal

-- the indexes so far are combined
abbrev pub invariant-loop-x : goal.invariant-loop-x
invariant-loop-x l = AreCombined l.fn.how l.w l.fn.before l.fn.s.lo.x l.fn.s.hi.x (λ x. index x l.fn.y l.fn.z ∷ []) l.x l.all
