use Rattle.std.specs.List.{flat_map}
use Rattle.uts_geom.specs.Spans.{from_to, row_indexes}
use Rattle.refine_coarsen.proofs.Adding.{AreCombined}
use Rattle.refine_coarsen.proofs.folds.with_all.Given as goal

-- the planes so far are combined
abbrev pub invariant-loop-z : goal.invariant-loop-z
invariant-loop-z l =
    AreCombined l.fn.how l.w l.fn.before l.fn.s.lo.z l.fn.s.hi.z (λ z. flat_map (λ y. row_indexes l.fn.s y z) (from_to l.fn.s.lo.y l.fn.s.hi.y)) l.z l.all
