use Rattle.std.proofs.Common.{◌≡◌, false}
use Rattle.std.specs.Prelude.{nat_lt}
use Rattle.std.specs.List.{list_any}
use Rattle.uts_geom.specs.Spans.{counted}
use Rattle.task_check.specs.Sizes.{gathered_on}
use Rattle.task_check.proofs.plan.gathered.is_patch_above.Given as goal

-- none so far
abbrev pub invariant-loop-patch : goal.invariant-loop-patch
invariant-loop-patch l = list_any (λ k. nat_lt l.limit (gathered_on l.p l.t l.level k)) (counted 0 l.patch) ≡ false
