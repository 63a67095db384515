use Rattle.std.proofs.Common.{◌≡◌, ◌∙◌, ◌<◌, ℕ, ap, sym, arith, length}
use Rattle.std.specs.Prelude.{nat_lt, slice_get}
use Rattle.std.specs.List.{list_any}
use Rattle.std.specs.Option.{option_map_or}
use Rattle.std.proofs.lemmas.Bool.{lt-ltb}
use Rattle.uts_geom.specs.Spans.{counted}
use Rattle.problem_types.specs.declared.problem.Level.{Level}
use Rattle.task_check.specs.Sizes.{gathered_on}
use Rattle.task_check.proofs.Details.{length-patches_of}
use Rattle.task_check.proofs.Tests.{any-counted_at}
use Rattle.task_check.proofs.plan.gathered.is_patch_above.Goals as goal

pub returns-then-limit-gathered_on : goal.returns-then-limit-gathered_on
returns-then-limit-gathered_on c =
    let p = c.args.p.now in
    let many : ℕ = option_map_or (λ (l : Level). length l.patches) (slice_get p.levels c.args.level) 0 in
    let here : c.args.limit < gathered_on p c.args.t.now c.args.level c.loop-patch.patch = rw c.gathered_on.ensures at c.if-limit-gathered_on.true in
    sym (any-counted_at (λ k. nat_lt c.args.limit (gathered_on p c.args.t.now c.args.level k)) many c.loop-patch.patch
    (omega (arith, length-patches_of p c.args.level, c.patch_count-patch-end.ensures.count, c.loop-patch-test.true))
    (lt-ltb c.args.limit (gathered_on p c.args.t.now c.args.level c.loop-patch.patch) here))

pub returns : goal.returns
returns c =
    let p = c.args.p.now in
    let many : c.loop-patch.patch ≡ option_map_or (λ (l : Level). length l.patches) (slice_get p.levels c.args.level) 0 =
    omega (arith, length-patches_of p c.args.level, c.patch_count-patch-end.ensures.count, c.loop-patch-test.false, c.loop-patch.auto.patch-end) in
    sym c.loop-patch.invariant ∙ ap (λ (n : ℕ). list_any (λ k. nat_lt c.args.limit (gathered_on p c.args.t.now c.args.level k)) (counted 0 n)) many
