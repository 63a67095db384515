use Rattle.std.proofs.Common.{◌∙◌, ◌<◌, ℕ, ap, length, subst, sym}
use Rattle.std.specs.List.{count_by}
use Rattle.uts_geom.specs.Spans.{counted, do_meet}
use Rattle.patch_regions.specs.Regions.{owned_span}
use Rattle.task_check.proofs.Columns.{meets_itself, meets_none}
use Rattle.task_check.proofs.Sums.{count-none}
use Rattle.task_check.proofs.plan.columns.Columns.touched.Goals as goal

pub returns-then-do_meet-clause-count : goal.returns-then-do_meet-clause-count
returns-then-do_meet-clause-count c = λ centring l owned.
    c.from.ensures
    ∙ c.met.ensures.count (owned_span centring l) c.args.s (λ place below. owned.spans place (subst (λ (n : ℕ). place < n) owned.count below))
    c.window_of.ensures (sym (meets_itself c.args.s) ∙ sym c.do_meet.ensures ∙ c.if-do_meet.true)
    ∙ ap (λ (n : ℕ). count_by (λ other. do_meet (owned_span centring l other) c.args.s) (counted 0 n)) owned.count

pub returns-else-do_meet-clause-count : goal.returns-else-do_meet-clause-count
returns-else-do_meet-clause-count c = λ centring l owned.
    sym (count-none (λ other. do_meet (owned_span centring l other) c.args.s) (counted 0 (length l.patches))
    (λ k other at. meets_none (owned_span centring l other) c.args.s (sym (meets_itself c.args.s) ∙ sym c.do_meet.ensures ∙ c.if-do_meet.false)))
