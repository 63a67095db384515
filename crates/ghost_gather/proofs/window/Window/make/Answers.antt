use Rattle.std.proofs.Common.{◌∙◌, ◌≤◌, ◌^◌, ℕ, ℤ, length, arith, refl, ap, sym, subst, w64, FitsSigned}
use Rattle.std.proofs.lemmas.Int.{to_z-of_z}
use Rattle.uts_geom.specs.declared.index.Index.{Index}
use Rattle.uts_geom.specs.declared.span.Span.{Span}
use Rattle.uts_geom.specs.Spans.{is_inside, indexes_of, meet_of, IsNearSpan}
use Rattle.uts_geom.specs.Near.{meet_near}
use Rattle.field_box.specs.Fields.{IsField}
use Rattle.ghost_gather.specs.Storing.{IsStored}
use Rattle.ghost_gather.specs.Windows.{IsWindow}
use Rattle.ghost_gather.proofs.Seen.{all_blank}
use Rattle.ghost_gather.proofs.window.Window.make.Goals as goal
use Rattle.ghost_gather.proofs.window.Window.make.Goals.{In_ok-stored}

common_stored : (c : In_ok-stored) → IsStored c.args.span c.args.space (meet_of c.args.span c.args.space)
common_stored c = record {
  near = c.requires.span_near;
  near_space = c.requires.space_near;
  corners = refl;
  inside = λ i. ap (λ (s : Span). is_inside s i) (sym c.meet-common.ensures.corners) ∙ c.meet-common.ensures.common i;
}

pub filled-requires-clause-near : goal.filled-requires-clause-near
filled-requires-clause-near c =
    subst (λ (s : Span). IsNearSpan s) (sym c.meet-common.ensures.corners) (meet_near c.args.span c.args.space c.requires.span_near c.requires.space_near)

few_more : (n : ℕ) → n ≤ 2 ^ 21 → n ≤ 2 ^ 24
few_more n few = omega arith

pub filled-requires-clause-few : goal.filled-requires-clause-few
filled-requires-clause-few c =
    subst (λ (s : Span). length (indexes_of s) ≤ 2 ^ 24) (sym c.meet-common.ensures.corners) (few_more (length (indexes_of (meet_of c.args.span c.args.space))) c.requires.few)

pub invariant_of-result : goal.invariant_of-result
invariant_of-result c =
    subst (λ (s : Span). IsStored c.args.span c.args.space s) (sym (c.in_ok-stored.ensures.span ∙ c.meet-common.ensures.corners)) (common_stored c)

pub returns : goal.returns
returns c =
    let fits : FitsSigned w64 c.args.outside = c.ranges.outside in
    let stored = c.in_ok-stored.stored in
    let filled : IsField c.meet-common.result (λ (i : Index). c.args.outside) stored =
    subst (λ (n : ℤ). IsField c.meet-common.result (λ (i : Index). n) stored) (to_z-of_z w64 c.args.outside fits) c.in_ok-stored.ensures in
    subst (λ (n : ℤ). IsWindow c.args.span c.args.space c.args.outside (λ (i : Index). c.args.outside)
    (record { span = c.args.span; space = c.args.space; outside = n; stored = stored })) (sym (to_z-of_z w64 c.args.outside fits))
    (all_blank c.args.span c.args.space c.args.outside stored (common_stored c)
    (subst (λ (s : Span). IsField s (λ (i : Index). c.args.outside) stored) c.meet-common.ensures.corners filled))
