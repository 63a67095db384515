use Rattle.std.proofs.Common.{◌≡◌, ◌∙◌, ◌++◌, ◌∷◌, [], ℕ, List, map, ap, sym, arith}
use Rattle.std.specs.Prelude.{slice_get}
use Rattle.uts_geom.specs.Spans.{counted}
use Rattle.uts_geom.specs.declared.span.Span.{Span}
use Rattle.patch_regions.specs.Regions.{touching_patches}
use Rattle.task_check.specs.Reaches.{reach_window}
use Rattle.graph_compiler.proofs.Searching.{is_searched, map_number}
use Rattle.graph_compiler.proofs.touched.search.Goals as goal

pub touching-requires : goal.touching-requires
touching-requires c = (c.requires.limits.levels c.reached_level.result c.level_at-wanted.result.now c.level_at-wanted.ensures).limits

pub loop-patch-preserved : goal.loop-patch-preserved
loop-patch-preserved c = λ on at.
    let wanted = c.level_at-wanted.result.now in
    let f = λ (patch : ℕ). touching_patches c.args.centring wanted (reach_window c.args.p.now c.args.reach c.args.centring c.args.level on patch) in
    c.in_ok-push.ensures.ok
    ∙ ap (λ (xs : List (List ℕ)). xs ++ c.from_vec.result ∷ []) (c.loop-patch.invariant on at)
    ∙ ap (λ (xs : List ℕ). map f (counted 0 c.loop-patch.patch) ++ xs ∷ []) (
    c.from_vec.ensures ∙ c.in_ok-touched.ensures ∙ ap (λ (w : Span). touching_patches c.args.centring wanted w) (c.reach_window-window.ensures on at))
    ∙ sym (map_number f c.loop-patch.patch)

pub returns-clause-searched : goal.returns-clause-searched
returns-clause-searched c =
    let end : c.loop-patch.patch ≡ c.patch_count-patch-end.result = omega (arith, c.loop-patch.auto.patch-end, c.loop-patch-test.false) in
    let wanted = c.level_at-wanted.result.now in
    is_searched c.args.p.now c.args.level c.args.reach c.args.centring wanted (ap (slice_get c.args.p.now.levels) (sym c.reached_level.ensures) ∙ c.level_at-wanted.ensures) c.loop-patch.patch
    (c.patch_count-patch-end.ensures.patches ∙ ap (counted 0) (sym end)) c.loop-patch.patches c.loop-patch.invariant
