use Rattle.std.proofs.Common.{◌≡◌, ◌∙◌, ap, sym, subst, w64, FitsSigned}
use Rattle.std.specs.Prelude.{nat_abs}
use Rattle.std.proofs.lemmas.Int.{to_z-of_z}
use Rattle.uts_geom.specs.declared.index.Index.{Index}
use Rattle.uts_geom.specs.Spans.{IsNear}
use Rattle.problem_types.specs.Regions.{coarse_index}
use Rattle.ghost_rules.specs.Windows.{window_of}
use Rattle.refine_coarsen.proofs.Divided.{near_coarse}
use Rattle.refine_coarsen.proofs.levels.coarse_span.Goals as goal
use Rattle.refine_coarsen.proofs.levels.coarse_span.Goals.{After-coarse_index-hi}

low : (c : After-coarse_index-hi) → c.coarse_index-lo.result ≡ coarse_index (nat_abs c.args.ratio) c.args.patch.lo
low c = let fits : FitsSigned w64 c.args.ratio = c.ranges.ratio in simp to_z-of_z at c.coarse_index-lo.ensures

high : (c : After-coarse_index-hi) → c.coarse_index-hi.result ≡ coarse_index (nat_abs c.args.ratio) c.args.patch.hi
high c = let fits : FitsSigned w64 c.args.ratio = c.ranges.ratio in simp to_z-of_z at c.coarse_index-hi.ensures

pub window-requires-clause-near : goal.window-requires-clause-near
window-requires-clause-near c = record {
  lo = subst (λ (i : Index). IsNear i) (sym (low c)) (near_coarse c.args.patch.lo c.args.ratio c.requires.ratio c.requires.near.lo);
  hi = subst (λ (i : Index). IsNear i) (sym (high c)) (near_coarse c.args.patch.hi c.args.ratio c.requires.ratio c.requires.near.hi);
}

pub returns : goal.returns
returns c =
    let before = (goal.at.returns c).After-coarse_index-hi in
    let layers = c.args.layers in
    c.window.ensures
    ∙ ap (λ (lo : Index). window_of layers c.args.c (record { lo = lo; hi = c.coarse_index-hi.result })) (low before)
    ∙ ap (λ (hi : Index). window_of layers c.args.c (record { lo = coarse_index (nat_abs c.args.ratio) c.args.patch.lo; hi = hi })) (high before)
