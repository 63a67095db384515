use Rattle.std.proofs.Common.{◌≡◌, ◌∙◌, rules, pos, Bool, true, ap, sym, w64, FitsSigned}
use Rattle.std.specs.Prelude.{nat_abs, if◌then◌else◌}
use Rattle.std.proofs.lemmas.Int.{to_z-of_z}
use Rattle.uts_geom.specs.declared.index.Index.{Index}
use Rattle.problem_types.specs.Regions.{coarse_index, moved, offset_of}
use Rattle.refine_coarsen.specs.FineFolds.{number_within}
use Rattle.kernel_eval.specs.Environments.{is_ratio}
use Rattle.kernel_eval.proofs.numbers.coarse_number.Goals as goal

pub returns-then-is_ratio : goal.returns-then-is_ratio
returns-then-is_ratio c =
    let part = c.args.part.now in
    let by = offset_of c.args.by in
    let fits : FitsSigned w64 part.ratio = search rules in
    let fits_new : FitsSigned w64 c.number_beside.result = search rules in
    let refined : is_ratio part.ratio ≡ true = sym (simp to_z-of_z at c.is_ratio.ensures.is) ∙ c.if-is_ratio.true in
    let below : c.coarse_index.result ≡ coarse_index (nat_abs part.ratio) c.args.i = simp to_z-of_z at c.coarse_index.ensures in
    simp to_z-of_z (
    c.number_beside.ensures
    ∙ ap (λ (j : Index). number_within part.window (moved j by)) below
    ∙ sym (ap (λ (t : Bool). if t then number_within part.window (moved (coarse_index (nat_abs part.ratio) c.args.i) by) else pos 0) refined))
