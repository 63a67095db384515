use Rattle.std.proofs.Common.{◌∙◌, ℤ, map, fold, ap, FitsSigned, w64, to_z, of_z, rules}
use Rattle.std.proofs.lemmas.Int.{to_z-of_z}
use Rattle.uts_geom.specs.Spans.{indexes_of}
use Rattle.uts_geom.specs.declared.index.Index.{Index}
use Rattle.reductions.specs.Folding.{combined}
use Rattle.plain_engine.specs.Moments.{kernel_at}
use Rattle.plain_engine.proofs.KernelsOn.{number_on-moment}
use Rattle.plain_engine.proofs.kernels.kernel_fold.Goals as goal

pub returns : goal.returns
returns c =
    let fits : FitsSigned w64 c.fold_numbers.result = search rules in
    to_z-of_z w64 _ fits ∙ c.fold_numbers.ensures
    ∙ ap (λ (f : Index → ℤ). fold (combined c.args.how) (to_z w64 (of_z w64 c.args.total)) (map f (indexes_of c.args.span)))
    (number_on-moment c.args.kernel.now c.args.level c.args.material c.stores.result c.args.moment.now c.stores.ensures)
    ∙ ap (λ (total : ℤ). fold (combined c.args.how) total (map (kernel_at c.args.moment.now c.args.kernel.now c.args.level c.args.material) (indexes_of c.args.span)))
    (to_z-of_z w64 c.args.total c.ranges.total)
