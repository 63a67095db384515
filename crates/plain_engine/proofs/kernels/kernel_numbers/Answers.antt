use Rattle.std.proofs.Common.{◌≡◌, ℤ, List, map, subst, IfOk}
use Rattle.uts_geom.specs.Spans.{indexes_of}
use Rattle.uts_geom.specs.declared.index.Index.{Index}
use Rattle.plain_engine.proofs.KernelsOn.{number_on-moment}
use Rattle.plain_engine.proofs.kernels.kernel_numbers.Goals as goal

pub returns : goal.returns
returns c =
    subst (λ (f : Index → ℤ). IfOk c.field_numbers.result (λ (numbers : List ℤ). numbers ≡ map f (indexes_of c.args.span)))
    (number_on-moment c.args.kernel.now c.args.level c.args.material c.stores.result c.args.moment.now c.stores.ensures)
    c.field_numbers.ensures
