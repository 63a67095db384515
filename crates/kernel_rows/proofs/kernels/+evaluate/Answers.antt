use Rattle.std.proofs.Common.{rules, arith, refl, pos, length, w64, FitsSigned}
use Rattle.std.specs.Int.{int_gap}
use Rattle.std.proofs.lemmas.Int.{to_z-of_z}
use Rattle.kernel_ast.specs.Value.{value_of-Literal, value_of-Y, value_of-Z, value_of-Level, value_of-Material, value_of-Step, value_of-Number}
use Rattle.kernel_ast.specs.declared.expression.Expr.TheVariants as expr
use Rattle.uts_geom.specs.Spans.{index}
use Rattle.kernel_rows.specs.Values.{environment_on}
use Rattle.kernel_rows.proofs.Numbers.{filled, ascending, read, negated, combined, selected}
use Rattle.kernel_rows.proofs.Room.{part_of_Neg, parts_of_Binary, parts_of_Select, fits_beside}
use Rattle.kernel_rows.proofs.kernels.+evaluate.Goals as goal

pub evaluate-requires : goal.evaluate-requires
evaluate-requires g t c κs within =
    let kernel = c.args.kernel.now in
    let width = int_gap c.args.row.low c.args.row.high in
    let fits = fits_beside width (length c.args.scratch.now) t c.get.result.now c.in-Neg.a kernel
    c.get.ensures (part_of_Neg kernel c.in-Neg.a c.in-Neg.is) c.decreases c.requires.room in
    (fits.0, (within, (omega arith, omega arith)))

pub evaluate-requires-in-Binary : goal.evaluate-requires-in-Binary
evaluate-requires-in-Binary g t c κs within =
    let kernel = c.args.kernel.now in
    let width = int_gap c.args.row.low c.args.row.high in
    let parts = parts_of_Binary kernel c.in-Binary.op c.in-Binary.a c.in-Binary.b c.in-Binary.is in
    let fits = fits_beside width (length c.args.scratch.now) t c.get-in-Binary.result.now c.in-Binary.a kernel
    c.get-in-Binary.ensures parts.0 c.decreases c.requires.room in
    (fits.0, (within, (omega arith, omega arith)))

pub split_at_mut-right-requires : goal.split_at_mut-right-requires
split_at_mut-right-requires g t c =
    let kernel = c.args.kernel.now in
    let width = int_gap c.args.row.low c.args.row.high in
    let parts = parts_of_Binary kernel c.in-Binary.op c.in-Binary.a c.in-Binary.b c.in-Binary.is in
    let fits = fits_beside width (length c.args.scratch.now) t c.get-in-Binary.result.now c.in-Binary.a kernel
    c.get-in-Binary.ensures parts.0 c.decreases c.requires.room in
    omega arith

pub evaluate-requires-in-Binary-2 : goal.evaluate-requires-in-Binary-2
evaluate-requires-in-Binary-2 g t c κs within =
    let kernel = c.args.kernel.now in
    let width = int_gap c.args.row.low c.args.row.high in
    let parts = parts_of_Binary kernel c.in-Binary.op c.in-Binary.a c.in-Binary.b c.in-Binary.is in
    let fits = fits_beside width (length c.args.scratch.now) t c.get-in-Binary-2.result.now c.in-Binary.b kernel
    c.get-in-Binary-2.ensures parts.1 c.decreases c.requires.room in
    (fits.0, (within, (omega arith, omega arith)))

pub evaluate-requires-in-Select : goal.evaluate-requires-in-Select
evaluate-requires-in-Select g t c κs within =
    let kernel = c.args.kernel.now in
    let width = int_gap c.args.row.low c.args.row.high in
    let parts = parts_of_Select kernel c.in-Select.c c.in-Select.a c.in-Select.b c.in-Select.is in
    let fits = fits_beside width (length c.args.scratch.now) t c.get-in-Select.result.now c.in-Select.c kernel
    c.get-in-Select.ensures parts.0 c.decreases c.requires.room in
    (fits.0, (within, (omega arith, omega arith)))

pub split_at_mut-first-requires : goal.split_at_mut-first-requires
split_at_mut-first-requires g t c =
    let kernel = c.args.kernel.now in
    let width = int_gap c.args.row.low c.args.row.high in
    let parts = parts_of_Select kernel c.in-Select.c c.in-Select.a c.in-Select.b c.in-Select.is in
    let fits = fits_beside width (length c.args.scratch.now) t c.get-in-Select.result.now c.in-Select.c kernel
    c.get-in-Select.ensures parts.0 c.decreases c.requires.room in
    omega arith

pub evaluate-requires-in-Select-2 : goal.evaluate-requires-in-Select-2
evaluate-requires-in-Select-2 g t c κs within =
    let kernel = c.args.kernel.now in
    let width = int_gap c.args.row.low c.args.row.high in
    let parts = parts_of_Select kernel c.in-Select.c c.in-Select.a c.in-Select.b c.in-Select.is in
    let fits = fits_beside width (length c.args.scratch.now) t c.get-in-Select-2.result.now c.in-Select.a kernel
    c.get-in-Select-2.ensures parts.1 c.decreases c.requires.room in
    (fits.0, (within, (omega arith, omega arith)))

pub split_at_mut-second-requires : goal.split_at_mut-second-requires
split_at_mut-second-requires g t c =
    let kernel = c.args.kernel.now in
    let width = int_gap c.args.row.low c.args.row.high in
    let parts = parts_of_Select kernel c.in-Select.c c.in-Select.a c.in-Select.b c.in-Select.is in
    let fits = fits_beside width (length c.args.scratch.now) t c.get-in-Select-2.result.now c.in-Select.a kernel
    c.get-in-Select-2.ensures parts.1 c.decreases c.requires.room in
    omega arith

pub evaluate-requires-in-Select-3 : goal.evaluate-requires-in-Select-3
evaluate-requires-in-Select-3 g t c κs within =
    let kernel = c.args.kernel.now in
    let width = int_gap c.args.row.low c.args.row.high in
    let parts = parts_of_Select kernel c.in-Select.c c.in-Select.a c.in-Select.b c.in-Select.is in
    let fits = fits_beside width (length c.args.scratch.now) t c.get-in-Select-3.result.now c.in-Select.b kernel
    c.get-in-Select-3.ensures parts.2 c.decreases c.requires.room in
    (fits.0, (within, (omega arith, omega arith)))

pub returns-in-Literal : goal.returns-in-Literal
returns-in-Literal g t c =
    let row = c.args.row in
    let kernel = c.args.kernel.now in
    let numbers = g.R.Reads.numbers c.args.reads.now in
    let reductions = g.R.Reads.reductions c.args.reads.now in
    let out = c.fill_constant.new.out in
    let fits : FitsSigned w64 c.in-Literal.n = search rules in
    let written = simp to_z-of_z at c.fill_constant.ensures in
    filled row numbers reductions kernel (expr.Literal c.in-Literal.n) out (length c.args.out.now) c.in-Literal.n c.in-Literal.n
    c.in-Literal.is c.requires.places written refl (λ x. value_of-Literal c.in-Literal.n (environment_on row numbers reductions (index x row.y row.z)))

pub returns-in-X : goal.returns-in-X
returns-in-X g t c =
    let kernel = c.args.kernel.now in
    let numbers = g.R.Reads.numbers c.args.reads.now in
    let reductions = g.R.Reads.reductions c.args.reads.now in
    ascending c.args.row numbers reductions kernel c.fill_ascending.new.out c.in-X.is c.fill_ascending.ensures

pub returns-in-Y : goal.returns-in-Y
returns-in-Y g t c =
    let row = c.args.row in
    let kernel = c.args.kernel.now in
    let numbers = g.R.Reads.numbers c.args.reads.now in
    let reductions = g.R.Reads.reductions c.args.reads.now in
    let out = c.fill_constant-in-Y.new.out in
    let fits : FitsSigned w64 c.args.row.y = search rules in
    let written = simp to_z-of_z at c.fill_constant-in-Y.ensures in
    filled row numbers reductions kernel expr.Y out (length c.args.out.now) c.args.row.y c.args.row.y
    c.in-Y.is c.requires.places written refl (λ x. value_of-Y (environment_on row numbers reductions (index x row.y row.z)))

pub returns-in-Z : goal.returns-in-Z
returns-in-Z g t c =
    let row = c.args.row in
    let kernel = c.args.kernel.now in
    let numbers = g.R.Reads.numbers c.args.reads.now in
    let reductions = g.R.Reads.reductions c.args.reads.now in
    let out = c.fill_constant-in-Z.new.out in
    let fits : FitsSigned w64 c.args.row.z = search rules in
    let written = simp to_z-of_z at c.fill_constant-in-Z.ensures in
    filled row numbers reductions kernel expr.Z out (length c.args.out.now) c.args.row.z c.args.row.z
    c.in-Z.is c.requires.places written refl (λ x. value_of-Z (environment_on row numbers reductions (index x row.y row.z)))

pub returns-in-Level : goal.returns-in-Level
returns-in-Level g t c =
    let row = c.args.row in
    let kernel = c.args.kernel.now in
    let numbers = g.R.Reads.numbers c.args.reads.now in
    let reductions = g.R.Reads.reductions c.args.reads.now in
    let out = c.fill_constant-in-Level.new.out in
    let fits : FitsSigned w64 c.from.result = search rules in
    let written = simp to_z-of_z at c.fill_constant-in-Level.ensures in
    filled row numbers reductions kernel expr.Level out (length c.args.out.now) c.from.result (pos row.level)
    c.in-Level.is c.requires.places written c.from.ensures (λ x. value_of-Level (environment_on row numbers reductions (index x row.y row.z)))

pub returns-in-Material : goal.returns-in-Material
returns-in-Material g t c =
    let row = c.args.row in
    let kernel = c.args.kernel.now in
    let numbers = g.R.Reads.numbers c.args.reads.now in
    let reductions = g.R.Reads.reductions c.args.reads.now in
    let out = c.fill_constant-in-Material.new.out in
    let fits : FitsSigned w64 c.from-in-Material.result = search rules in
    let written = simp to_z-of_z at c.fill_constant-in-Material.ensures in
    filled row numbers reductions kernel expr.Material out (length c.args.out.now) c.from-in-Material.result (pos row.material)
    c.in-Material.is c.requires.places written c.from-in-Material.ensures (λ x. value_of-Material (environment_on row numbers reductions (index x row.y row.z)))

pub returns-in-Step : goal.returns-in-Step
returns-in-Step g t c =
    let row = c.args.row in
    let kernel = c.args.kernel.now in
    let numbers = g.R.Reads.numbers c.args.reads.now in
    let reductions = g.R.Reads.reductions c.args.reads.now in
    let out = c.fill_constant-in-Step.new.out in
    let fits : FitsSigned w64 c.from-in-Step.result = search rules in
    let written = simp to_z-of_z at c.fill_constant-in-Step.ensures in
    filled row numbers reductions kernel expr.Step out (length c.args.out.now) c.from-in-Step.result (pos row.step)
    c.in-Step.is c.requires.places written c.from-in-Step.ensures (λ x. value_of-Step (environment_on row numbers reductions (index x row.y row.z)))

pub returns-in-Read : goal.returns-in-Read
returns-in-Read g t c =
    let kernel = c.args.kernel.now in
    let numbers = g.R.Reads.numbers c.args.reads.now in
    let reductions = g.R.Reads.reductions c.args.reads.now in
    read c.args.row numbers reductions kernel c.in-Read.read c.fill.new.out c.in-Read.is c.fill.ensures

pub returns-in-Number : goal.returns-in-Number
returns-in-Number g t c =
    let row = c.args.row in
    let kernel = c.args.kernel.now in
    let numbers = g.R.Reads.numbers c.args.reads.now in
    let reductions = g.R.Reads.reductions c.args.reads.now in
    let out = c.fill_constant-in-Number.new.out in
    let fits : FitsSigned w64 c.number.result = search rules in
    let written = simp to_z-of_z at c.fill_constant-in-Number.ensures in
    filled row numbers reductions kernel (expr.Number c.in-Number.store c.in-Number.name) out (length c.args.out.now) c.number.result (reductions c.in-Number.store c.in-Number.name)
    c.in-Number.is c.requires.places written c.number.ensures (λ x. value_of-Number c.in-Number.store c.in-Number.name (environment_on row numbers reductions (index x row.y row.z)))

pub returns-in-Neg : goal.returns-in-Neg
returns-in-Neg g t c =
    let kernel = c.args.kernel.now in
    let numbers = g.R.Reads.numbers c.args.reads.now in
    let reductions = g.R.Reads.reductions c.args.reads.now in
    negated c.args.row numbers reductions kernel c.in-Neg.a c.get.result.now c.evaluate.new.out c.negate_all.new.out
    c.in-Neg.is c.get.ensures c.evaluate.ensures c.negate_all.ensures

pub returns-in-Binary : goal.returns-in-Binary
returns-in-Binary g t c =
    let kernel = c.args.kernel.now in
    let numbers = g.R.Reads.numbers c.args.reads.now in
    let reductions = g.R.Reads.reductions c.args.reads.now in
    combined c.args.row numbers reductions kernel c.in-Binary.op c.in-Binary.a c.in-Binary.b
    c.get-in-Binary.result.now c.get-in-Binary-2.result.now
    c.evaluate-in-Binary.new.out c.evaluate-in-Binary-2.new.out c.combine.new.out
    c.in-Binary.is c.get-in-Binary.ensures c.get-in-Binary-2.ensures
    c.evaluate-in-Binary.ensures c.evaluate-in-Binary-2.ensures c.combine.ensures

pub returns-in-Select : goal.returns-in-Select
returns-in-Select g t c =
    let kernel = c.args.kernel.now in
    let numbers = g.R.Reads.numbers c.args.reads.now in
    let reductions = g.R.Reads.reductions c.args.reads.now in
    selected c.args.row numbers reductions kernel c.in-Select.c c.in-Select.a c.in-Select.b
    c.get-in-Select.result.now c.get-in-Select-2.result.now c.get-in-Select-3.result.now
    c.evaluate-in-Select.new.out c.evaluate-in-Select-2.new.out c.evaluate-in-Select-3.new.out c.choose_all.new.out
    c.in-Select.is c.get-in-Select.ensures c.get-in-Select-2.ensures c.get-in-Select-3.ensures
    c.evaluate-in-Select.ensures c.evaluate-in-Select-2.ensures c.evaluate-in-Select-3.ensures c.choose_all.ensures
