-- What a kernel gives at the indexes of a span.
use Rattle.std.specs.Prelude.{ℕ, ℤ}
use Rattle.uts_geom.specs.declared.index.Index.{Index}
use Rattle.kernel_ast.specs.Value.{value_of}
use Rattle.kernel_ast.specs.declared.expression.Expr.{Expr}
use Rattle.kernel_ast.specs.declared.expression.Store.{Store}
use Rattle.kernel_ast.specs.declared.expression.Read.{Read}
use Rattle.kernel_rows.specs.declared.row.KernelRow.{KernelRow}
use Rattle.kernel_sweeps.specs.declared.sweep.Sweep.{Sweep}

-- the row of a sweep at y and z
abbrev pub row_on : Sweep → (y z : ℤ) → KernelRow
row_on s y z = record {
  step = s.step;
  material = s.material;
  level = s.level;
  y = y;
  z = z;
  low = s.span.lo.x;
  high = s.span.hi.x;
}

-- the number of a kernel at an index, in a step, on a level and a material, where reads and reductions have these numbers
abbrev pub number_on : Expr → (step level material : ℕ) → (Read → Index → ℤ) → (Store → ℕ → ℤ) → Index → ℤ
number_on kernel step level material numbers reductions i = value_of kernel (record {
  x = i.x;
  y = i.y;
  z = i.z;
  level = level;
  material = material;
  step = step;
  read = λ r. numbers r i;
  number = reductions;
})

abbrev pub number_at : Sweep → (Read → Index → ℤ) → (Store → ℕ → ℤ) → Index → ℤ
number_at s = number_on s.kernel.now s.step s.level s.material
