-- What a kernel gives along a row of indexes.
use Rattle.std.specs.Prelude.{ℕ, ℤ, List, map}
use Rattle.uts_geom.specs.Spans.{index, from_to}
use Rattle.uts_geom.specs.declared.index.Index.{Index}
use Rattle.kernel_ast.specs.Value.{Environment, value_of}
use Rattle.kernel_ast.specs.declared.expression.Store.{Store}
use Rattle.kernel_ast.specs.declared.expression.Read.{Read}
use Rattle.kernel_ast.specs.declared.expression.Expr.{Expr}
use Rattle.kernel_rows.specs.declared.row.KernelRow.{KernelRow}

-- the indexes of a row, by ascending x
abbrev pub indexes_on : KernelRow → List Index
indexes_on row = map (λ x. index x row.y row.z) (from_to row.low row.high)

-- Where a kernel runs at an index of the row: `numbers` gives each read's number at the index, and `reductions` those of reductions,
-- by store and name.
abbrev pub environment_on : KernelRow → (Read → Index → ℤ) → (Store → ℕ → ℤ) → Index → Environment
environment_on row numbers reductions i = record {
  x = i.x;
  y = i.y;
  z = i.z;
  level = row.level;
  material = row.material;
  step = row.step;
  read = λ r. numbers r i;
  number = reductions;
}

-- the kernel's numbers along the row
abbrev pub values_on : Expr → KernelRow → (Read → Index → ℤ) → (Store → ℕ → ℤ) → List ℤ
values_on e row numbers reductions = map (λ i. value_of e (environment_on row numbers reductions i)) (indexes_on row)
