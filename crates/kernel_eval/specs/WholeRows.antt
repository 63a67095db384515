-- Reads along a row that stand together in a window.
use Rattle.std.specs.Prelude.{◌≡◌, ℕ}
use Rattle.uts_geom.specs.Spans.{index}
use Rattle.uts_geom.specs.declared.index.Index.{Index}
use Rattle.field_box.specs.Fields.{HoldsAlong}
use Rattle.kernel_ast.specs.declared.expression.How.TheVariants.{Same}
use Rattle.kernel_ast.specs.declared.expression.Read.{Read}
use Rattle.kernel_rows.specs.declared.row.KernelRow.{KernelRow}
use Rattle.problem_types.specs.Regions.{moved, offset_of}
use Rattle.kernel_eval.specs.declared.part.Part.{Part}

-- The read is of the own level, and what it reads along a row of so many indexes stands from an index on along x in the part's window.
pub record IsWholeRow (part : Part) (r : Read) (row : KernelRow) (count : ℕ) (first : Index) : Type 0 where
  pub form : r.how ≡ Same
  pub begins : first ≡ moved (index row.low row.y row.z) (offset_of r.offset)
  pub held : HoldsAlong part.window.span first count
