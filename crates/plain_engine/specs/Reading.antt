-- What the reads of kernels see in two warehouses.
use Rattle.std.specs.Prelude.{ℕ, ℤ}
use Rattle.uts_geom.specs.declared.index.Index.{Index}
use Rattle.kernel_ast.specs.declared.expression.Store.{Store}
use Rattle.kernel_ast.specs.declared.expression.Read.{Read}
use Rattle.uts_model.specs.WholeField.{number_read, store_of}
use Rattle.whole_fields.specs.Stored.{state_of}
use Rattle.whole_fields.specs.declared.stores.Stores.{Stores}

-- the number of a read of a variable, from a kernel at an index
abbrev pub numbers_at : Stores → Read → Index → ℤ
numbers_at s r i = number_read s.checked.now ((store_of (state_of s.checked.now s.old.now) (state_of s.checked.now s.new.now) r.store).field r.name s.material) r s.level i r.how

-- the number of a reduction
abbrev pub reductions_at : Stores → Store → ℕ → ℤ
reductions_at s store name = (store_of (state_of s.checked.now s.old.now) (state_of s.checked.now s.new.now) store).reduction name
