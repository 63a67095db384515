-- Reads along a row that stand together in a window.
use Rattle.std.proofs.Common.{◌≡◌, ◌∙◌, ◌<◌, ℕ, ℤ, pos, ◌+ℤ◌, map, ap, sym, arith}
use Rattle.std.specs.Int.{int_gap}
use Rattle.std.proofs.lemmas.Int.{ints}
use Rattle.std.proofs.lemmas.Simd.{map-map}
use Rattle.uts_geom.specs.Spans.{counted, index}
use Rattle.uts_geom.specs.declared.index.Index.{Index}
use Rattle.uts_geom.specs.ByPlace.{get-by_place, length-by_place}
use Rattle.field_box.specs.Fields.{along}
use Rattle.ghost_gather.specs.Windows.{number_seen}
use Rattle.kernel_ast.specs.declared.expression.How.{How}
use Rattle.kernel_ast.specs.declared.expression.Read.{Read}
use Rattle.kernel_rows.specs.Values.{indexes_on}
use Rattle.kernel_rows.specs.declared.row.KernelRow.{KernelRow}
use Rattle.problem_types.specs.Regions.{moved, offset_of}
use Rattle.refine_coarsen.specs.FineFolds.{number_within}
use Rattle.kernel_eval.specs.Environments.{number_in_part}
use Rattle.kernel_eval.specs.WholeRows.{IsWholeRow}
use Rattle.kernel_eval.specs.declared.part.Part.{Part}
use Rattle.kernel_eval.proofs.Rows.{listed_along}

further : (low by k : ℤ) → (low +ℤ by) +ℤ k ≡ (low +ℤ k) +ℤ by
further low by k = omega (arith, ints)

module _ (part : Part) (r : Read) (row : KernelRow) (count : ℕ) (first : Index) (whole : IsWholeRow part r row count first) where
  abbrev seen : ℕ → ℤ
  seen k = number_seen part.window (index (first.x +ℤ pos k) first.y first.z)

  -- the index at an offset from one of the row
  moved_is : (k : ℕ) → index (first.x +ℤ pos k) first.y first.z ≡ moved (index (row.low +ℤ pos k) row.y row.z) (offset_of r.offset)
  moved_is k =
      ap (λ (i : Index). index (i.x +ℤ pos k) i.y i.z) whole.begins
      ∙ ap (λ (x : ℤ). index x (row.y +ℤ (offset_of r.offset).y) (row.z +ℤ (offset_of r.offset).z)) (further row.low (offset_of r.offset).x (pos k))

  number_is : (k : ℕ) → k < count → seen k ≡ number_in_part part r.how r.offset (index (row.low +ℤ pos k) row.y row.z)
  number_is k below =
      sym (rw (whole.held.each k below) refl_seen)
      ∙ ap (number_within part.window) (moved_is k)
      ∙ ap (λ (h : How). number_in_part part h r.offset (index (row.low +ℤ pos k) row.y row.z)) (sym whole.form)
    where
      refl_seen : seen k ≡ seen k
      refl_seen = ap seen (let e : k ≡ k = omega arith in e)

  pub row_seen : count ≡ int_gap row.low row.high → map (number_seen part.window) (along first count) ≡ map (number_in_part part r.how r.offset) (indexes_on row)
  row_seen size =
      map-map (number_seen part.window) (λ (k : ℕ). index (first.x +ℤ pos k) first.y first.z) (counted 0 count)
      ∙ listed_along row (number_in_part part r.how r.offset) (map seen (counted 0 count)) (length-by_place seen count ∙ size)
      (λ k below. let short : k < count = omega (arith, below, length-by_place seen count) in get-by_place seen count k (pos 0) short ∙ number_is k short)
