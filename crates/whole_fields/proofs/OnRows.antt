-- Numbers along the rows of kernels.
use Rattle.std.proofs.Common.{◌≡◌, ◌∙◌, ◌<◌, ◌+◌, ℕ, ℤ, pos, ◌+ℤ◌, map, ap, sym, arith, w64, FitsSigned}
use Rattle.std.specs.Int.{int_gap}
use Rattle.std.proofs.lemmas.Int.{ints}
use Rattle.std.proofs.lemmas.Simd.{map-map}
use Rattle.uts_geom.specs.declared.index.Index.{Index}
use Rattle.uts_geom.specs.Spans.{index, counted}
use Rattle.kernel_rows.specs.Values.{indexes_on}
use Rattle.kernel_rows.specs.declared.row.KernelRow.{KernelRow}
use Rattle.whole_fields.proofs.Lists.{by_place_alike}

-- numbers by place are those of the indexes of a row
pub on_row : (row : KernelRow) (n : ℕ) (by_place : ℕ → ℤ) (number : Index → ℤ) → n ≡ int_gap row.low row.high →
    ((k : ℕ) → k < n → by_place k ≡ number (index (row.low +ℤ pos k) row.y row.z)) → map by_place (counted 0 n) ≡ map number (indexes_on row)
on_row row n by_place number long same =
    by_place_alike by_place (λ k. number (index (row.low +ℤ pos k) row.y row.z)) n (pos 0) same
    ∙ sym (map-map number (λ k. index (row.low +ℤ pos k) row.y row.z) (counted 0 n))
    ∙ ap (map number) (sym (map-map (λ (x : ℤ). index x row.y row.z) (λ k. row.low +ℤ pos k) (counted 0 n)))
    ∙ ap (λ (m : ℕ). map number (map (λ (x : ℤ). index x row.y row.z) (map (λ k. row.low +ℤ pos k) (counted 0 m)))) long

-- one index more
pub next_x : (x low : ℤ) (k : ℕ) → x ≡ low +ℤ pos k → x +ℤ pos 1 ≡ low +ℤ pos (k + 1)
next_x x low k here = grind (arith, ints)

pub x_fits : (x low high : ℤ) (k : ℕ) → x ≡ low +ℤ pos k → k < int_gap low high → FitsSigned w64 x → FitsSigned w64 high → FitsSigned w64 (x +ℤ pos 1)
x_fits x low high k here below fits fits_high = grind (arith, ints)

-- an index moved, and a row begun further on
pub moved_along : (low by : ℤ) (k : ℕ) → (low +ℤ by) +ℤ pos k ≡ (low +ℤ pos k) +ℤ by
moved_along low by k = grind (arith, ints)
