-- Numbers along rows.
use Rattle.std.proofs.Common.{◌≡◌, ◌∙◌, ◌<◌, ℕ, ℤ, pos, ◌+ℤ◌, List, [], ◌∷◌, length, map, get_or, replicate, refl, ap, sym, arith}
use Rattle.std.specs.Int.{int_gap}
use Rattle.std.proofs.lemmas.Int.{ints}
use Rattle.std.proofs.lemmas.List.{length-map}
use Rattle.std.proofs.lemmas.Simd.{map-map}
use Rattle.uts_geom.specs.Counting.{length-counted}
use Rattle.uts_geom.specs.Spans.{index, counted, from_to}
use Rattle.uts_geom.specs.declared.index.Index.{Index}
use Rattle.uts_geom.specs.ByPlace.{listed_by}
use Rattle.kernel_ast.specs.Value.{value_of}
use Rattle.kernel_ast.specs.declared.expression.Expr.{Expr}
use Rattle.kernel_rows.specs.Values.{environment_on, indexes_on, values_on}
use Rattle.kernel_rows.specs.declared.row.KernelRow.{KernelRow}
use Rattle.kernel_eval.specs.Environments.{environment_of, number_given, number_read}
use Rattle.kernel_eval.specs.declared.windows.Windows.{Windows}

length-indexes : (row : KernelRow) → length (indexes_on row) ≡ int_gap row.low row.high
length-indexes row =
    length-map (from_to row.low row.high) (λ (x : ℤ). index x row.y row.z)
    ∙ length-map (counted 0 (int_gap row.low row.high)) (λ (k : ℕ). row.low +ℤ pos k)
    ∙ length-counted 0 (int_gap row.low row.high)

all_alike : (n : ℤ) (xs : List Index) → replicate (length xs) n ≡ map (λ i. n) xs
all_alike n [] = refl
all_alike n (x ∷ xs) = ap (λ (l : List ℤ). n ∷ l) (all_alike n xs)

-- one number at each index of a row
pub alike_along : (row : KernelRow) (n : ℤ) (count : ℕ) → count ≡ int_gap row.low row.high → replicate count n ≡ map (λ i. n) (indexes_on row)
alike_along row n count whole =
    ap (λ (k : ℕ). replicate k n) (whole ∙ sym (length-indexes row)) ∙ all_alike n (indexes_on row)

-- numbers that are known place by place
pub listed_along : (row : KernelRow) (number : Index → ℤ) (numbers : List ℤ) → length numbers ≡ int_gap row.low row.high →
    ((k : ℕ) → k < length numbers → get_or numbers k (pos 0) ≡ number (index (row.low +ℤ pos k) row.y row.z)) → numbers ≡ map number (indexes_on row)
listed_along row number numbers whole each =
    let x : ℕ → ℤ = λ k. row.low +ℤ pos k in
    let at : ℤ → Index = λ n. index n row.y row.z in
    listed_by (λ (k : ℕ). number (at (x k))) (length numbers) numbers (pos 0) refl each
    ∙ ap (λ (n : ℕ). map (λ (k : ℕ). number (at (x k))) (counted 0 n)) whole
    ∙ sym (map-map number (λ (k : ℕ). at (x k)) (counted 0 (int_gap row.low row.high)))
    ∙ sym (ap (map number) (map-map at x (counted 0 (int_gap row.low row.high))))

gap_one : (n : ℤ) → int_gap n (n +ℤ pos 1) ≡ 1
gap_one n = grind (arith, ints)

and_none : (n : ℤ) → n +ℤ pos 0 ≡ n
and_none n = omega (arith, ints)

-- the row of one index
abbrev pub row_at : Windows → Index → KernelRow
row_at w i = record { step = w.step; material = w.material; level = w.level; y = i.y; z = i.z; low = i.x; high = i.x +ℤ pos 1 }

pub one_index : (w : Windows) (i : Index) → int_gap (row_at w i).low (row_at w i).high ≡ 1
one_index w i = gap_one i.x

pub one_value : (e : Expr) (w : Windows) (i : Index) →
    values_on e (row_at w i) (number_read w) (number_given w) ≡ value_of e (environment_of w i) ∷ []
one_value e w i =
    let f : Index → ℤ = λ j. value_of e (environment_on (row_at w i) (number_read w) (number_given w) j) in
    ap (λ (n : ℕ). map f (map (λ x. index x i.y i.z) (map (λ k. i.x +ℤ pos k) (counted 0 n)))) (gap_one i.x)
    ∙ ap (λ (x : ℤ). f (index x i.y i.z) ∷ []) (and_none i.x)
