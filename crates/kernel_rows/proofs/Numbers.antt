-- The numbers of a kernel along a row, from those of its parts.
use Rattle.std.proofs.Common.{◌≡◌, ◌∙◌, ℕ, ℤ, pos, List, [], ◌∷◌, length, map, replicate, refl, ap, ap₂, sym, ◌+ℤ◌}
use Rattle.std.specs.Int.{int_gap}
use Rattle.std.specs.List.{zip}
use Rattle.std.proofs.lemmas.List.{map-id, length-map}
use Rattle.std.proofs.lemmas.Simd.{map-map, splat_is_map, zip2_of_maps}
use Rattle.uts_geom.specs.Spans.{index, from_to, counted}
use Rattle.uts_geom.specs.declared.index.Index.{Index}
use Rattle.uts_geom.specs.Counting.{length-counted}
use Rattle.kernel_ast.specs.Arithmetic.{difference_of}
use Rattle.kernel_ast.specs.Value.{Environment, value_of, result_of, value_of-X, value_of-Read, value_of-Neg, value_of-Binary, value_of-Select}
use Rattle.kernel_ast.specs.declared.expression.Op.{Op}
use Rattle.kernel_ast.specs.declared.expression.Store.{Store}
use Rattle.kernel_ast.specs.declared.expression.Read.{Read}
use Rattle.kernel_ast.specs.declared.expression.Expr.{Expr}
use Rattle.kernel_ast.specs.declared.expression.Expr.TheVariants as expr
use Rattle.kernel_rows.specs.declared.row.KernelRow.{KernelRow}
use Rattle.kernel_rows.specs.Choice.{chosen}
use Rattle.kernel_rows.specs.Values.{indexes_on, environment_on, values_on}
use lib.Lanes.{zip2}

-- what agrees on each element gives the same list
map_alike : {A B : Type 0} (f g : A → B) (xs : List A) → ((x : A) → f x ≡ g x) → map f xs ≡ map g xs
map_alike f g [] alike = refl
map_alike f g (x ∷ xs) alike = (λ i. alike x i ∷ map_alike f g xs alike i)

-- two lists that go over the same elements, in pairs
zip_of_maps : {A B C : Type 0} (f : A → B) (g : A → C) (xs : List A) → zip (map f xs) (map g xs) ≡ map (λ x. (f x, g x)) xs
zip_of_maps f g [] = refl
zip_of_maps f g (x ∷ xs) = ap (λ l. (f x, g x) ∷ l) (zip_of_maps f g xs)

module _ (row : KernelRow) (numbers : Read → Index → ℤ) (reductions : Store → ℕ → ℤ) where
  -- where a kernel runs at an index of the row, and its numbers along the row
  abbrev at : Index → Environment
  at i = environment_on row numbers reductions i

  abbrev values : Expr → List ℤ
  values e = values_on e row numbers reductions

  -- over the x of the row
  along : (kernel : Expr) → values kernel ≡ map (λ x. value_of kernel (at (index x row.y row.z))) (from_to row.low row.high)
  along kernel = map-map (λ i. value_of kernel (at i)) (λ x. index x row.y row.z) (from_to row.low row.high)

  -- as many as there are indexes
  length-row : length (from_to row.low row.high) ≡ int_gap row.low row.high
  length-row = length-map (counted 0 (int_gap row.low row.high)) (λ k. row.low +ℤ pos k) ∙ length-counted 0 (int_gap row.low row.high)

  -- a leaf that is one number along the row, which `out` was filled with
  pub filled : (kernel leaf : Expr) (out : List ℤ) (places : ℕ) (n m : ℤ) → kernel ≡ leaf → places ≡ int_gap row.low row.high →
      out ≡ replicate places n → n ≡ m → ((x : ℤ) → value_of leaf (at (index x row.y row.z)) ≡ m) → out ≡ values kernel
  filled kernel leaf out places n m is long written same constant =
      written
      ∙ ap (replicate places) same
      ∙ splat_is_map (from_to row.low row.high) places m (length-row ∙ sym long)
      ∙ sym (map_alike (λ x. value_of leaf (at (index x row.y row.z))) (λ _. m) (from_to row.low row.high) constant)
      ∙ sym (along leaf)
      ∙ sym (ap values is)

  -- each form of expression, by what its parts gave
  pub ascending : (kernel : Expr) (out : List ℤ) → kernel ≡ expr.X → out ≡ from_to row.low row.high → out ≡ values kernel
  ascending kernel out is written =
      written
      ∙ sym (map-id (from_to row.low row.high))
      ∙ sym (map_alike (λ x. value_of expr.X (at (index x row.y row.z))) (λ x. x) (from_to row.low row.high) (λ x. value_of-X (at (index x row.y row.z))))
      ∙ sym (along expr.X)
      ∙ sym (ap values is)

  pub read : (kernel : Expr) (r : Read) (out : List ℤ) → kernel ≡ expr.Read r → out ≡ map (numbers r) (indexes_on row) → out ≡ values kernel
  read kernel r out is written =
      written
      ∙ sym (map_alike (λ i. value_of (expr.Read r) (at i)) (numbers r) (indexes_on row) (λ i. value_of-Read r (at i)))
      ∙ sym (ap values is)

  -- the numbers of a part, here as it was read
  of : (part got : Expr) (out : List ℤ) → got ≡ part → out ≡ values got → out ≡ values part
  of part got out is numbered = numbered ∙ ap values is

  pub negated : (kernel a got : Expr) (part out : List ℤ) → kernel ≡ expr.Neg a → got ≡ a → part ≡ values got →
      out ≡ map (difference_of (pos 0)) part → out ≡ values kernel
  negated kernel a got part out is got_is of_part written =
      written
      ∙ ap (map (difference_of (pos 0))) (of a got part got_is of_part)
      ∙ map-map (difference_of (pos 0)) (λ i. value_of a (at i)) (indexes_on row)
      ∙ sym (map_alike (λ i. value_of (expr.Neg a) (at i)) (λ i. difference_of (pos 0) (value_of a (at i))) (indexes_on row) (λ i. value_of-Neg a (at i)))
      ∙ sym (ap values is)

  pub combined : (kernel : Expr) (o : Op) (a b got_a got_b : Expr) (left right out : List ℤ) → kernel ≡ expr.Binary o a b →
      got_a ≡ a → got_b ≡ b → left ≡ values got_a → right ≡ values got_b → out ≡ zip2 (result_of o) left right → out ≡ values kernel
  combined kernel o a b got_a got_b left right out is a_is b_is of_left of_right written =
      written
      ∙ zip2_of_maps (result_of o) (λ i. value_of a (at i)) (λ i. value_of b (at i)) (indexes_on row) (of a got_a left a_is of_left) (of b got_b right b_is of_right)
      ∙ sym (map_alike (λ i. value_of (expr.Binary o a b) (at i)) (λ i. result_of o (value_of a (at i)) (value_of b (at i))) (indexes_on row) (λ i. value_of-Binary o a b (at i)))
      ∙ sym (ap values is)

  pub selected : (kernel c a b got_c got_a got_b : Expr) (tested first second out : List ℤ) → kernel ≡ expr.Select c a b →
      got_c ≡ c → got_a ≡ a → got_b ≡ b → tested ≡ values got_c → first ≡ values got_a → second ≡ values got_b →
      out ≡ zip2 chosen tested (zip first second) → out ≡ values kernel
  selected kernel c a b got_c got_a got_b tested first second out is c_is a_is b_is of_tested of_first of_second written =
      let pairs : zip first second ≡ map (λ i. (value_of a (at i), value_of b (at i))) (indexes_on row) =
      ap₂ zip (of a got_a first a_is of_first) (of b got_b second b_is of_second)
      ∙ zip_of_maps (λ i. value_of a (at i)) (λ i. value_of b (at i)) (indexes_on row) in
      written
      ∙ zip2_of_maps chosen (λ i. value_of c (at i)) (λ i. (value_of a (at i), value_of b (at i))) (indexes_on row) (of c got_c tested c_is of_tested) pairs
      ∙ sym (map_alike (λ i. value_of (expr.Select c a b) (at i)) (λ i. chosen (value_of c (at i)) (value_of a (at i), value_of b (at i))) (indexes_on row) (λ i. value_of-Select c a b (at i)))
      ∙ sym (ap values is)
