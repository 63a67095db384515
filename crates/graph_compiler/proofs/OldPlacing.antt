-- Where a variable on a level, a material and a patch stands among all that might stand for the step before.
use Rattle.std.proofs.Common.{◌≡◌, ◌∙◌, ◌<◌, ◌≤◌, ◌+◌, ◌*◌, ℕ, zero, suc, Some, length, take, get_or, ap, sym, arith}
use Rattle.std.specs.Prelude.{slice_get, option_map}
use Rattle.std.specs.List.{sum_by}
use Rattle.std.specs.Option.{option_map_or}
use Rattle.std.proofs.Math.Nat.{le_trans, mul-le-mul_left, mul-le-mul_right}
use Rattle.std.proofs.lemmas.List.{length-map, take_all}
use Rattle.std.proofs.lemmas.List.Concat.{length-flat_map}
use Rattle.std.proofs.lemmas.List.Sums.{sum_by_push}
use Rattle.std.proofs.lemmas.Option.{slice_get-map, slice_get_within}
use Rattle.uts_geom.specs.Spans.{counted}
use Rattle.uts_geom.specs.Counting.{counted-at, length-counted}
use Rattle.problem_types.specs.declared.problem.Problem.{Problem}
use Rattle.problem_types.specs.declared.problem.Var.{Var}
use Rattle.task_check.specs.Bounds.{IsBounded}
use Rattle.task_check.specs.Plan.{Old, old_variables, patches_of}
use Rattle.graph_compiler.specs.Places.{of_level, of_material, of_variable}
use Rattle.graph_compiler.proofs.Bounded.{few_patches}
use Rattle.graph_compiler.proofs.Growing.{counted_more}
use Rattle.graph_compiler.proofs.Laying.{get-joined, sum-equal, sum-scaled, take-counted}

-- how many patches the levels below this one have
abbrev pub patches_below : Problem → ℕ → ℕ
patches_below p level = sum_by (λ l. length (patches_of p l)) (counted 0 level)

pub below_more : (p : Problem) (level : ℕ) → patches_below p (level + 1) ≡ patches_below p level + length (patches_of p level)
below_more p level = ap (sum_by (λ l. length (patches_of p l))) (counted_more level) ∙ sum_by_push (λ l. length (patches_of p l)) (counted 0 level) level

module _ (p : Problem) where
  abbrev all : ℕ
  all = patches_below p (length p.levels)

  module _ (name : ℕ) where
    material_size : (level material : ℕ) → length (of_material p name level material) ≡ length (patches_of p level)
    material_size level material = length-map (patches_of p level) (Old name level material)

    materials_size : (level n : ℕ) → n ≤ p.materials.value → sum_by (λ m. length (of_material p name level m)) (take n (counted 0 p.materials.value)) ≡ n * length (patches_of p level)
    materials_size level n within =
        sum-equal (λ m. length (of_material p name level m)) (length (patches_of p level)) (counted 0 p.materials.value)
        (λ k m under. material_size level (get_or (counted 0 p.materials.value) k m)) n (omega (arith, length-counted 0 p.materials.value))

    level_size : (level : ℕ) → length (of_level p name level) ≡ p.materials.value * length (patches_of p level)
    level_size level =
        length-flat_map (of_material p name level) (counted 0 p.materials.value)
        ∙ ap (sum_by (λ m. length (of_material p name level m))) (sym (take_all p.materials.value (counted 0 p.materials.value) (omega (arith, length-counted 0 p.materials.value))))
        ∙ materials_size level p.materials.value (omega arith)

    levels_size : (n : ℕ) → n ≤ length p.levels → sum_by (λ l. length (of_level p name l)) (take n (counted 0 (length p.levels))) ≡ p.materials.value * patches_below p n
    levels_size n within =
        ap (sum_by (λ l. length (of_level p name l))) (take-counted n (length p.levels) within)
        ∙ sum-scaled (λ l. length (of_level p name l)) (λ l. length (patches_of p l)) p.materials.value level_size (counted 0 n)

    variable_size : length (of_variable p name) ≡ p.materials.value * all
    variable_size =
        length-flat_map (of_level p name) (counted 0 (length p.levels))
        ∙ ap (sum_by (λ l. length (of_level p name l))) (sym (take_all (length p.levels) (counted 0 (length p.levels)) (omega (arith, length-counted 0 (length p.levels)))))
        ∙ levels_size (length p.levels) (omega arith)

    patch_at : (level material patch : ℕ) → level < length p.levels → material < p.materials.value → patch < length (patches_of p level)
        → slice_get (of_variable p name) (p.materials.value * patches_below p level + (material * length (patches_of p level) + patch)) ≡ Some (Old name level material patch)
    patch_at level material patch level_there material_there patch_there =
        let count = option_map_or (λ l. length l.patches) (slice_get p.levels level) 0 in
        let on_patch : slice_get (of_material p name level material) patch ≡ Some (Old name level material patch) =
        slice_get-map (Old name level material) (patches_of p level) patch
        ∙ ap (option_map (Old name level material)) (counted-at count patch (omega (arith, patch_there, length-counted 0 count))) in
        let in_level = get-joined (of_material p name level) (counted 0 p.materials.value) material patch material (Old name level material patch)
        (counted-at p.materials.value material material_there) on_patch in
        let in_variable = get-joined (of_level p name) (counted 0 (length p.levels)) level (sum_by (λ m. length (of_material p name level m)) (take material (counted 0 p.materials.value)) + patch) level
        (Old name level material patch) (counted-at (length p.levels) level level_there) in_level in
        ap (slice_get (of_variable p name)) (
        let e : p.materials.value * patches_below p level + (material * length (patches_of p level) + patch)
        ≡ sum_by (λ l. length (of_level p name l)) (take level (counted 0 (length p.levels))) + (sum_by (λ m. length (of_material p name level m)) (take material (counted 0 p.materials.value)) + patch) =
        omega (arith, levels_size level (omega arith), materials_size level material (omega arith)) in e)
        ∙ in_variable

  pub old_at : (var level material patch : ℕ) (v : Var) → slice_get p.vars var ≡ Some v → level < length p.levels → material < p.materials.value → patch < length (patches_of p level)
      → slice_get (old_variables p) (var * (p.materials.value * all) + (p.materials.value * patches_below p level + material * length (patches_of p level)) + patch)
      ≡ Some (Old v.name level material patch)
  old_at var level material patch v at level_there material_there patch_there =
      let before = sum-equal (λ (w : Var). length (of_variable p w.name)) (p.materials.value * all) p.vars (λ k w under. variable_size (get_or p.vars k w).name) var
      (let w = slice_get_within p.vars var v at in omega arith) in
      ap (slice_get (old_variables p)) (
      let e : var * (p.materials.value * all) + (p.materials.value * patches_below p level + material * length (patches_of p level)) + patch
      ≡ sum_by (λ (w : Var). length (of_variable p w.name)) (take var p.vars) + (p.materials.value * patches_below p level + (material * length (patches_of p level) + patch)) =
      omega (arith, before) in e)
      ∙ get-joined (λ (w : Var). of_variable p w.name) p.vars var (p.materials.value * patches_below p level + (material * length (patches_of p level) + patch)) v (Old v.name level material patch) at
      (patch_at v.name level material patch level_there material_there patch_there)

  -- how many there are
  pub old_size : length (old_variables p) ≡ length p.vars * (p.materials.value * all)
  old_size =
      length-flat_map (λ (w : Var). of_variable p w.name) p.vars
      ∙ ap (sum_by (λ (w : Var). length (of_variable p w.name))) (sym (take_all (length p.vars) p.vars (omega arith)))
      ∙ sum-equal (λ (w : Var). length (of_variable p w.name)) (p.materials.value * all) p.vars (λ k w under. variable_size (get_or p.vars k w).name) (length p.vars) (omega arith)

-- the products that a place is made of are few
pub few_places : (var materials all : ℕ) → var ≤ 64 → materials ≤ 8 → all ≤ 4096 → var * (materials * all) ≤ 2097152
few_places var materials all few_vars few_materials few_patches =
    let on_material : materials * all ≤ 8 * 4096 = le_trans (mul-le-mul_left materials few_patches) (mul-le-mul_right 4096 few_materials) in
    let all_few : var * (materials * all) ≤ 64 * (8 * 4096) = le_trans (mul-le-mul_left var on_material) (mul-le-mul_right (8 * 4096) few_vars) in
    omega (arith, all_few)

pub few_products : (a b m n : ℕ) → a ≤ m → b ≤ n → a * b ≤ m * n
few_products a b m n few_a few_b = le_trans (mul-le-mul_left a few_b) (mul-le-mul_right n few_a)

few_below : (p : Problem) → IsBounded p → (n : ℕ) → patches_below p n ≤ n * 1024
few_below p limits zero = omega arith
few_below p limits (suc n) =
    let count = option_map_or (λ l. length l.patches) (slice_get p.levels n) 0 in
    let one : suc n ≡ n + 1 = omega arith in
    omega (arith, ap (patches_below p) one, below_more p n, few_below p limits n, few_patches p n limits, length-counted 0 count)

-- few old slots might stand
pub few_old : (p : Problem) → IsBounded p → length (old_variables p) ≤ 2097152
few_old p limits =
    let below = few_below p limits (length p.levels) in
    omega (arith, old_size p, few_places (length p.vars) p.materials.value (patches_below p (length p.levels)) limits.few_variables limits.materials (omega (arith, below, limits.few_levels)))
