-- What a read of a variable gives, by its form.
use Rattle.std.proofs.Common.{◌≡◌, ◌∙◌, ap, refl, ℕ, ℤ, ◌-◌}
use Rattle.uts_geom.specs.declared.index.Index.{Index}
use Rattle.kernel_ast.specs.declared.expression.How.{How}
use Rattle.kernel_ast.specs.declared.expression.How.TheVariants.{Same, Coarse, FineSum, FineMin, FineMax}
use Rattle.kernel_ast.specs.declared.expression.Read.{Read}
use Rattle.kernel_ast.specs.declared.expression.Store.{Store}
use Rattle.kernel_ast.specs.declared.expression.Store.TheVariants.{Old, New}
use Rattle.problem_types.specs.Regions.{moved, offset_of, ratio_of, coarse_index}
use Rattle.problem_types.specs.declared.problem.Fold.TheVariants.{Sum, Min, Max}
use Rattle.reductions.specs.Folding.{all_combined}
use Rattle.uts_model.specs.Folds.{numbers_of_children}
use Rattle.uts_model.specs.Moments.{state_of, moment_of, environment_at}
use Rattle.uts_model.specs.WholeField.{State, store_of, number_read}
use Rattle.uts_model.specs.declared.moments.Place.{Place}

store_is : (place : Place) (s : Store) →
    store_of (state_of place.problem.now (moment_of place Old)) (state_of place.problem.now (moment_of place New)) s
    ≡ state_of place.problem.now (moment_of place s)
store_is place Old = refl
store_is place New = refl

module _ (place : Place) (r : Read) where
  -- the variable in the store that is read, on the kernel's material
  variable : ℕ → Index → ℤ
  variable = (state_of place.problem.now (moment_of place r.store)).field r.name place.site.material

  read_is : (how : How) → r.how ≡ how → (environment_at place).read r ≡ number_read place.problem.now variable r place.site.level place.site.index how
  unfolding variable
  read_is how is =
      ap (λ (s : State). number_read place.problem.now (s.field r.name place.site.material) r place.site.level place.site.index r.how) (store_is place r.store)
      ∙ ap (number_read place.problem.now variable r place.site.level place.site.index) is

  pub read_same : r.how ≡ Same → (environment_at place).read r
      ≡ (state_of place.problem.now (moment_of place r.store)).field r.name place.site.material place.site.level (moved place.site.index (offset_of r.offset))
  unfolding variable
  read_same is = read_is Same is

  pub read_coarse : r.how ≡ Coarse → (environment_at place).read r
      ≡ (state_of place.problem.now (moment_of place r.store)).field r.name place.site.material (place.site.level - 1)
      (moved (coarse_index (ratio_of place.problem.now place.site.level) place.site.index) (offset_of r.offset))
  unfolding variable
  read_coarse is = read_is Coarse is

  pub read_sum : r.how ≡ FineSum → (environment_at place).read r ≡ all_combined Sum (numbers_of_children place r)
  unfolding variable numbers_of_children
  read_sum is = read_is FineSum is

  pub read_min : r.how ≡ FineMin → (environment_at place).read r ≡ all_combined Min (numbers_of_children place r)
  unfolding variable numbers_of_children
  read_min is = read_is FineMin is

  pub read_max : r.how ≡ FineMax → (environment_at place).read r ≡ all_combined Max (numbers_of_children place r)
  unfolding variable numbers_of_children
  read_max is = read_is FineMax is
