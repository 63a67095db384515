-- Near numbers divided.
use Rattle.std.proofs.Common.{inl, inr, ℤ, pos, negsuc, arith}
use Rattle.std.specs.Prelude.{nat_abs}
use Rattle.std.specs.Int.{int_div_euclid}
use Rattle.std.proofs.lemmas.Int.{ints}
use Rattle.uts_geom.specs.declared.index.Index.{Index}
use Rattle.uts_geom.specs.Spans.{IsNear, IsNearNumber}
use Rattle.problem_types.specs.Regions.{coarse_index}
use Rattle.refine_coarsen.specs.Levels.{IsRatio}

near_half : (n : ℤ) → IsNearNumber n → IsNearNumber (int_div_euclid n (pos 2))
near_half (pos a) near = (omega (arith, ints), omega (arith, ints, near.1))
near_half (negsuc a) near = (omega (arith, ints, near.0), omega (arith, ints))

near_quarter : (n : ℤ) → IsNearNumber n → IsNearNumber (int_div_euclid n (pos 4))
near_quarter (pos a) near = (omega (arith, ints), omega (arith, ints, near.1))
near_quarter (negsuc a) near = (omega (arith, ints, near.0), omega (arith, ints))

near_divided : (n ratio : ℤ) → IsRatio ratio → IsNearNumber n → IsNearNumber (int_div_euclid n (pos (nat_abs ratio)))
near_divided n ratio (inl two) near = rw two (near_half n near)
near_divided n ratio (inr four) near = rw four (near_quarter n near)

pub near_coarse : (i : Index) (ratio : ℤ) → IsRatio ratio → IsNear i → IsNear (coarse_index (nat_abs ratio) i)
near_coarse i ratio is near = record {
  x = near_divided i.x ratio is near.x;
  y = near_divided i.y ratio is near.y;
  z = near_divided i.z ratio is near.z;
}
