-- What the reads of a kernel give that runs on windows and given numbers.
use Rattle.std.specs.Prelude.{ℕ, ℤ, pos, negsuc, nat_abs, ◌==◌, Bool, true, false, ◌&&◌, ◌||◌, List, if◌then◌else◌}
use Rattle.std.specs.List.{find}
use Rattle.std.specs.Option.{option_map_or}
use Rattle.std.specs.Ordering.{int_eq}
use Rattle.uts_geom.specs.Spans.{index, is_inside}
use Rattle.uts_geom.specs.declared.index.Index.{Index}
use Rattle.kernel_ast.specs.Value.{Environment}
use Rattle.kernel_ast.specs.declared.expression.Store.{Store}
use Rattle.kernel_ast.specs.declared.expression.Store.TheVariants.{Old, New}
use Rattle.kernel_ast.specs.declared.expression.How.{How}
use Rattle.kernel_ast.specs.declared.expression.How.TheVariants.{Same, Coarse, FineSum, FineMin, FineMax, FineCount}
use Rattle.kernel_ast.specs.declared.expression.Read.{Read}
use Rattle.problem_types.specs.Regions.{moved, offset_of, coarse_index}
use Rattle.refine_coarsen.specs.Levels.{children_at}
use Rattle.refine_coarsen.specs.FineFolds.{number_within, fine_fold_of}
use Rattle.kernel_eval.specs.declared.part.Part.{Part}
use Rattle.kernel_eval.specs.declared.windows.Given.{Given}
use Rattle.kernel_eval.specs.declared.windows.Windows.{Windows}

abbrev pub is_same_store : Store → Store → Bool
is_same_store Old Old = true
is_same_store New New = true
is_same_store a b = false

-- a read of this form looks into a part of that one: the fine forms share a part
abbrev pub is_read_in : How → How → Bool
is_read_in Same Same = true
is_read_in Coarse Coarse = true
is_read_in FineSum FineSum = true
is_read_in FineMin FineSum = true
is_read_in FineMax FineSum = true
is_read_in FineCount FineSum = true
is_read_in how other = false

-- the part has the numbers of the read
abbrev pub is_part_of : Read → Part → Bool
is_part_of r part = is_same_store r.store part.store && (is_read_in r.how part.how && (part.name == r.name))

-- another level is refined by 2 or 4
abbrev pub is_ratio : ℤ → Bool
is_ratio ratio = int_eq ratio (pos 2) || int_eq ratio (pos 4)

-- coordinates from -65,536 to 65,536: no window reaches further
abbrev pub is_near : Index → Bool
is_near i = is_inside (record { lo = index (negsuc 65535) (negsuc 65535) (negsuc 65535); hi = index (pos 65537) (pos 65537) (pos 65537) }) i

-- the fold over the children of a near index, and 0 at others and in a part of no ratio
abbrev pub fine_number : Part → How → Index → ℤ
fine_number part how i = if is_ratio part.ratio && is_near i
    then fine_fold_of how part.window (children_at (nat_abs part.ratio) part.centring i)
    else pos 0

-- the number that a read of a form at an offset has in a part, from a kernel at i
abbrev pub number_in_part : Part → How → List ℤ → Index → ℤ
number_in_part part Same by i = number_within part.window (moved i (offset_of by))
number_in_part part Coarse by i =
    if is_ratio part.ratio then number_within part.window (moved (coarse_index (nat_abs part.ratio) i) (offset_of by)) else pos 0
number_in_part part FineSum by i = fine_number part FineSum i
number_in_part part FineMin by i = fine_number part FineMin i
number_in_part part FineMax by i = fine_number part FineMax i
number_in_part part FineCount by i = fine_number part FineCount i

-- the number of a read: that in the first part which has it, and 0 where none has it
abbrev pub number_read : Windows → Read → Index → ℤ
number_read w r i = option_map_or (λ part. number_in_part part r.how r.offset i) (find (is_part_of r) w.parts.items) (pos 0)

abbrev pub is_given_as : Store → (name : ℕ) → Given → Bool
is_given_as store name g = is_same_store store g.store && (g.name == name)

-- the number of a reduction: the first one that is given for it, and 0 where none is
abbrev pub number_given : Windows → Store → (name : ℕ) → ℤ
number_given w store name = option_map_or (λ g. g.number) (find (is_given_as store name) w.numbers.items) (pos 0)

-- where a kernel runs, and what its reads give
abbrev pub environment_of : Windows → Index → Environment
environment_of w i = record {
  x = i.x;
  y = i.y;
  z = i.z;
  level = w.level;
  material = w.material;
  step = w.step;
  read = λ r. number_read w r i;
  number = number_given w;
}
