-- The parts of a kernel have room in the scratch.
use Rattle.std.proofs.Common.{◌≡◌, ◌∙◌, ℕ, ◌+◌, ◌*◌, ◌≤◌, ◌<◌, max, ap, arith}
use Rattle.std.proofs.Math.Nat.{mul-le-mul_left}
use Rattle.kernel_ast.specs.Size.{depth_of, depth_of-Neg, depth_of-Binary, depth_of-Select}
use Rattle.kernel_ast.specs.declared.expression.Op.{Op}
use Rattle.kernel_ast.specs.declared.expression.Expr.{Expr}
use Rattle.kernel_ast.specs.declared.expression.Expr.TheVariants as expr
use Rattle.kernel_rows.specs.Scratch.{scratch_of}

-- less deep by a level at least
abbrev pub IsPart : Expr → Expr → Type 0
IsPart part whole = depth_of part + 1 ≤ depth_of whole

pub part_of_Neg : (whole a : Expr) → whole ≡ expr.Neg a → IsPart a whole
part_of_Neg whole a is =
    let deep : depth_of whole ≡ depth_of a + 1 = ap depth_of is ∙ depth_of-Neg a in
    omega arith

pub parts_of_Binary : (whole : Expr) (o : Op) (a b : Expr) → whole ≡ expr.Binary o a b → IsPart a whole × IsPart b whole
parts_of_Binary whole o a b is =
    let deep : depth_of whole ≡ max (depth_of a) (depth_of b) + 1 = ap depth_of is ∙ depth_of-Binary o a b in
    (omega arith, omega arith)

pub parts_of_Select : (whole c a b : Expr) → whole ≡ expr.Select c a b → IsPart c whole × IsPart a whole × IsPart b whole
parts_of_Select whole c a b is =
    let deep : depth_of whole ≡ max (depth_of c) (max (depth_of a) (depth_of b)) + 1 = ap depth_of is ∙ depth_of-Select c a b in
    (omega arith, omega arith, omega arith)

-- a part, here as it was read, is less deep than the whole of depth t, and leaves two rows of its scratch
pub fits_beside : (width places t : ℕ) (read part whole : Expr) → read ≡ part → IsPart part whole → depth_of whole ≡ t →
    scratch_of width (depth_of whole) ≤ places → (depth_of read < t) × (scratch_of width (depth_of read) + 2 * width ≤ places)
fits_beside width places t read part whole is below deep room =
    let same : depth_of read ≡ depth_of part = ap depth_of is in
    let less : depth_of read + 1 ≤ depth_of whole = omega arith in
    (omega arith, omega (arith, mul-le-mul_left width less))
