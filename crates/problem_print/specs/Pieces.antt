-- What stands before the operands of an operation, and between them.
use Rattle.std.specs.Prelude.{ℕ, List, codes}
use Rattle.kernel_ast.specs.declared.expression.How.{How}
use Rattle.kernel_ast.specs.declared.expression.How.TheVariants as how
use Rattle.kernel_ast.specs.declared.expression.Op.{Op}
use Rattle.kernel_ast.specs.declared.expression.Op.TheVariants as op

abbrev pub opening_text : Op → List ℕ
opening_text op.Add = codes "("
opening_text op.Sub = codes "("
opening_text op.Mul = codes "("
opening_text op.Div = codes "("
opening_text op.Rem = codes "("
opening_text op.Lt = codes "("
opening_text op.Le = codes "("
opening_text op.Gt = codes "("
opening_text op.Ge = codes "("
opening_text op.Eq = codes "("
opening_text op.Ne = codes "("
opening_text op.Min = codes "min("
opening_text op.Max = codes "max("

abbrev pub middle_text : Op → List ℕ
middle_text op.Add = codes " + "
middle_text op.Sub = codes " - "
middle_text op.Mul = codes " * "
middle_text op.Div = codes " / "
middle_text op.Rem = codes " % "
middle_text op.Lt = codes " < "
middle_text op.Le = codes " <= "
middle_text op.Gt = codes " > "
middle_text op.Ge = codes " >= "
middle_text op.Eq = codes " == "
middle_text op.Ne = codes " != "
middle_text op.Min = codes ", "
middle_text op.Max = codes ", "

-- what stands between the store of a read and its name
abbrev pub level_text : How → List ℕ
level_text how.Same = codes "."
level_text how.Coarse = codes ".coarse."
level_text how.FineSum = codes ".fine_sum."
level_text how.FineMin = codes ".fine_min."
level_text how.FineMax = codes ".fine_max."
level_text how.FineCount = codes ".fine_count."
