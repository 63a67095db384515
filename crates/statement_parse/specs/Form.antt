-- Statements in form: the rules that hold for each statement by itself, over so many names.
use Rattle.std.specs.Prelude.{◌≡◌, ℕ, ◌<◌, ◌≤◌}
use Rattle.kernel_ast.specs.Form.{IsExpressionInForm}
use Rattle.problem_types.specs.Form.{IsNumberList, IsWhatInForm}
use Rattle.statement_parse.specs.declared.statement.Statement.{Statement}
use Rattle.statement_parse.specs.declared.statement.Statement.TheVariants as statement

abbrev pub IsStatementInForm : ℕ → Statement → Type 0
IsStatementInForm names (statement.Version n) = n ≡ 1
IsStatementInForm names (statement.Steps n) = Unit {0}
IsStatementInForm names (statement.Dump n) = 1 ≤ n
IsStatementInForm names (statement.Ghost n) = Unit {0}
IsStatementInForm names (statement.Materials n) = 1 ≤ n
IsStatementInForm names (statement.Level ratio) = Unit {0}
IsStatementInForm names (statement.Box corners) = Unit {0}
IsStatementInForm names (statement.Patch corners) = Unit {0}
IsStatementInForm names (statement.Var name centring outside) = name < names
IsStatementInForm names (statement.Reduction name fold) = name < names
IsStatementInForm names statement.Init = Unit {0}
IsStatementInForm names (statement.Task name levels materials) = (name < names) × IsNumberList levels × IsNumberList materials
IsStatementInForm names (statement.Require store what) = IsWhatInForm names what
IsStatementInForm names (statement.Write kind name expr) = (name < names) × IsExpressionInForm names expr
IsStatementInForm names statement.Timestep = Unit {0}
IsStatementInForm names (statement.Keep name) = name < names
IsStatementInForm names statement.End = Unit {0}
