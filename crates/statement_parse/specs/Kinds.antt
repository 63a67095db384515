-- Which statement a line says.
use Rattle.statement_parse.specs.declared.statement.Statement.{Statement}
use Rattle.statement_parse.specs.declared.statement.Statement.TheVariants as statement
use Rattle.statement_parse.specs.declared.statement.StatementKind.{StatementKind}
use Rattle.statement_parse.specs.declared.statement.StatementKind.TheVariants as kind

abbrev pub kind_of : Statement → StatementKind
kind_of (statement.Version n) = kind.Version
kind_of (statement.Steps n) = kind.Steps
kind_of (statement.Dump n) = kind.Dump
kind_of (statement.Ghost n) = kind.Ghost
kind_of (statement.Materials n) = kind.Materials
kind_of (statement.Level ratio) = kind.Level
kind_of (statement.Box corners) = kind.Box
kind_of (statement.Patch corners) = kind.Patch
kind_of (statement.Var name centring outside) = kind.Var
kind_of (statement.Reduction name fold) = kind.Reduction
kind_of statement.Init = kind.Init
kind_of (statement.Task name levels materials) = kind.Task
kind_of (statement.Require store what) = kind.Require
kind_of (statement.Write write name expr) = kind.Write
kind_of statement.Timestep = kind.Timestep
kind_of (statement.Keep name) = kind.Keep
kind_of statement.End = kind.End
