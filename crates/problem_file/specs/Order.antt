-- Which statement may follow which.
use Rattle.std.specs.Prelude.{List, [], ◌∷◌, Option, Some, None}
use Rattle.std.specs.Option.{option_and_then}
use Rattle.statement_parse.specs.Kinds.{kind_of}
use Rattle.statement_parse.specs.declared.statement.StatementKind.{StatementKind}
use Rattle.statement_parse.specs.declared.statement.StatementKind.TheVariants as kind
use Rattle.problem_file.specs.Statements.{Placed}
use Rattle.problem_file.specs.declared.order.TaskList.TheVariants as list
use Rattle.problem_file.specs.declared.order.Place.{Place}
use Rattle.problem_file.specs.declared.order.Place.TheVariants as place

-- The place behind a statement that may come at a place, none where it may not come there. The version, the steps, the
-- dump period, the layers of ghost data and the materials come first, each once. A level has one box and then its patches.
-- Variables come before reductions. A task has its requirements before what it writes, at least one line.
abbrev pub next_place : Place → StatementKind → Option Place
next_place place.Start kind.Version = Some place.Version
next_place place.Version kind.Steps = Some place.Steps
next_place place.Steps kind.Dump = Some place.Dump
next_place place.Dump kind.Ghost = Some place.Ghost
next_place place.Ghost kind.Materials = Some place.Materials
next_place place.Materials kind.Level = Some place.Level
next_place place.Level kind.Box = Some place.Box
next_place place.Box kind.Patch = Some place.Patch
next_place place.Patch kind.Patch = Some place.Patch
next_place place.Patch kind.Level = Some place.Level
next_place place.Patch kind.Var = Some place.Var
next_place place.Patch kind.Reduction = Some place.Reduction
next_place place.Patch kind.Init = Some (place.Opened list.Init)
next_place place.Var kind.Var = Some place.Var
next_place place.Var kind.Reduction = Some place.Reduction
next_place place.Var kind.Init = Some (place.Opened list.Init)
next_place place.Reduction kind.Reduction = Some place.Reduction
next_place place.Reduction kind.Init = Some (place.Opened list.Init)
next_place (place.Opened tasks) kind.Task = Some (place.Task tasks)
next_place (place.Opened list.Init) kind.Timestep = Some (place.Opened list.Timestep)
next_place (place.Opened list.Timestep) kind.Keep = Some place.Keep
next_place (place.Opened list.Timestep) kind.End = Some place.End
next_place (place.Task tasks) kind.Require = Some (place.Task tasks)
next_place (place.Task tasks) kind.Write = Some (place.Write tasks)
next_place (place.Write tasks) kind.Write = Some (place.Write tasks)
next_place (place.Write tasks) kind.Task = Some (place.Task tasks)
next_place (place.Write list.Init) kind.Timestep = Some (place.Opened list.Timestep)
next_place (place.Write list.Timestep) kind.Keep = Some place.Keep
next_place (place.Write list.Timestep) kind.End = Some place.End
next_place place.Keep kind.Keep = Some place.Keep
next_place place.Keep kind.End = Some place.End
next_place place kind = None

-- the place behind some statements, where each of them may come at its place
abbrev pub place_behind : Option Place → List Placed → Option Place
place_behind before [] = before
place_behind before (s ∷ ss) = place_behind (option_and_then (λ place. next_place place (kind_of s.statement)) before) ss
