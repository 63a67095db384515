use Rattle.std.proofs.Common.{◌≡◌, ◌∙◌, ◌<◌, Some, sym, refl, arith, [], ◌∷◌}
use Rattle.std.specs.Prelude.{length, slice_get}
use Rattle.problem_types.specs.Levels.{KeepsGridLimits}
use Rattle.problem_types.specs.NearSpaces.{IsOnGridSpan, level_on_grid}
use Rattle.uts_model.specs.Spaces.{space_on_level, spaces_at}
use Rattle.uts_model.proofs.LevelSpaces.{inside_on_grid, on_level_at, not_there}
use Rattle.uts_model.proofs.Narrow.{narrow_space}
use Rattle.uts_model.proofs.grid.space.Goals as goal
use Rattle.uts_model.proofs.grid.space.Goals.{After-index_space}

limits : (c : After-index_space) → KeepsGridLimits c.in-Some.l.now
limits c = (c.requires.each c.args.level c.in-Some.l.now (sym c.in-Some.ensures)).limits

on_grid : (c : After-index_space) → IsOnGridSpan c.index_space.result
on_grid c = level_on_grid c.args.c c.in-Some.l.now c.index_space.result (limits c) c.index_space.ensures

pub index_space-requires : goal.index_space-requires
index_space-requires c = (c.requires.each c.args.level c.in-Some.l.now (sym c.in-Some.ensures)).limits

pub returns-in-Some-clause-space : goal.returns-in-Some-clause-space
returns-in-Some-clause-space c =
    space_on_level c.args.problem.now c.args.level c.args.c c.in-Some.l.now c.index_space.result (sym c.in-Some.ensures)
    (c.requires.each c.args.level c.in-Some.l.now (sym c.in-Some.ensures)).limits c.index_space.ensures

pub returns-in-Some-clause-only : goal.returns-in-Some-clause-only
returns-in-Some-clause-only c = λ below. spaces_at c.args.problem.now c.args.level c.args.c c.in-Some.l.now (sym c.in-Some.ensures) ∙ c.index_space.ensures

pub returns-in-Some-clause-narrow : goal.returns-in-Some-clause-narrow
returns-in-Some-clause-narrow c =
    narrow_space c.args.c c.in-Some.l.now c.index_space.result
    (c.requires.each c.args.level c.in-Some.l.now (sym c.in-Some.ensures)).limits c.index_space.ensures

pub returns-in-Some-clause-on_level : goal.returns-in-Some-clause-on_level
returns-in-Some-clause-on_level c =
    λ i inside. on_level_at c.args.problem.now c.args.level c.in-Some.l.now c.in-Some.ensures i
    (inside_on_grid c.index_space.result i (on_grid ((goal.at.returns-in-Some-clause-on_level c).After-index_space)) inside)

pub returns-in-None-clause-only : goal.returns-in-None-clause-only
returns-in-None-clause-only c = λ below. absurd (not_there c.args.problem.now c.args.level c.in-None.ensures below)
