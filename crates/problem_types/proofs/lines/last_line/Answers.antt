use Rattle.std.proofs.Common.{◌∙◌, sym, map}
use Rattle.problem_types.specs.Form.{grid_lines, schedule_lines, later_lines}
use Rattle.problem_types.proofs.Ascent.{broken, stops_at_variables, stops_at_reductions, goes_on}
use Rattle.problem_types.proofs.lines.last_line.Goals as goal

pub returns-in_err-last_of_grid : goal.returns-in_err-last_of_grid
unfolding later_lines
returns-in_err-last_of_grid c =
    let p = c.args.p.now in
    c.from_residual.ensures ∙ sym (broken p.version.line (grid_lines p) _ (sym c.last_of_grid.ensures ∙ c.in_err-last_of_grid.was))

pub returns-in_err-last_variable : goal.returns-in_err-last_variable
unfolding later_lines
returns-in_err-last_variable c =
    let p = c.args.p.now in
    c.from_residual-in_err-last_variable.ensures ∙ sym (stops_at_variables p.version.line (grid_lines p)
    (map (λ v. v.line) p.vars) (map (λ q. q.line) p.reductions) (schedule_lines p)
    c.in_ok-last_of_grid.last_of_grid (sym c.last_of_grid.ensures ∙ c.in_ok-last_of_grid.was)
    ((rw c.as_slice.ensures at (sym c.last_of.ensures)) ∙ c.in_err-last_variable.was))

pub returns-in_err-last_reduction : goal.returns-in_err-last_reduction
unfolding later_lines
returns-in_err-last_reduction c =
    let p = c.args.p.now in
    c.from_residual-in_err-last_reduction.ensures ∙ sym (stops_at_reductions p.version.line (grid_lines p)
    (map (λ v. v.line) p.vars) (map (λ q. q.line) p.reductions) (schedule_lines p)
    c.in_ok-last_of_grid.last_of_grid (sym c.last_of_grid.ensures ∙ c.in_ok-last_of_grid.was)
    c.in_ok-last_variable.last_variable ((rw c.as_slice.ensures at (sym c.last_of.ensures)) ∙ c.in_ok-last_variable.was)
    ((rw c.as_slice-2.ensures at (sym c.last_of-2.ensures)) ∙ c.in_err-last_reduction.was))

pub returns : goal.returns
unfolding later_lines
returns c =
    let p = c.args.p.now in
    c.last_of_schedule.ensures ∙ sym (goes_on p.version.line (grid_lines p)
    (map (λ v. v.line) p.vars) (map (λ q. q.line) p.reductions) (schedule_lines p)
    c.in_ok-last_of_grid.last_of_grid (sym c.last_of_grid.ensures ∙ c.in_ok-last_of_grid.was)
    c.in_ok-last_variable.last_variable ((rw c.as_slice.ensures at (sym c.last_of.ensures)) ∙ c.in_ok-last_variable.was)
    c.in_ok-last_reduction.last_reduction ((rw c.as_slice-2.ensures at (sym c.last_of-2.ensures)) ∙ c.in_ok-last_reduction.was))
