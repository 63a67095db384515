use Rattle.std.proofs.Common.{◌∙◌, sym, map}
use Rattle.problem_printable.specs.Progress.{reached, var_mark, reduction_mark, grid_marks, schedule_marks, problem_marks}
use Rattle.problem_printable.proofs.Steps.{broken, stops_at_variables, stops_at_reductions, goes_on}
use Rattle.problem_printable.proofs.progress.progress_of.Goals as goal

pub returns-in_err-last_of_grid : goal.returns-in_err-last_of_grid
unfolding problem_marks
returns-in_err-last_of_grid c =
    let p = c.args.p.now in
    c.from_residual.ensures ∙ sym (broken (reached 0 0) (grid_marks p) _ (sym c.behind_grid.ensures ∙ c.in_err-last_of_grid.was))

pub returns-in_err-last_variable : goal.returns-in_err-last_variable
unfolding problem_marks
returns-in_err-last_variable c =
    let p = c.args.p.now in
    c.from_residual-in_err-last_variable.ensures ∙ sym (stops_at_variables (reached 0 0) (grid_marks p)
    (map var_mark p.vars) (map reduction_mark p.reductions) (schedule_marks p)
    c.in_ok-last_of_grid.last_of_grid (sym c.behind_grid.ensures ∙ c.in_ok-last_of_grid.was)
    ((rw c.as_slice.ensures at (sym c.behind_list.ensures)) ∙ c.in_err-last_variable.was))

pub returns-in_err-last_reduction : goal.returns-in_err-last_reduction
unfolding problem_marks
returns-in_err-last_reduction c =
    let p = c.args.p.now in
    c.from_residual-in_err-last_reduction.ensures ∙ sym (stops_at_reductions (reached 0 0) (grid_marks p)
    (map var_mark p.vars) (map reduction_mark p.reductions) (schedule_marks p)
    c.in_ok-last_of_grid.last_of_grid (sym c.behind_grid.ensures ∙ c.in_ok-last_of_grid.was)
    c.in_ok-last_variable.last_variable ((rw c.as_slice.ensures at (sym c.behind_list.ensures)) ∙ c.in_ok-last_variable.was)
    ((rw c.as_slice-2.ensures at (sym c.behind_list-2.ensures)) ∙ c.in_err-last_reduction.was))

pub returns : goal.returns
unfolding problem_marks
returns c =
    let p = c.args.p.now in
    c.behind_schedule.ensures ∙ sym (goes_on (reached 0 0) (grid_marks p)
    (map var_mark p.vars) (map reduction_mark p.reductions) (schedule_marks p)
    c.in_ok-last_of_grid.last_of_grid (sym c.behind_grid.ensures ∙ c.in_ok-last_of_grid.was)
    c.in_ok-last_variable.last_variable ((rw c.as_slice.ensures at (sym c.behind_list.ensures)) ∙ c.in_ok-last_variable.was)
    c.in_ok-last_reduction.last_reduction ((rw c.as_slice-2.ensures at (sym c.behind_list-2.ensures)) ∙ c.in_ok-last_reduction.was))
