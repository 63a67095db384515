use Rattle.uts.proofs.Told.{not_refused, prefix_of_each, prefix_of_none}
use Rattle.uts.proofs.serve.serve.Goals as goal

pub returns-in_err-checked-clause-prefix : goal.returns-in_err-checked-clause-prefix
returns-in_err-checked-clause-prefix g c = prefix_of_none c.args.command g.O.Sink.after g.met.O.Sink.after_none _ _

pub returns-in_err-write_answer-clause-unrefused : goal.returns-in_err-write_answer-clause-unrefused
returns-in_err-write_answer-clause-unrefused g c = λ fault.
    not_refused c.one_problem.ensures c.no_problem_with_a_bad_line.ensures c.accepted_problems_have_none.ensures _ _ _
    c.in_ok-checked.ensures.spelled c.in_ok-checked.ensures.accepted

pub returns-in_err-write_answer-clause-refused : goal.returns-in_err-write_answer-clause-refused
returns-in_err-write_answer-clause-refused g c =
    not_refused c.one_problem.ensures c.no_problem_with_a_bad_line.ensures c.accepted_problems_have_none.ensures _ _ _
    c.in_ok-checked.ensures.spelled c.in_ok-checked.ensures.accepted

pub returns-in_err-write_answer-clause-prefix : goal.returns-in_err-write_answer-clause-prefix
returns-in_err-write_answer-clause-prefix g c =
    prefix_of_each c.one_problem.ensures c.no_problem_with_a_bad_line.ensures c.accepted_problems_have_none.ensures c.args.command
    g.O.Sink.after _ _ _ _ c.in_ok-checked.ensures.spelled c.in_err-write_answer.ensures.prefix

pub returns-clause-refused : goal.returns-clause-refused
returns-clause-refused g c =
    not_refused c.one_problem.ensures c.no_problem_with_a_bad_line.ensures c.accepted_problems_have_none.ensures _ _ _
    c.in_ok-checked.ensures.spelled c.in_ok-checked.ensures.accepted

pub returns-clause-prefix : goal.returns-clause-prefix
returns-clause-prefix g c =
    prefix_of_each c.one_problem.ensures c.no_problem_with_a_bad_line.ensures c.accepted_problems_have_none.ensures c.args.command
    g.O.Sink.after _ _ _ _ c.in_ok-checked.ensures.spelled c.in_ok-write_answer.ensures.prefix
