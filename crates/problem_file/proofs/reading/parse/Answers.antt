use Rattle.problem_file.proofs.Answered.{bad_line, found_only, bad_line_only, one_answer, found_in_form}
use Rattle.problem_file.proofs.reading.parse.Goals as goal

pub returns-clause-found_only : goal.returns-clause-found_only
returns-clause-found_only c =
    found_only c.args.text.now c.one_problem.ensures c.no_problem_with_a_bad_line.ensures c.read_all.result c.read_all.ensures.found c.read_all.ensures.bad_text

pub returns-clause-in_form : goal.returns-clause-in_form
returns-clause-in_form c = found_in_form c.args.text.now c.requires c.problems_are_in_form.ensures c.read_all.result c.read_all.ensures.found

pub returns-clause-bad_text : goal.returns-clause-bad_text
returns-clause-bad_text c = bad_line c.args.text.now c.read_all.result c.read_all.ensures.found c.read_all.ensures.bad_text

pub returns-clause-bad_text_only : goal.returns-clause-bad_text_only
returns-clause-bad_text_only c =
    bad_line_only c.args.text.now c.one_bad_line.ensures c.no_problem_with_a_bad_line.ensures c.read_all.result c.read_all.ensures.found c.read_all.ensures.bad_text

pub returns-clause-one_answer : goal.returns-clause-one_answer
returns-clause-one_answer c =
    one_answer c.args.text.now c.every_text_is_judged.ensures c.one_problem.ensures c.one_bad_line.ensures c.no_problem_with_a_bad_line.ensures
    c.read_all.result c.read_all.ensures.found c.read_all.ensures.bad_text
