use Rattle.uts.proofs.Answered.{one_answer}
use Rattle.uts.proofs.laws.one_answer.Goals as goal

pub returns : goal.returns
returns c =
    one_answer c.one_problem.ensures c.one_bad_line.ensures c.no_problem_with_a_bad_line.ensures c.every_text_is_judged.ensures
    c.problems_are_in_form.ensures c.problems_are_judged.ensures c.first_faults_are_one.ensures c.accepted_problems_have_none.ensures
