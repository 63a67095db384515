use Rattle.problem_printable.proofs.Law.{spelled_printable}
use Rattle.problem_printable.proofs.laws.spelled_can_be_printed.Goals as goal

pub returns : goal.returns
returns c = spelled_printable c.spelled_in_form.ensures c.token_is_the_longest.ensures
