use Rattle.problem_print.proofs.Spelled.{printed_is_read}
use Rattle.problem_print.proofs.laws.printed_text_is_read.Goals as goal

pub returns : goal.returns
returns c = printed_is_read c.token_is_read_again.ensures c.whole_problems_are_in_order.ensures
