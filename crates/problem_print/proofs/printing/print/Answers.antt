use Rattle.std.proofs.Common.{List, ℕ, ◌++◌, sym, subst, ap, ◌∙◌}
use Rattle.problem_file.specs.Grammar.{Spells}
use Rattle.problem_file.specs.Statements.{statements_of}
use Rattle.problem_print.specs.Printed.{lines_text, printed_text}
use Rattle.problem_print.proofs.printing.print.Goals as goal

pub returns-in-Ok-clause-printed : goal.returns-in-Ok-clause-printed
unfolding printed_text
returns-in-Ok-clause-printed c =
    let p = c.args.p.now in
    c.in-Ok.ensures.text ∙ ap (λ (front : List ℕ). front ++ lines_text p.names 0 (statements_of p)) c.new.ensures.items

pub returns-in-Ok-clause-spelled : goal.returns-in-Ok-clause-spelled
returns-in-Ok-clause-spelled c =
    let p = c.args.p.now in
    subst (λ (text : List ℕ). Spells text p) (sym (returns-in-Ok-clause-printed c))
    (c.printed_text_is_read.ensures p (c.spelled_can_be_printed.ensures p c.requires))

pub returns-in-Ok-clause-read_again : goal.returns-in-Ok-clause-read_again
returns-in-Ok-clause-read_again c = λ q spells. c.one_problem.ensures _ q c.args.p.now spells (returns-in-Ok-clause-spelled c)
