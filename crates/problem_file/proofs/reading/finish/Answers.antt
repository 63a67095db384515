use Rattle.std.proofs.Common.{sym, subst, arith}
use Rattle.std.proofs.lemmas.Grind.{common_steps}
use Rattle.problem_file.specs.Grammar.{Spells}
use Rattle.problem_file.proofs.Reached.{early_end, spelled_at_end}
use Rattle.problem_file.proofs.reading.finish.Goals as goal

pub returns-then-not-is_end-clause-bad_text : goal.returns-then-not-is_end-clause-bad_text
returns-then-not-is_end-clause-bad_text c =
    early_end c.args.text.now c.args.lines c.args.names.now c.args.draft c.requires.read (λ is. grind (arith, common_steps, c.is_end.ensures))

pub returns-clause-found : goal.returns-clause-found
returns-clause-found c =
    let spelled = spelled_at_end c.args.text.now c.args.lines c.args.names.now c.args.draft c.requires.read (grind (arith, common_steps, c.is_end.ensures)) in
    subst (λ w. Spells c.args.text.now (record c.args.draft.problem { names = w })) (sym c.in_ok-names.ensures) spelled
