use Rattle.std.proofs.Common.{rules, ap, Err}
use Rattle.uts.specs.Answer.{IsCommand, usage_line}
use Rattle.uts.specs.declared.failure.Failure.TheVariants.{Usage}
use Rattle.uts.proofs.Statuses.{error_line, told_whole, told_calm, told_part, nothing_told, nothing_told_part, of_reported, done_with, prefix_of_answer, completed_with, completed_refusal_with, refused_with, done_refusal, of_usage}
use Rattle.uts.proofs.top.quiet_top.Goals as goal

pub returns-in_default-clause-told : goal.returns-in_default-clause-told
returns-in_default-clause-told g c =
    let other : IsCommand c.args.words.now → ⊥ = search rules in
    of_usage _ _ _ _ _ _ c.report.ensures.told (λ told. told_whole _ _ Usage _ _ _ _ _ _ (usage_line other) told)

pub returns-in_default-clause-told_calm : goal.returns-in_default-clause-told_calm
returns-in_default-clause-told_calm g c = of_usage _ _ _ _ _ _ c.report.ensures.told (λ told few. told_calm Usage _ _ _ _ _ _ told few)

pub returns-in_default-clause-told_in_part : goal.returns-in_default-clause-told_in_part
returns-in_default-clause-told_in_part g c =
    let other : IsCommand c.args.words.now → ⊥ = search rules in
    of_usage _ _ _ _ _ _ c.report.ensures.told (λ told. told_part _ _ Usage _ _ _ _ _ _ (usage_line other) told)

pub returns-in-Ok-clause-done : goal.returns-in-Ok-clause-done
returns-in-Ok-clause-done g c = λ status. done_with c.one_problem.ensures c.no_problem_with_a_bad_line.ensures c.accepted_problems_have_none.ensures c.args.words.now c.in-Some.command c.in-Some.ensures _ _ _ _ c.in-Ok.ensures.done

pub returns-in-Ok-clause-prefix : goal.returns-in-Ok-clause-prefix
returns-in-Ok-clause-prefix g c =
    prefix_of_answer c.one_problem.ensures c.no_problem_with_a_bad_line.ensures c.accepted_problems_have_none.ensures c.args.words.now c.in-Some.command c.in-Some.ensures _ _ g.met.O.Sink.after_none _ _ c.serve.ensures.refused c.serve.ensures.prefix

pub returns-in-Ok-clause-told : goal.returns-in-Ok-clause-told
returns-in-Ok-clause-told g c = λ why. nothing_told _ _ _ g.met.E.Sink.after_none _

pub returns-in-Ok-clause-told_in_part : goal.returns-in-Ok-clause-told_in_part
returns-in-Ok-clause-told_in_part g c = nothing_told_part _ _ _ g.met.E.Sink.after_none _

pub returns-in-Ok-clause-completed_refusal : goal.returns-in-Ok-clause-completed_refusal
returns-in-Ok-clause-completed_refusal g c = done_refusal c.one_problem.ensures c.no_problem_with_a_bad_line.ensures c.accepted_problems_have_none.ensures c.args.words.now c.in-Some.command c.in-Some.ensures _ _ _ _ _ c.in-Ok.ensures.done

pub returns-in-Err-clause-refused : goal.returns-in-Err-clause-refused
returns-in-Err-clause-refused g c =
    of_reported _ _ _ c.in-Err.failure _ _ _ _ _ _ c.in-Err.ensures.reason c.report-in-Err.ensures.told
    (λ f reason same told. refused_with c.one_problem.ensures c.no_problem_with_a_bad_line.ensures c.accepted_problems_have_none.ensures c.args.words.now c.in-Some.command c.in-Some.ensures _ _ _ _ _ _ _ _ _ f reason told)

pub returns-in-Err-clause-prefix : goal.returns-in-Err-clause-prefix
returns-in-Err-clause-prefix g c =
    prefix_of_answer c.one_problem.ensures c.no_problem_with_a_bad_line.ensures c.accepted_problems_have_none.ensures c.args.words.now c.in-Some.command c.in-Some.ensures _ _ g.met.O.Sink.after_none _ _ c.serve.ensures.refused c.serve.ensures.prefix

pub returns-in-Err-clause-told : goal.returns-in-Err-clause-told
returns-in-Err-clause-told g c =
    of_reported _ _ _ c.in-Err.failure _ _ _ _ _ _ c.in-Err.ensures.reason c.report-in-Err.ensures.told
    (λ f reason same told. told_whole _ _ f _ _ _ _ _ _ (error_line _ _ _ _ _ f c.in-Some.ensures reason) told)

pub returns-in-Err-clause-told_calm : goal.returns-in-Err-clause-told_calm
returns-in-Err-clause-told_calm g c =
    of_reported _ _ _ c.in-Err.failure _ _ _ _ _ _ c.in-Err.ensures.reason c.report-in-Err.ensures.told (λ f reason same told few. told_calm f _ _ _ _ _ _ told few)

pub returns-in-Err-clause-told_in_part : goal.returns-in-Err-clause-told_in_part
returns-in-Err-clause-told_in_part g c =
    of_reported _ _ _ c.in-Err.failure _ _ _ _ _ _ c.in-Err.ensures.reason c.report-in-Err.ensures.told
    (λ f reason same told. told_part _ _ f _ _ _ _ _ _ (error_line _ _ _ _ _ f c.in-Some.ensures reason) told)

pub returns-in-Err-clause-completed : goal.returns-in-Err-clause-completed
returns-in-Err-clause-completed g c =
    of_reported _ _ _ c.in-Err.failure _ _ _ _ _ _ c.in-Err.ensures.reason c.report-in-Err.ensures.told
    (λ f reason same told. completed_with c.one_problem.ensures c.no_problem_with_a_bad_line.ensures c.accepted_problems_have_none.ensures c.args.words.now c.in-Some.command c.in-Some.ensures _ _ _ _ _ _ _ _ _ f reason told)

pub returns-in-Err-clause-completed_refusal : goal.returns-in-Err-clause-completed_refusal
returns-in-Err-clause-completed_refusal g c =
    of_reported _ _ _ c.in-Err.failure _ _ _ _ _ _ c.in-Err.ensures.reason c.report-in-Err.ensures.told
    (λ f reason same told. completed_refusal_with c.one_problem.ensures c.no_problem_with_a_bad_line.ensures c.accepted_problems_have_none.ensures c.args.words.now c.in-Some.command c.in-Some.ensures _ _ _ _ _ _ _ _ _ f reason told
    (λ fault. c.in-Err.ensures.unrefused (ap Err (same fault))))
