use Rattle.std.proofs.Common.{◌∙◌, Bool, List, [], ◌∷◌, take, ap, sym, subst, arith}
use Rattle.std.specs.List.{filter}
use Rattle.std.proofs.lemmas.List.{take_all, take_more}
use Rattle.std.proofs.lemmas.List.Elements.{filter-append}
use Rattle.problem_types.specs.declared.problem.Require.{Require}
use Rattle.task_check.specs.Plan.{is_of_number}
use Rattle.run_task.specs.Gathered.{AreGiven}
use Rattle.run_task.proofs.parts.numbers_for.Goals as goal

pub loop-require-preserved : goal.loop-require-preserved
loop-require-preserved c = λ p site.
    let items = c.as_slice-require-items.result.now in
    let i = c.loop-require.require-index in
    let test : Require → Bool = λ r. is_of_number r.what in
    subst (λ (requirements : List Require). AreGiven p site [] requirements c.push_number.new.numbers.items)
    (sym (ap (filter test) (take_more items i _ (omega arith)) ∙ filter-append test (take i items) (_ ∷ [])))
    (c.in_ok-push_number.ensures p site (filter test (take i items)) (c.loop-require.invariant p site))

pub returns : goal.returns
returns c = λ p site.
    let items = c.as_slice-require-items.result.now in
    let i = c.loop-require.require-index in
    subst (λ (requirements : List Require). AreGiven p site [] (filter (λ r. is_of_number r.what) requirements) c.loop-require.numbers.items)
    (take_all i items c.loop-require-test.false ∙ c.as_slice-require-items.ensures) (c.loop-require.invariant p site)
