use Rattle.std.proofs.Common.{◌≡◌, true, Bool, cond, List, [], ◌∷◌, ◌++◌, pos, refl, sym, subst, arith}
use Rattle.std.proofs.lemmas.Grind.{common_steps}
use Rattle.task_check.specs.Plan.{is_of_number}
use Rattle.kernel_eval.specs.declared.windows.Given.{Given}
use Rattle.run_task.specs.Gathered.{AreGiven, IsGivenFor}
use Rattle.run_task.proofs.Growing.{given_more, not_given_yet}
use Rattle.run_task.proofs.parts.push_number.Goals as goal

pub returns : goal.returns
returns c = λ p site before are.
    let r = c.args.require in
    let given : Given = record { store = r.store; name = c.wanted_name.result; number = pos 0 } in
    let is : IsGivenFor p site [] r given = record { store = refl; name = c.wanted_name.ensures; number = λ s has as_number. not_given_yet p site s has } in
    let of_number : is_of_number r.what ≡ true = grind (arith, common_steps) in
    subst (λ (b : Bool). AreGiven p site [] (before ++ cond b (r ∷ []) []) c.put.new.items.items) (sym of_number)
    (subst (λ (numbers : List Given). AreGiven p site [] (before ++ r ∷ []) numbers) (sym c.in_ok-put.ensures)
    (given_more p site before c.args.numbers.now.items r given is are))
