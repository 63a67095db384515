use Rattle.std.proofs.Common.{◌≡◌, false, Bool, cond, List, [], ◌∷◌, ◌++◌, sym, subst, arith}
use Rattle.std.specs.Prelude.{not}
use Rattle.std.proofs.lemmas.Grind.{common_steps}
use Rattle.task_check.specs.Plan.{is_of_number}
use Rattle.kernel_eval.specs.declared.part.Part.{Part}
use Rattle.run_task.specs.Gathered.{AreParts}
use Rattle.run_task.proofs.Growing.{parts_more}
use Rattle.run_task.proofs.parts.push_part.Goals as goal

pub returns : goal.returns
returns c = λ before are.
    let p = c.args.job.now.checked.now in
    let t = c.args.task.now in
    let r = c.args.require in
    let of_variable : is_of_number r.what ≡ false = grind (arith, common_steps) in
    subst (λ (b : Bool). AreParts p t c.args.site [] (before ++ cond (not b) (r ∷ []) []) c.put.new.items.items) (sym of_variable)
    (subst (λ (parts : List Part). AreParts p t c.args.site [] (before ++ r ∷ []) parts) (sym c.in_ok-put.ensures)
    (parts_more p t c.args.site before c.args.parts.now.items r c.in_ok-part.part c.in_ok-part.ensures are))
