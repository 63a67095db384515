use Rattle.std.proofs.Common.{◌≡◌, ◌∙◌, true, arith, ap}
use Rattle.std.proofs.lemmas.Grind.{common_steps}
use Rattle.slot_contents.specs.Contents.{owned_on}
use Rattle.problem_types.specs.Lists.{centring_of, is_of_field}
use Rattle.problem_types.specs.declared.problem.Problem.{Problem}
use Rattle.run_task.proofs.room.output_for.Goals as goal

pub returns : goal.returns
returns c =
    let p = c.args.job.now.checked.now in
    let of_field : is_of_field c.args.write.now.kind ≡ true = grind (arith, common_steps) in (
      of_field,
      c.in_ok-field_for.ensures ∙ ap (owned_on p c.args.site.level c.args.site.patch)
          (c.centring_of-centring.ensures ∙ ap (λ (q : Problem). centring_of q c.args.write.now.name) c.problem.ensures.problem),
    )
