use Rattle.std.proofs.Common.{◌∙◌, List, ℤ, map, ap, sym}
use Rattle.problem_types.specs.Lists.{centring_of}
use Rattle.problem_types.specs.Regions.{indexes_of}
use Rattle.problem_types.specs.declared.problem.Problem.{Problem}
use Rattle.plain_engine.specs.Moments.{kernel_at}
use Rattle.plain_engine.specs.declared.written.WrittenField.{WrittenField}
use Rattle.plain_engine.proofs.fields.written_field.Goals as goal

pub returns : goal.returns
returns c =
    let moment = c.args.moment.now in
    let p = moment.checked.now in
    let write = c.args.write.now in
    let centring = c.centring_of-centring.ensures ∙ ap (λ (q : Problem). centring_of q write.name) c.problem.ensures.problem in
    let indexes = ap (indexes_of p c.args.level) (sym centring) ∙ c.space_on-span.ensures.space.indexes in
    let numbers = c.in_ok-numbers.ensures
    ∙ ap (map (kernel_at moment write.expr c.args.level c.args.material)) (sym indexes) in
    ap (λ (numbers : List ℤ). let field : WrittenField = record { name = write.name; material = c.args.material; level = c.args.level; numbers = numbers } in field) numbers
