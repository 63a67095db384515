use Rattle.std.proofs.Common.{◌∙◌, ◌<◌, pos, length, get_or, set, ap, arith, w64, to_z, of_z}
use Rattle.std.proofs.lemmas.List.{get_or_default}
use Rattle.std.proofs.lemmas.List.Edits.{map_over_more}
use Rattle.kernel_ast.specs.declared.expression.Store.TheVariants.{Old}
use Rattle.kernel_eval.specs.declared.windows.Given.{Given}
use Rattle.run_task.specs.Putting.{with_number}
use Rattle.run_task.proofs.gathering.give_number.Goals as goal

abbrev blank : Given
blank = record { store = Old; name = 0; number = pos 0 }

pub loop-given-preserved : goal.loop-given-preserved
loop-given-preserved c =
    let before = c.deref_mut-given-items.result.now in
    let now = c.loop-given.given-items in
    let i = c.loop-given.given-index in
    let n = to_z w64 (of_z w64 c.args.n) in
    let x = get_or now i blank in
    let within : i < length now = omega arith in
    ap (set now i) c.give_to.ensures
    ∙ map_over_more (with_number c.args.slot n) before now i x (omega arith) c.loop-given.invariant (get_or_default now i blank x within)
