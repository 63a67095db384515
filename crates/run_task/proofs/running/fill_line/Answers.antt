use Rattle.std.proofs.Common.{◌≡◌, ◌∙◌, ap, sym, subst}
use Rattle.std.specs.Prelude.{IsTrue}
use Rattle.std.proofs.lemmas.Option.{same_Some}
use Rattle.uts_geom.specs.Spans.{is_inside}
use Rattle.uts_geom.specs.declared.span.Span.{Span}
use Rattle.problem_types.specs.declared.problem.Write.{Write}
use Rattle.task_check.specs.Supplies.{kernel_centring}
use Rattle.slot_contents.specs.Contents.{owned_on}
use Rattle.run_task.proofs.Lines.{field_fits}
use Rattle.run_task.proofs.Swept.{centring_of_field, sweep_agrees}
use Rattle.run_task.proofs.running.fill_line.Goals as goal

pub returns : goal.returns
returns c = λ w at.
    let k = c.args.k.now in
    let p = k.checked.now in
    let same : c.args.write.now ≡ w = same_Some c.args.write.now w (sym c.requires.line ∙ at) in
    let ready = c.requires.room w at in
    let centring = centring_of_field p w.name w.kind ready.0.0 in
    let owned = owned_on p k.site.level k.site.patch in
    let span : c.sweep_of.result.span ≡ owned (kernel_centring p w) = c.sweep_of.ensures.span ∙ ap (λ (v : Write). owned (kernel_centring p v)) same in
    let agrees = sweep_agrees c.windows_are_covered.ensures c.outside_stands_outside.ensures c.numbers_are_read.ensures c.offsets_fit_windows.ensures c.accepted_problems_are_bounded.ensures
    p k.task.now k.site k.windows.now c.requires.sees c.args.line w at c.sweep_of.result
    (c.sweep_of.ensures.kernel ∙ ap (λ (v : Write). v.expr) same) c.sweep_of.ensures.step c.sweep_of.ensures.level c.sweep_of.ensures.material in
    field_fits p k.task.now k.site c.args.line w c.requires.sees.task at c.spans_hold_their_indexes.ensures c.kernels_make_fields.ensures c.requires.sees.runs ready.0.0 c.fill_field.new.field
    (c.fill_field.ensures.span ∙ span ∙ ap owned centring)
    (sym c.numbers-numbers.ensures.kept ∙ c.numbers-numbers.ensures.numbers)
    (λ i inside.
    let here = subst (λ (s : Span). IsTrue (is_inside s i)) (sym (ap owned centring)) inside in
    c.fill_field.ensures.numbers i (subst (λ (s : Span). IsTrue (is_inside s i)) (sym span) here) ∙ agrees i here)
