use Rattle.std.proofs.Common.{◌≡◌, ◌∙◌, ℤ, ap, sym, subst, rules, w64, FitsSigned, fold, map, to_z, of_z}
use Rattle.std.specs.Prelude.{IsTrue}
use Rattle.std.proofs.lemmas.Int.{to_z-of_z}
use Rattle.std.proofs.lemmas.Option.{same_Some}
use Rattle.uts_geom.specs.Spans.{indexes_of, is_inside}
use Rattle.uts_geom.specs.declared.span.Span.{Span}
use Rattle.problem_types.specs.Lists.{fold_of, is_reduces}
use Rattle.problem_types.specs.declared.problem.Fold.{Fold}
use Rattle.problem_types.specs.declared.problem.Problem.{Problem}
use Rattle.problem_types.specs.declared.problem.Write.{Write}
use Rattle.task_check.specs.Supplies.{kernel_centring}
use Rattle.reductions.specs.Folding.{all_combined, combined}
use Rattle.kernel_eval.specs.Environments.{number_given, number_read}
use Rattle.kernel_sweeps.specs.Sweeps.{number_at}
use Rattle.slot_contents.specs.Contents.{owned_on}
use Rattle.uts_model.specs.WholeField.{reduced_centring}
use Rattle.run_task.proofs.Lines.{number_fits}
use Rattle.run_task.proofs.Swept.{centring_of_reduction, sweep_agrees}
use Rattle.run_task.proofs.running.fold_line.Goals as goal

pub returns : goal.returns
returns c = λ w at.
    let k = c.args.k.now in
    let p = k.checked.now in
    let same : c.args.write.now ≡ w = same_Some c.args.write.now w (sym c.requires.line ∙ at) in
    let reduces = ap (λ (v : Write). is_reduces v.kind) (sym same) ∙ c.requires.reduces in
    let centring = centring_of_reduction p w.name w.kind reduces in
    let owned = owned_on p k.site.level k.site.patch in
    let span : c.sweep_of.result.span ≡ owned (kernel_centring p w) = c.sweep_of.ensures.span ∙ ap (λ (v : Write). owned (kernel_centring p v)) same in
    let agrees = sweep_agrees c.windows_are_covered.ensures c.outside_stands_outside.ensures c.numbers_are_read.ensures c.offsets_fit_windows.ensures c.accepted_problems_are_bounded.ensures
    p k.task.now k.site k.windows.now c.requires.sees c.args.line w at c.sweep_of.result
    (c.sweep_of.ensures.kernel ∙ ap (λ (v : Write). v.expr) same) c.sweep_of.ensures.step c.sweep_of.ensures.level c.sweep_of.ensures.material in
    let fits : FitsSigned w64 c.fold_numbers.result = search rules in
    let begins : FitsSigned w64 c.identity.result = search rules in
    let number = number_at c.sweep_of.result (number_read k.windows.now) (number_given k.windows.now) in
    let how : c.fold_of-fold.result ≡ fold_of p w.name = c.fold_of-fold.ensures ∙ ap (λ (q : Problem). fold_of q c.args.write.now.name) c.problem.ensures.problem ∙ ap (λ (v : Write). fold_of p v.name) same in
    let total : c.fold_numbers.result ≡ all_combined (fold_of p w.name) (map number (indexes_of (owned (reduced_centring w.kind)))) =
    c.fold_numbers.ensures
    ∙ ap (λ (n : ℤ). fold (combined c.fold_of-fold.result) n (map number (indexes_of c.sweep_of.result.span))) (to_z-of_z w64 c.identity.result begins ∙ c.identity.ensures)
    ∙ ap (λ (f : Fold). all_combined f (map number (indexes_of c.sweep_of.result.span))) how
    ∙ ap (λ (s : Span). all_combined (fold_of p w.name) (map number (indexes_of s))) (span ∙ ap owned centring) in
    number_fits p k.task.now k.site c.args.line w c.requires.sees.task at c.spans_hold_their_indexes.ensures reduces number (to_z w64 (of_z w64 c.fold_numbers.result))
    (to_z-of_z w64 c.fold_numbers.result fits ∙ total)
    (λ i inside. agrees i (subst (λ (s : Span). IsTrue (is_inside s i)) (sym (ap owned centring)) inside))
