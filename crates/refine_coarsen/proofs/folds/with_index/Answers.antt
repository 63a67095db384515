use Rattle.std.proofs.Common.{◌∙◌, ap, sym, rules, w64, FitsSigned}
use Rattle.std.proofs.lemmas.Int.{to_z-of_z}
use Rattle.problem_types.specs.declared.problem.Fold.{Fold}
use Rattle.reductions.specs.Folding.{combined}
use Rattle.refine_coarsen.specs.FineFolds.{fold_for}
use Rattle.refine_coarsen.proofs.Adding.{with_held, with_other}
use Rattle.refine_coarsen.proofs.folds.with_index.Goals as goal

pub returns-then-holds : goal.returns-then-holds
returns-then-holds c =
    let fits : FitsSigned w64 c.args.before = c.ranges.before in
    let fits_number : FitsSigned w64 c.number_for.result = search rules in
    let fits_all : FitsSigned w64 c.combine.result = search rules in
    simp to_z-of_z (
    (simp to_z-of_z at c.combine.ensures)
    ∙ ap (λ (f : Fold). combined f c.args.before c.number_for.result) c.fold_for.ensures
    ∙ ap (combined (fold_for c.args.how) c.args.before) c.number_for.ensures
    ∙ sym (with_held c.args.how c.args.w.now c.args.before c.args.i (sym c.holds.ensures ∙ c.if-holds.true)))

pub returns-else-holds : goal.returns-else-holds
returns-else-holds c =
    let fits : FitsSigned w64 c.args.before = c.ranges.before in
    simp to_z-of_z (sym (with_other c.args.how c.args.w.now c.args.before c.args.i (sym c.holds.ensures ∙ c.if-holds.false)))
