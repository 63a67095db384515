use Rattle.std.proofs.Common.{◌≡◌, ◌∙◌, ap, rules, ℤ, w64, FitsSigned}
use Rattle.std.proofs.lemmas.Int.{to_z-of_z}
use Rattle.uts_geom.specs.Spans.{indexes_of}
use Rattle.reductions.specs.Folding.{identity_of}
use Rattle.refine_coarsen.specs.FineFolds.{with_indexes}
use Rattle.refine_coarsen.proofs.Adding.{is_fold}
use Rattle.refine_coarsen.proofs.folds.fine_fold.Goals as goal

pub returns : goal.returns
returns c =
    let fits : FitsSigned w64 c.identity.result = search rules in
    let fits_all : FitsSigned w64 c.with_all.result = search rules in
    let begin : c.identity.result ≡ _ = c.identity.ensures ∙ ap identity_of c.fold_for.ensures in
    simp to_z-of_z (
    (simp to_z-of_z at c.with_all.ensures)
    ∙ ap (λ (n : ℤ). with_indexes c.args.how c.args.w.now n (indexes_of c.args.kids)) begin
    ∙ is_fold c.args.how c.args.w.now (indexes_of c.args.kids) c.requires.fine c.requires.few)
