use Rattle.std.proofs.Common.{◌≡◌, ◌∙◌, rules, pos, Bool, true, ap, sym, w64, FitsSigned}
use Rattle.std.specs.Prelude.{nat_abs, if◌then◌else◌}
use Rattle.std.proofs.lemmas.Bool.{and_from}
use Rattle.std.proofs.lemmas.Int.{to_z-of_z}
use Rattle.uts_geom.specs.Spans.{indexes_of}
use Rattle.refine_coarsen.specs.Levels.{children_at}
use Rattle.refine_coarsen.specs.FineFolds.{fine_fold_of}
use Rattle.kernel_eval.specs.Environments.{is_near, is_ratio}
use Rattle.kernel_eval.proofs.numbers.fine_number.Goals as goal

pub children-requires-clause-near : goal.children-requires-clause-near
children-requires-clause-near c = c.is_near.ensures.means c.if-is_near.true

pub returns-then-is_near : goal.returns-then-is_near
returns-then-is_near c =
    let part = c.args.part.now in
    let fits : FitsSigned w64 part.ratio = search rules in
    let fits_new : FitsSigned w64 c.fine_fold.result = search rules in
    let refined : is_ratio part.ratio ≡ true = sym (simp to_z-of_z at c.is_ratio.ensures.is) ∙ c.if-is_ratio.true in
    let near : is_near c.args.i ≡ true = sym c.is_near.ensures.is ∙ c.if-is_near.true in
    let kids : indexes_of c.children.result ≡ children_at (nat_abs part.ratio) part.centring c.args.i = simp to_z-of_z at c.children.ensures.indexes in
    simp to_z-of_z (
    c.fine_fold.ensures
    ∙ ap (fine_fold_of c.args.how part.window) kids
    ∙ sym (ap (λ (t : Bool). if t then fine_fold_of c.args.how part.window (children_at (nat_abs part.ratio) part.centring c.args.i) else pos 0)
    (and_from _ _ refined near)))
