use Rattle.std.proofs.Common.{◌≡◌, ◌≢◌, ◌∙◌, ◌≤◌, ◌<◌, ℕ, ℤ, List, pos, ◌+ℤ◌, length, map, fold, ap, rules, arith, to_z, of_z, w64, FitsSigned}
use Rattle.std.specs.Prelude.{slice_index_or}
use Rattle.std.proofs.lemmas.Int.{to_z-of_z}
use Rattle.std.proofs.lemmas.List.{get_or-set_other}
use Rattle.std.proofs.lemmas.List.Edits.{fill_by_more}
use Rattle.reductions.specs.Folding.{combined}
use Rattle.whole_fields.specs.Children.{stretch, children_on_x}
use Rattle.whole_fields.specs.Views.{number_along}
use Rattle.whole_fields.proofs.OnRows.{next_x, x_fits}
use Rattle.whole_fields.proofs.fine.FineFold.add_row.Goals as goal

pub loop-number-preserved : goal.loop-number-preserved
loop-number-preserved c =
    let fine = c.args.self.now in
    let i = c.loop-number.number-index in
    let out = c.loop-number.out in
    let x = to_z w64 c.loop-number.x-bits in
    let low = c.args.row.low in
    let row = number_along c.args.along.now.low c.args.along.now.numbers.now c.args.along.now.outside in
    let old = slice_index_or c.args.out.now i (pos 0) in
    let folded : ℕ → ℤ = λ k. fold (combined fine.fold) (slice_index_or c.args.out.now k (pos 0)) (map row (children_on_x fine.ratio fine.centring fine.field.space (low +ℤ pos k))) in
    let fits_x : FitsSigned w64 x = search rules in
    let fits_high : FitsSigned w64 c.args.row.high = search rules in
    let fits_number : FitsSigned w64 (slice_index_or out i (pos 0)) = search rules in
    let fits_all : FitsSigned w64 c.combine_children.result = search rules in
    let next : x ≡ low +ℤ pos i = c.loop-number.invariant.next in
    let fits_next = x_fits x low c.args.row.high i next (omega arith) fits_x fits_high in
    let within : i < length out = omega arith in
    let same : i ≤ i = omega arith in
    let number : c.combine_children.result ≡ folded i =
    c.combine_children.ensures
    ∙ ap (λ (n : ℤ). fold (combined fine.fold) n (map row (stretch c.on_x.result.first c.on_x.result.count)))
    (to_z-of_z w64 (slice_index_or out i (pos 0)) fits_number ∙ c.loop-number.invariant.left i same)
    ∙ ap (λ (xs : List ℤ). fold (combined fine.fold) old (map row xs)) c.on_x.ensures
    ∙ ap (λ (n : ℤ). fold (combined fine.fold) old (map row (children_on_x fine.ratio fine.centring fine.field.space n))) next in
    let written : to_z w64 (of_z w64 c.combine_children.result) ≡ folded i = to_z-of_z w64 c.combine_children.result fits_all ∙ number in
    record {
      next = to_z-of_z w64 (x +ℤ pos 1) fits_next ∙ next_x x low i next;
      done = rw written (fill_by_more folded out i (pos 0) within c.loop-number.invariant.done);
      left = λ k after.
          get_or-set_other out i k (to_z w64 (of_z w64 c.combine_children.result)) (pos 0) (let differs : k ≢ i = omega arith in differs)
          ∙ c.loop-number.invariant.left k (omega arith);
    }
