use Rattle.std.proofs.Common.{◌≡◌, ◌∙◌, ◌<◌, ℕ, ℤ, List, pos, ◌+ℤ◌, length, ap, sym, rules, arith, to_z, w64, FitsSigned}
use Rattle.std.specs.Prelude.{slice_index_or, slice_set}
use Rattle.std.specs.Int.{int_div_euclid}
use Rattle.std.proofs.lemmas.Int.{to_z-of_z}
use Rattle.std.proofs.lemmas.List.Edits.{fill_by_more}
use Rattle.uts_geom.specs.ByPlace.{listed_by}
use Rattle.whole_fields.specs.Views.{number_along}
use Rattle.whole_fields.proofs.OnRows.{next_x, x_fits}
use Rattle.whole_fields.proofs.Seen.{along_saturated}
use Rattle.whole_fields.proofs.coarse.fill_coarse.Goals as goal

pub loop-place-preserved : goal.loop-place-preserved
loop-place-preserved c =
    let i = c.loop-place.place-index in
    let out = c.loop-place.out in
    let along = c.args.along.now in
    let by = c.args.by in
    let low = c.args.row.low in
    let f : ℕ → ℤ = λ k. number_along along.low along.numbers.now along.outside (int_div_euclid (low +ℤ pos k) (pos c.args.ratio) +ℤ by) in
    let fits_by : FitsSigned w64 by = c.ranges.by in
    let fits_x : FitsSigned w64 (to_z w64 c.loop-place.x-bits) = search rules in
    let fits_coarse : FitsSigned w64 c.coarse.result = search rules in
    let fits_moved : FitsSigned w64 c.saturating_add.result = search rules in
    let fits_number : FitsSigned w64 c.at.result = search rules in
    let next : to_z w64 c.loop-place.x-bits ≡ low +ℤ pos i = c.loop-place.invariant.next in
    let fits_high : FitsSigned w64 c.args.row.high = search rules in
    let fits_next = x_fits (to_z w64 c.loop-place.x-bits) low c.args.row.high i next (omega arith) fits_x fits_high in
    let coarse : c.coarse.result ≡ int_div_euclid (low +ℤ pos i) (pos c.args.ratio) =
    c.coarse.ensures ∙ ap (λ (x : ℤ). int_div_euclid x (pos c.args.ratio)) next in
    let number : c.at.result ≡ f i =
    (simp to_z-of_z at c.at.ensures) ∙ ap (number_along along.low along.numbers.now along.outside) (simp to_z-of_z at c.saturating_add.ensures)
    ∙ along_saturated along.low along.numbers.now along.outside along.near along.short (c.coarse.result +ℤ by)
    ∙ ap (λ (x : ℤ). number_along along.low along.numbers.now along.outside (x +ℤ by)) coarse in
    let within : i < length out = omega arith in
    let written : (k : ℕ) → k < i → slice_index_or out k (pos 0) ≡ f k = simp to_z-of_z at c.loop-place.invariant.written in
    record {
      next = to_z-of_z w64 (to_z w64 c.loop-place.x-bits +ℤ pos 1) fits_next ∙ next_x (to_z w64 c.loop-place.x-bits) low i next;
      written = simp to_z-of_z (rw number (fill_by_more f out i (pos 0) within written));
    }

pub returns : goal.returns
returns c =
    let along = c.args.along.now in
    let fits_by : FitsSigned w64 c.args.by = c.ranges.by in
    listed_by (λ k. number_along along.low along.numbers.now along.outside (int_div_euclid (c.args.row.low +ℤ pos k) (pos c.args.ratio) +ℤ c.args.by))
    (length c.args.out.now) c.loop-place.out (pos 0) c.loop-place.auto.out
    (λ k below. (simp to_z-of_z at c.loop-place.invariant.written) k (omega arith))
