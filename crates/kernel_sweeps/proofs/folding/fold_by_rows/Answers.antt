use Rattle.std.proofs.Common.{◌∙◌, ℤ, map, ap, w64, FitsSigned, rules, fold}
use Rattle.std.specs.List.{flat_map}
use Rattle.std.proofs.lemmas.Int.{to_z-of_z}
use Rattle.uts_geom.specs.Rows.{rows_left}
use Rattle.uts_geom.specs.Spans.{row_indexes}
use Rattle.reductions.specs.Folding.{combined}
use Rattle.kernel_sweeps.specs.Sweeps.{number_at}
use Rattle.kernel_sweeps.proofs.Folds.{fold-flat_map-more}
use Rattle.kernel_sweeps.specs.JoinedRows.{walked}
use Rattle.kernel_sweeps.proofs.folding.fold_by_rows.Goals as goal

pub loop-at-preserved : goal.loop-at-preserved
loop-at-preserved g c =
    let fits : FitsSigned w64 c.fold_along-all.result = search rules in
    record {
      places = search rules;
      combined_so_far = to_z-of_z w64 _ fits ∙ fold-flat_map-more _ _ _ _ _ c.loop-at.yielded c.in-Some.at c.loop-at.invariant.combined_so_far c.fold_along-all.ensures;
    }

pub returns : goal.returns
returns g c =
    let sweep = c.args.sweep.now in
    let number = number_at sweep (g.R.Reads.numbers c.args.reads.now) (g.R.Reads.reductions c.args.reads.now) in
    c.loop-at.invariant.combined_so_far
    ∙ ap (λ start. fold (combined c.args.how) start (flat_map (λ (at : ℤ × ℤ). map number (row_indexes sweep.span at.0 at.1)) c.loop-at.yielded)) (to_z-of_z w64 c.args.total c.ranges.total)
    ∙ ap (fold (combined c.args.how) c.args.total)
    (walked number sweep.span _ _ _ c.loop-at.yielded _
    (ap rows_left c.into_iter-at-iterator.ensures.into_iter_gives ∙ c.rows-at-items.ensures) c.loop-at.yielded_by c.in-None.is c.next.ensures.steps)
