use Rattle.std.proofs.Common.{◌≡◌, ◌∙◌, ℤ, List, [], ◌∷◌, ◌++◌, ap, sym, subst, append_assoc, append-nil, rules}
use Rattle.uts_geom.specs.Rows.{rows_left}
use Rattle.uts_geom.specs.Spans.{rows_of}
use Rattle.field_box.specs.WalkedRows.{row_walked}
use Rattle.kernel_sweeps.specs.Sweeps.{number_at}
use Rattle.kernel_sweeps.proofs.FilledRows.{IsFilled, none_filled, next_filled, all_filled}
use Rattle.kernel_sweeps.proofs.filling.set_by_rows.Goals as goal

pub loop-at-init : goal.loop-at-init
loop-at-init g c = record {
  places = c.requires.places;
  split = ap rows_left c.into_iter-at-iterator.ensures.into_iter_gives ∙ c.rows-at-items.ensures;
  filled = none_filled (number_at c.args.sweep.now (g.R.Reads.numbers c.args.reads.now) (g.R.Reads.reductions c.args.reads.now)) c.args.sweep.now.span
      c.args.field.now c.requires.span;
}

pub set_along-requires-clause-span : goal.set_along-requires-clause-span
set_along-requires-clause-span g c = c.loop-at.invariant.filled.span

pub set_along-requires-clause-row : goal.set_along-requires-clause-row
set_along-requires-clause-row g c =
    row_walked c.args.sweep.now.span c.loop-at.yielded (rows_left c.next.new.self) c.in-Some.at
    (ap (λ (t : List (ℤ × ℤ)). c.loop-at.yielded ++ t) (sym c.in-Some.ensures.steps) ∙ c.loop-at.invariant.split)

pub loop-at-preserved : goal.loop-at-preserved
loop-at-preserved g c = record {
  places = search rules;
  split = append_assoc c.loop-at.yielded (c.in-Some.at ∷ []) (rows_left c.next.new.self)
      ∙ ap (λ (t : List (ℤ × ℤ)). c.loop-at.yielded ++ t) (sym c.in-Some.ensures.steps) ∙ c.loop-at.invariant.split;
  filled = next_filled (number_at c.args.sweep.now (g.R.Reads.numbers c.args.reads.now) (g.R.Reads.reductions c.args.reads.now)) c.args.sweep.now.span
      c.loop-at.yielded c.in-Some.at c.loop-at.field c.set_along.new.field c.loop-at.invariant.filled c.set_along.ensures;
}

pub returns : goal.returns
returns g c =
    let number = number_at c.args.sweep.now (g.R.Reads.numbers c.args.reads.now) (g.R.Reads.reductions c.args.reads.now) in
    let done = c.loop-at.yielded in
    let all : done ≡ rows_of c.args.sweep.now.span =
    sym (append-nil done) ∙ ap (λ (t : List (ℤ × ℤ)). done ++ t) (sym c.in-None.ensures.steps.0) ∙ c.loop-at.invariant.split in
    all_filled number c.args.sweep.now.span c.loop-at.field
    (subst (λ (rows : List (ℤ × ℤ)). IsFilled number c.args.sweep.now.span rows c.loop-at.field) all c.loop-at.invariant.filled)
