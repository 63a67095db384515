use Rattle.std.proofs.Common.{◌≡◌, ◌∙◌, ℕ, ℤ, List, [], ◌∷◌, ◌++◌, Option, Err, refl, ap, sym, subst, append_assoc, append-nil}
use Rattle.std.specs.Prelude.{IsSome}
use Rattle.std.proofs.lemmas.Result.{err_from_is_err_and}
use Rattle.uts_geom.specs.Rows.{rows_left}
use Rattle.uts_geom.specs.Spans.{rows_of}
use Rattle.uts_model.specs.Dump.{Shown}
use Rattle.dump_text.specs.Lines.{Line, line_of}
use Rattle.dump_text.specs.Fields.{kept_row}
use Rattle.dump_text.proofs.FieldRows.{all_at, lines_by_rows}
use Rattle.dump_text.proofs.Shown.{shows_none, shows_next, stopped_at}
use Rattle.dump_text.proofs.field.show_rows.Goals as goal

pub loop-at-init : goal.loop-at-init
loop-at-init g c = record {
  split = ap rows_left c.into_iter-at-iterator.ensures.into_iter_gives ∙ c.rows-at-items.ensures;
  shows = shows_none g.O.Sink.after g.met.O.Sink.after_none _ tt;
}

pub show_row_at-requires : goal.show_row_at-requires
show_row_at-requires g c =
    let place = c.args.place in
    let Has : (ℕ → ℕ → ℕ → ℤ → ℤ → Option (List ℤ)) → Type 0 =
    λ rows. IsSome (rows c.args.kept.now.name place.material place.level c.in-Some.at.0 c.in-Some.at.1) in
    subst Has (sym c.loop-at.invariant.shows.same_rows)
    (all_at (λ at. IsSome (g.F.Rows.rows c.args.fields.now c.args.kept.now.name place.material place.level at.0 at.1)) (rows_of place.span)
    c.loop-at.yielded (rows_left c.next.new.self) c.in-Some.at
    (sym c.loop-at.invariant.split ∙ ap (λ t. c.loop-at.yielded ++ t) c.in-Some.ensures.steps) c.requires.has)

pub loop-at-preserved : goal.loop-at-preserved
loop-at-preserved g c =
    let lines : Shown → ℤ × ℤ → List Line = λ s at. line_of (kept_row s c.args.kept.now c.args.place at) ∷ [] in
    let done = c.loop-at.yielded in
    record {
      split = append_assoc done (c.in-Some.at ∷ []) (rows_left c.next.new.self)
          ∙ ap (λ t. done ++ t) (sym c.in-Some.ensures.steps) ∙ c.loop-at.invariant.split;
      shows = shows_next g.O.Sink.after g.met.O.Sink.after_both _ _ _ _ lines done c.in-Some.at tt c.loop-at.invariant.shows
          c.in_ok-show_row_at.ensures;
    }

pub returns-in_err-show_row_at : goal.returns-in_err-show_row_at
returns-in_err-show_row_at g c =
    let p = err_from_is_err_and c.from_residual.result c.from_residual.ensures.1 in
    let kept = c.args.kept.now in
    let place = c.args.place in
    let lines : Shown → ℤ × ℤ → List Line = λ s at. line_of (kept_row s kept place at) ∷ [] in
    let done = c.loop-at.yielded in
    let rest = rows_left c.next.new.self in
    let whole : rows_of place.span ≡ (done ++ c.in-Some.at ∷ []) ++ rest =
    sym c.loop-at.invariant.split ∙ ap (λ t. done ++ t) c.in-Some.ensures.steps ∙ sym (append_assoc done (c.in-Some.at ∷ []) rest) in
    rw (← lines_by_rows _ kept place)
    (stopped_at g.O.Sink.after g.met.O.Sink.after_both _ _ _ _ lines done c.in-Some.at tt c.loop-at.invariant.shows c.in_err-show_row_at.ensures
    c.in_err-show_row_at.field-0.0 _ (rows_of place.span) rest whole refl (p.1 ∙ ap Err p.2))

pub returns : goal.returns
returns g c =
    let done = c.loop-at.yielded in
    let all : done ≡ rows_of c.args.place.span =
    sym (append-nil done) ∙ ap (λ t. done ++ t) (sym c.in-None.ensures.steps.0) ∙ c.loop-at.invariant.split in
    rw (← lines_by_rows _ c.args.kept.now c.args.place) (rw all at c.loop-at.invariant.shows)
