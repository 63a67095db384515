use Rattle.std.proofs.Common.{◌∙◌, ℕ, ℤ, List, Option, Err, All, length, refl, ap, sym, subst, arith}
use Rattle.std.proofs.lemmas.Result.{err_from_is_err_and}
use Rattle.uts_model.specs.Dump.{Shown}
use Rattle.dump_text.specs.Fields.{level_fields, lines_of_fields}
use Rattle.dump_text.specs.Lines.{Line}
use Rattle.dump_text.specs.Supplies.{HasField}
use Rattle.dump_text.proofs.Counted.{all_of_one}
use Rattle.dump_text.proofs.FieldRows.{lines_by_parts}
use Rattle.dump_text.proofs.Shown.{shows_none, shows_below, stopped_below, shows_all_below}
use Rattle.dump_text.proofs.keep.show_material.Goals as goal

pub loop-level-init : goal.loop-level-init
loop-level-init g c = record { shows = shows_none g.O.Sink.after g.met.O.Sink.after_none _ tt }

pub show_level-requires-clause-has : goal.show_level-requires-clause-has
show_level-requires-clause-has g c =
    let kept = c.args.kept.now in
    let Has : (ℕ → ℕ → ℕ → ℤ → ℤ → Option (List ℤ)) → Type 0 =
    λ rows. All (HasField rows kept.name) (level_fields kept c.args.material c.loop-level.level) in
    subst Has (sym c.loop-level.invariant.shows.same_rows)
    (all_of_one (HasField (g.F.Rows.rows c.args.fields.now) kept.name) (level_fields kept c.args.material) c.loop-level.level
    (length kept.problem.now.levels) (omega arith) c.requires.has)

pub loop-level-preserved : goal.loop-level-preserved
loop-level-preserved g c =
    let kept = c.args.kept.now in
    let lines : Shown → ℕ → List Line = λ s level. lines_of_fields s kept (level_fields kept c.args.material level) in
    record {
      shows = shows_below g.O.Sink.after g.met.O.Sink.after_both _ _ _ tt _ lines c.loop-level.level c.loop-level.invariant.shows
          c.in_ok-show_level.ensures;
    }

pub returns-in_err-show_level : goal.returns-in_err-show_level
returns-in_err-show_level g c =
    let p = err_from_is_err_and c.from_residual.result c.from_residual.ensures.1 in
    let kept = c.args.kept.now in
    let levels = length kept.problem.now.levels in
    let lines : Shown → ℕ → List Line = λ s level. lines_of_fields s kept (level_fields kept c.args.material level) in
    rw (← lines_by_parts _ kept levels (level_fields kept c.args.material))
    (stopped_below g.O.Sink.after g.met.O.Sink.after_both _ _ _ tt _ lines c.loop-level.level c.loop-level.invariant.shows
    c.in_err-show_level.ensures levels c.in_err-show_level.field-0.0 _ (omega arith) refl (p.1 ∙ ap Err p.2))

pub returns : goal.returns
returns g c =
    let kept = c.args.kept.now in
    let levels = length kept.problem.now.levels in
    rw (← lines_by_parts _ kept levels (level_fields kept c.args.material))
    (shows_all_below _ c.loop-level.level levels (omega arith) c.loop-level.invariant.shows)
