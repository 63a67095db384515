use Rattle.std.proofs.Common.{◌∙◌, ℕ, ℤ, List, Option, Err, All, refl, ap, sym, subst, arith}
use Rattle.std.proofs.lemmas.Result.{err_from_is_err_and}
use Rattle.uts_model.specs.Dump.{Shown}
use Rattle.dump_text.specs.Fields.{material_fields, lines_of_fields}
use Rattle.dump_text.specs.Lines.{Line}
use Rattle.dump_text.specs.Supplies.{HasField}
use Rattle.dump_text.proofs.Counted.{all_of_one}
use Rattle.dump_text.proofs.FieldRows.{lines_by_parts}
use Rattle.dump_text.proofs.Shown.{shows_none, shows_below, stopped_below, shows_all_below}
use Rattle.dump_text.proofs.keep.show_variable.Goals as goal

pub loop-material-init : goal.loop-material-init
loop-material-init g c = record { shows = shows_none g.O.Sink.after g.met.O.Sink.after_none _ tt }

pub show_material-requires-clause-has : goal.show_material-requires-clause-has
show_material-requires-clause-has g c =
    let kept = c.args.kept.now in
    let Has : (ℕ → ℕ → ℕ → ℤ → ℤ → Option (List ℤ)) → Type 0 =
    λ rows. All (HasField rows kept.name) (material_fields kept c.loop-material.material) in
    subst Has (sym c.loop-material.invariant.shows.same_rows)
    (all_of_one (HasField (g.F.Rows.rows c.args.fields.now) kept.name) (material_fields kept) c.loop-material.material
    kept.problem.now.materials.value (omega arith) c.requires.has)

pub loop-material-preserved : goal.loop-material-preserved
loop-material-preserved g c =
    let kept = c.args.kept.now in
    let lines : Shown → ℕ → List Line = λ s material. lines_of_fields s kept (material_fields kept material) in
    record {
      shows = shows_below g.O.Sink.after g.met.O.Sink.after_both _ _ _ tt _ lines c.loop-material.material c.loop-material.invariant.shows
          c.in_ok-show_material.ensures;
    }

pub returns-in_err-show_material : goal.returns-in_err-show_material
returns-in_err-show_material g c =
    let p = err_from_is_err_and c.from_residual.result c.from_residual.ensures.1 in
    let kept = c.args.kept.now in
    let materials = kept.problem.now.materials.value in
    let lines : Shown → ℕ → List Line = λ s material. lines_of_fields s kept (material_fields kept material) in
    rw (← lines_by_parts _ kept materials (material_fields kept))
    (stopped_below g.O.Sink.after g.met.O.Sink.after_both _ _ _ tt _ lines c.loop-material.material c.loop-material.invariant.shows
    c.in_err-show_material.ensures materials c.in_err-show_material.field-0.0 _ (omega arith) refl (p.1 ∙ ap Err p.2))

pub returns : goal.returns
returns g c =
    let kept = c.args.kept.now in
    let materials = kept.problem.now.materials.value in
    rw (← lines_by_parts _ kept materials (material_fields kept))
    (shows_all_below _ c.loop-material.material materials (omega arith) c.loop-material.invariant.shows)
