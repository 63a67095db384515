use Rattle.std.proofs.Common.{arith, ap, sym, ◌≡◌, ◌∙◌, length}
use Rattle.std.proofs.lemmas.Bool.Decides.{Decides-eqb}
use Rattle.uts_geom.specs.declared.span.Span.{Span}
use Rattle.uts_geom.specs.Spans.{indexes_of}
use Rattle.problem_types.specs.Levels.{cells_of}
use Rattle.grid_levels.proofs.Filling.{volumes_fit, filled_from_volumes, volumes_from_filled}
use Rattle.grid_levels.proofs.tiling.is_filled.Goals as goal

pub volume_of_all-requires-clause-few : goal.volume_of_all-requires-clause-few
volume_of_all-requires-clause-few c =
    let fit = volumes_fit c.spans_hold_their_indexes.ensures c.indexes_stand_once.ensures (cells_of c.args.outer) c.args.patches.now c.requires.inside c.requires.apart in
    let room : c.volume-room.result ≡ length (indexes_of (cells_of c.args.outer)) =
    c.volume-room.ensures ∙ ap (λ (s : Span). length (indexes_of s)) c.cells.ensures.cells in
    omega (arith, fit, room, c.volume-room.type_inv)

pub returns : goal.returns
returns c =
    let room : c.volume-room.result ≡ length (indexes_of (cells_of c.args.outer)) =
    c.volume-room.ensures ∙ ap (λ (s : Span). length (indexes_of s)) c.cells.ensures.cells in (
      λ same. filled_from_volumes c.spans_hold_their_indexes.ensures c.indexes_stand_once.ensures (cells_of c.args.outer) c.args.patches.now c.requires.inside c.requires.apart
          (sym c.volume_of_all.ensures ∙ (Decides-eqb c.volume_of_all.result c.volume-room.result).0 same ∙ room),
      λ filled. (Decides-eqb c.volume_of_all.result c.volume-room.result).1
          (c.volume_of_all.ensures
          ∙ volumes_from_filled c.spans_hold_their_indexes.ensures c.indexes_stand_once.ensures (cells_of c.args.outer) c.args.patches.now c.requires.inside c.requires.apart filled
          ∙ sym room),
    )
