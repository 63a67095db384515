use Rattle.std.proofs.Common.{◌≡◌, ◌∙◌, ◌<◌, ℕ, Some, length, ap, arith}
use Rattle.std.specs.Prelude.{slice_set}
use Rattle.problem_types.specs.Lists.{centring_of}
use Rattle.whole_fields.specs.Stored.{field_place}
use Rattle.whole_fields.proofs.LevelSpaces.{some_space, space_has, space_has_once}
use Rattle.whole_fields.proofs.States.{warehouse_after, state_after}
use Rattle.whole_fields.proofs.warehouse.Warehouse.put.Goals as goal

pub returns-clause-warehouse : goal.returns-clause-warehouse
returns-clause-warehouse c =
    let p = c.args.c.now in
    let w = c.args.self.now in
    let place = field_place p c.args.name c.args.material c.args.level in
    let within : place < length w.fields = omega (arith, c.place_of.ensures.within, c.place_of.ensures.place, c.requires.warehouse.fields) in
    let put : c.set.new.self ≡ slice_set w.fields place (Some c.args.numbers) =
    c.set.ensures ∙ ap (λ (k : ℕ). slice_set w.fields k (Some c.args.numbers)) c.place_of.ensures.place in
    warehouse_after p w c.set.new.self c.args.name c.args.material c.args.level c.args.numbers
    (c.requires.name, c.requires.material, c.requires.level) within put c.requires.warehouse c.requires.full

pub returns-clause-state : goal.returns-clause-state
returns-clause-state c =
    let p = c.args.c.now in
    let w = c.args.self.now in
    let centring = centring_of p c.args.name in
    let place = field_place p c.args.name c.args.material c.args.level in
    let within : place < length w.fields = omega (arith, c.place_of.ensures.within, c.place_of.ensures.place, c.requires.warehouse.fields) in
    let put : c.set.new.self ≡ slice_set w.fields place (Some c.args.numbers) =
    c.set.ensures ∙ ap (λ (k : ℕ). slice_set w.fields k (Some c.args.numbers)) c.place_of.ensures.place in
    let space = some_space p c.args.level centring c.bounds.ensures.limits c.requires.level in
    state_after p w c.set.new.self c.args.name c.args.material c.args.level c.args.numbers
    (c.requires.name, c.requires.material, c.requires.level) within put
    (space_has p c.args.level centring space.0 space.1 c.spans_hold_their_indexes.ensures)
    (space_has_once p c.args.level centring space.0 space.1 c.indexes_stand_once.ensures)
