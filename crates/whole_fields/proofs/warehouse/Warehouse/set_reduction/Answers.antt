use Rattle.std.proofs.Common.{◌∙◌, ◌<◌, ℤ, length, ap, arith, w64}
use Rattle.std.specs.Prelude.{slice_set}
use Rattle.std.proofs.lemmas.Int.{to_z-of_z}
use Rattle.whole_fields.proofs.States.{state_with_number}
use Rattle.whole_fields.proofs.warehouse.Warehouse.set_reduction.Goals as goal

pub returns-clause-state : goal.returns-clause-state
returns-clause-state c =
    let w = c.args.self.now in
    let within : c.args.name < length w.reductions = omega (arith, c.requires.warehouse.reductions, c.requires.name) in
    state_with_number c.args.c.now w c.set.new.self c.args.name c.args.number within
    (c.set.ensures ∙ ap (λ (n : ℤ). slice_set w.reductions c.args.name n) (to_z-of_z w64 c.args.number c.ranges.number))
