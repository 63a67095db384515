use Rattle.std.proofs.Common.{◌∙◌, ℤ, pos, Option, ap, sym, rules, w64, FitsSigned}
use Rattle.std.specs.Option.{unwrap_or}
use Rattle.std.proofs.lemmas.Int.{to_z-of_z}
use Rattle.std.proofs.lemmas.Option.{get_or_from_slice_get, unwrap_or-slice_get}
use Rattle.whole_fields.specs.Stored.{state_of}
use Rattle.whole_fields.proofs.warehouse.Warehouse.number.Goals as goal

pub returns-in-Some : goal.returns-in-Some
unfolding state_of
returns-in-Some c =
    let number = c.in-Some.number.now in
    let fits : FitsSigned w64 number = search rules in
    to_z-of_z w64 number fits ∙ sym (get_or_from_slice_get c.args.self.now.reductions c.args.name number (pos 0) (sym c.in-Some.ensures.value))

pub returns-in-None : goal.returns-in-None
unfolding state_of
returns-in-None c =
    ap (λ (number : Option ℤ). unwrap_or number (pos 0)) c.in-None.ensures.value ∙ unwrap_or-slice_get c.args.self.now.reductions c.args.name (pos 0)
