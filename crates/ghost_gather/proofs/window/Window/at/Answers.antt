use Rattle.std.proofs.Common.{◌≡◌, ◌∙◌, ap, sym, subst, rules, true, false, w64, FitsSigned}
use Rattle.std.specs.Prelude.{IsTrue, if◌then◌else◌}
use Rattle.std.proofs.lemmas.Int.{to_z-of_z}
use Rattle.uts_geom.specs.Spans.{is_inside}
use Rattle.field_box.specs.Fields.{number_at}
use Rattle.ghost_gather.specs.Windows.{WindowData, number_seen}
use Rattle.ghost_gather.proofs.Seen.{stored_inside}
use Rattle.ghost_gather.proofs.window.Window.at.Goals as goal

pub get-requires : goal.get-requires
get-requires c =
    let w = c.self.inside in
    let inside : IsTrue (is_inside w.span c.args.i) = subst (λ (v : WindowData). IsTrue (is_inside v.span c.args.i)) (sym c.self.view_is) c.requires in
    stored_inside w.span w.space w.stored.span c.self.invariant c.args.i inside (sym c.if-contains.ensures)

pub returns-then-contains : goal.returns-then-contains
returns-then-contains c =
    let w = c.self.inside in
    let fits : FitsSigned w64 c.get.result = search rules in
    let within : is_inside w.space c.args.i ≡ true = sym c.if-contains.ensures in
    to_z-of_z w64 c.get.result fits
    ∙ c.get.ensures
    ∙ ap (λ t. if t then number_at w.stored c.args.i else w.outside) (sym within)
    ∙ ap (λ (v : WindowData). number_seen v c.args.i) c.self.view_is

pub returns-else-contains : goal.returns-else-contains
returns-else-contains c =
    let w = c.self.inside in
    let fits : FitsSigned w64 w.outside = search rules in
    let beyond : is_inside w.space c.args.i ≡ false = sym c.if-contains.ensures in
    to_z-of_z w64 w.outside fits
    ∙ ap (λ t. if t then number_at w.stored c.args.i else w.outside) (sym beyond)
    ∙ ap (λ (v : WindowData). number_seen v c.args.i) c.self.view_is
