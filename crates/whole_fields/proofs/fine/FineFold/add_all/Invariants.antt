use Rattle.std.proofs.Common.{pos, ◌+ℤ◌, map}
use Rattle.std.specs.List.{flat_map}
use Rattle.uts_geom.specs.Spans.{index}
use Rattle.whole_fields.specs.Children.{AreFolded, children_on_x, children_on_y, stretch}
use Rattle.whole_fields.specs.Views.{number_in}
use Rattle.whole_fields.proofs.fine.FineFold.add_all.Given as goal

abbrev pub invariant-loop-j : goal.invariant-loop-j
invariant-loop-j l =
    AreFolded l.self.fold l.initial.out l.out (λ k. map (number_in l.self.field.space l.self.field.numbers.now l.self.field.blank)
    (flat_map (λ z. flat_map (λ y. map (λ x. index x y z) (children_on_x l.self.ratio l.self.centring l.self.field.space (l.fn.row.low +ℤ pos k)))
    (children_on_y l.self.ratio l.self.centring l.self.field.space l.fn.row.y)) (stretch l.zs.first l.j)))
