use Rattle.std.proofs.Common.{◌∙◌, Option, ap}
use Rattle.std.specs.Option.{unwrap_or}
use Rattle.std.proofs.lemmas.Option.{unwrap_or-slice_get}
use Rattle.whole_fields.specs.Shapes.{no_shape}
use Rattle.whole_fields.specs.declared.shapes.Shape.{Shape}
use Rattle.whole_fields.proofs.shapes.Shapes.shape.Goals as goal

pub returns-in-None : goal.returns-in-None
returns-in-None c =
    c.no_shape.ensures ∙ ap (λ (shape : Option Shape). unwrap_or shape no_shape) c.in-None.ensures.value
    ∙ unwrap_or-slice_get c.args.self.now.shapes c.args.name no_shape
