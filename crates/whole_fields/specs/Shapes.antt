-- What variables are declared as, by name.
use Rattle.std.specs.Prelude.{◌≡◌, ℕ, pos, slice_index_or}
use Rattle.uts_geom.specs.declared.centring.Centring.TheVariants.{Cell}
use Rattle.problem_types.specs.Lists.{outside_of, centring_of}
use Rattle.problem_types.specs.declared.problem.Problem.{Problem}
use Rattle.whole_fields.specs.declared.shapes.Shape.{Shape}
use Rattle.whole_fields.specs.declared.shapes.Shapes.{Shapes}

-- the shape of a name that no variable has
abbrev pub no_shape : Shape
no_shape = record { centring = Cell; outside = pos 0 }

-- the shape that a name is declared with
abbrev pub shape_of : Problem → ℕ → Shape
shape_of p name = record { centring = centring_of p name; outside = outside_of p name }

-- the shape that stands for a name
abbrev pub shape_named : Shapes → ℕ → Shape
shape_named s name = slice_index_or s.shapes name no_shape

-- these are the shapes of the problem: of each name, also of those that it does not have
pub record IsShapesOf (p : Problem) (s : Shapes) : Type 0 where
  pub each : (name : ℕ) → shape_named s name ≡ shape_of p name
