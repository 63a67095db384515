-- Values as contents.
use Rattle.std.specs.Prelude.{◌≡◌, ℤ, List, [], ◌∷◌, ◌++◌}
use Rattle.field_box.specs.declared.value.Value.{Value}
use Rattle.field_box.specs.declared.value.Value.TheVariants.{Grid, Number}
use Rattle.uts_model.specs.Dump.{corner_numbers}

-- a field as its bounds and its numbers, and a number as itself
abbrev pub content_of_value : Value → List ℤ
content_of_value (Grid f) = corner_numbers f.span.lo ++ (corner_numbers f.span.hi ++ f.numbers)
content_of_value (Number n) = n ∷ []

-- the value has this content
abbrev pub Fits : List ℤ → Value → Type 0
Fits content value = content ≡ content_of_value value
