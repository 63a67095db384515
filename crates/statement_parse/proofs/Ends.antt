-- Tokens behind what should be the last.
use Rattle.std.proofs.Common.{◌≡◌, List, [], ◌∷◌, refl}
use Rattle.std.specs.Option.{option_map}
use Rattle.uts_lex.specs.Lexemes.{Lexeme}
use Rattle.kernel_parse.specs.Reading.{if_empty}

pub if_empty_map : {A B : Type 0} (view : A → B) (ts : List Lexeme) (a : A) → option_map view (if_empty ts a) ≡ if_empty ts (view a)
if_empty_map view [] a = refl
if_empty_map view (t ∷ ts) a = refl
