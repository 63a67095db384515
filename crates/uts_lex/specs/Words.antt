-- The words of a set of byte vectors, in its order.
use Rattle.std.specs.Prelude.{ℕ, List, map}
use Rattle.std.specs.declared.vec.Vec.{Vec}

abbrev pub words_of : {A : Type 0} → List (Vec ℕ A) → List (List ℕ)
words_of keys = map (λ word. word.items) keys
