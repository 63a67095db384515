-- Names that no variable has.
use Rattle.std.proofs.Common.{◌≡◌, ◌≤◌, ◌<◌, ℕ, pos, List, [], ◌∷◌, length, Option, None, refl, ap, arith}
use Rattle.std.specs.Prelude.{◌==◌, All, find}
use Rattle.std.specs.Option.{option_map_or}
use Rattle.std.proofs.lemmas.Bool.{ne_eqb}
use Rattle.std.proofs.lemmas.List.Elements.{All-head, All-tail}
use Rattle.uts_geom.specs.declared.centring.Centring.TheVariants.{Cell}
use Rattle.problem_types.specs.declared.problem.Problem.{Problem}
use Rattle.problem_types.specs.declared.problem.Var.{Var}
use Rattle.whole_fields.specs.Shapes.{no_shape, shape_of}
use Rattle.whole_fields.specs.declared.shapes.Shape.{Shape}

none_beyond : (n name : ℕ) (vars : List Var) → All (λ v. v.name < n) vars → n ≤ name → find (λ v. v.name == name) vars ≡ None
none_beyond n name [] below beyond = refl
none_beyond n name (v ∷ vars) below beyond =
    let first = All-head (λ (u : Var). u.name < n) v vars below in
    rw (ne_eqb v.name name (λ same. absurd (omega arith))) (none_beyond n name vars (All-tail (λ (u : Var). u.name < n) v vars below) beyond)

-- a name beyond those of the problem has no shape
pub shape_beyond : (p : Problem) (name : ℕ) → All (λ v. v.name < length p.names) p.vars → length p.names ≤ name → shape_of p name ≡ no_shape
shape_beyond p name below beyond =
    let shape : Option Var → Shape = λ v. record { centring = option_map_or (λ (u : Var). u.centring) v Cell; outside = option_map_or (λ (u : Var). u.outside) v (pos 0) } in
    ap shape (none_beyond (length p.names) name p.vars below beyond)
