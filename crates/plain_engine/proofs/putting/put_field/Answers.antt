use Rattle.std.proofs.Common.{◌≡◌, ℤ, map, sym, subst, refl}
use Rattle.uts_geom.specs.declared.index.Index.{Index}
use Rattle.problem_types.specs.Lists.{centring_of}
use Rattle.problem_types.specs.Regions.{indexes_of}
use Rattle.problem_types.specs.declared.problem.Problem.{Problem}
use Rattle.uts_model.specs.WholeField.{State}
use Rattle.whole_fields.specs.Stored.{with_field}
use Rattle.plain_engine.specs.Changes.{FieldChange, written_of}
use Rattle.plain_engine.specs.declared.written.WrittenField.{WrittenField}
use Rattle.plain_engine.proofs.putting.put_field.Goals as goal

-- what was put is a field by the change that it has the numbers of
put_by : (p : Problem) (before after : State) (field : WrittenField) (x : FieldChange) → field ≡ written_of p x →
    ((f : Index → ℤ) → field.numbers ≡ map f (indexes_of p field.level (centring_of p field.name))
    → after ≡ with_field p before field.name field.material field.level f) →
    after ≡ with_field p before x.name x.material x.level x.number
put_by p before after field x is =
    subst (λ (g : WrittenField).
    ((f : Index → ℤ) → g.numbers ≡ map f (indexes_of p g.level (centring_of p g.name)) → after ≡ with_field p before g.name g.material g.level f) →
    after ≡ with_field p before x.name x.material x.level x.number)
    (sym is) (λ put. put x.number refl)

pub returns-clause-state : goal.returns-clause-state
returns-clause-state c = λ x is. put_by c.args.c.now _ _ c.args.field x is c.put.ensures.state
