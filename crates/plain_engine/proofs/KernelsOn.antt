-- What a kernel gives through the reads of a level and a material is what the definition says.
use Rattle.std.proofs.Common.{◌≡◌, ◌∙◌, ℕ, ℤ, ap}
use Rattle.uts_geom.specs.declared.index.Index.{Index}
use Rattle.kernel_ast.specs.declared.expression.Expr.{Expr}
use Rattle.problem_types.specs.declared.problem.Problem.{Problem}
use Rattle.uts_model.specs.WholeField.{State, number_read, store_of}
use Rattle.whole_fields.specs.Stored.{state_of}
use Rattle.plain_engine.specs.Moments.{AreReadsAt, kernel_at}
use Rattle.plain_engine.specs.Reading.{numbers_at, reductions_at}
use Rattle.kernel_sweeps.specs.Sweeps.{number_on}
use Rattle.plain_engine.specs.declared.moment.Moment.{Moment}
use Rattle.whole_fields.specs.declared.stores.Stores.{Stores}

module _ (kernel : Expr) (step level material : ℕ) where
  -- the number of the kernel where its reads are of these states, on a level and a material of their own
  abbrev number_over : Problem → State → State → (read_level read_material : ℕ) → Index → ℤ
  number_over p old new read_level read_material =
      number_on kernel step level material
      (λ r i. number_read p ((store_of old new r.store).field r.name read_material) r read_level i r.how)
      (λ store name. (store_of old new store).reduction name)

pub number_on-moment : (kernel : Expr) (level material : ℕ) (s : Stores) (m : Moment) → AreReadsAt s m level material →
    number_on kernel m.step level material (numbers_at s) (reductions_at s) ≡ kernel_at m kernel level material
number_on-moment kernel level material s m reads =
    let over = number_over kernel m.step level material in
    ap (λ (p : Problem). over p (state_of p s.old.now) (state_of p s.new.now) s.level s.material) (ap (λ c. c.now) reads.checked)
    ∙ ap (λ (old : State). over m.checked.now old (state_of m.checked.now s.new.now) s.level s.material) (ap (λ w. state_of m.checked.now w.now) reads.old)
    ∙ ap (λ (new : State). over m.checked.now (state_of m.checked.now m.old.now) new s.level s.material) (ap (λ w. state_of m.checked.now w.now) reads.new)
    ∙ ap (λ (l : ℕ). over m.checked.now (state_of m.checked.now m.old.now) (state_of m.checked.now m.new.now) l s.material) reads.level_is
    ∙ ap (λ (k : ℕ). over m.checked.now (state_of m.checked.now m.old.now) (state_of m.checked.now m.new.now) level k) reads.material_is
