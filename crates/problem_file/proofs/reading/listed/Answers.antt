use Rattle.std.proofs.Common.{ap, sym, ◌∙◌, List, [], ◌∷◌, ◌++◌, ℕ, Some}
use Rattle.problem_file.proofs.Reached.{take_one}
use Rattle.problem_file.proofs.reading.listed.Goals as goal

pub loop-number-preserved : goal.loop-number-preserved
loop-number-preserved c =
    c.in_ok-push.ensures.ok
    ∙ ap (λ (w : List (List ℕ)). w ++ c.in_ok-new.field-0 ∷ []) c.loop-number.invariant
    ∙ sym (take_one c.args.names.now c.loop-number.number c.in_ok-new.field-0 (sym c.in-Some.ensures.name ∙ ap (λ (w : List ℕ). Some w) (sym c.in_ok-new.ensures)))
