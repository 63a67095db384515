use Rattle.std.proofs.Common.{◌∙◌, ℤ, ap, w64, FitsSigned, rules}
use Rattle.std.specs.List.{flat_map}
use Rattle.std.proofs.lemmas.Int.{to_z-of_z}
use Rattle.problem_types.specs.Lists.{fold_of}
use Rattle.problem_types.specs.declared.problem.Problem.{Problem}
use Rattle.problem_types.specs.declared.problem.Fold.{Fold}
use Rattle.uts_geom.specs.declared.centring.Centring.{Centring}
use Rattle.reductions.specs.Folding.{all_combined}
use Rattle.plain_engine.specs.Moments.{level_numbers}
use Rattle.plain_engine.specs.declared.written.WrittenNumber.{WrittenNumber}
use Rattle.plain_engine.proofs.numbers.written_number.Goals as goal

pub returns : goal.returns
returns c =
    let moment = c.args.moment.now in
    let task = c.args.task.now in
    let write = c.args.write.now in
    let fits : FitsSigned w64 c.fold_levels.result = search rules in
    let how = c.fold_of.ensures ∙ ap (λ (p : Problem). fold_of p write.name) c.problem.ensures.problem in
    let number = to_z-of_z w64 _ fits ∙ c.fold_levels.ensures
    ∙ ap (λ (f : Fold). all_combined f (flat_map (level_numbers moment task write.expr c.reduced_centring.result) task.levels)) how
    ∙ ap (λ (k : Centring). all_combined (fold_of moment.checked.now write.name) (flat_map (level_numbers moment task write.expr k) task.levels)) c.reduced_centring.ensures in
    ap (λ (n : ℤ). let made : WrittenNumber = record { name = write.name; number = n } in made) number
