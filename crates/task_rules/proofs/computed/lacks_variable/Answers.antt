use Rattle.std.proofs.Common.{◌≡◌, ℕ, rules, tests}
use Rattle.std.specs.List.{list_any}
use Rattle.std.proofs.lemmas.Iterator.{YieldsList-from_slice}
use Rattle.std.proofs.lemmas.Iterator.Search.{any_from_yields_List}
use Rattle.std.specs.Bool.{IsFalse}
use Rattle.std.specs.Prelude.{not}
use Rattle.problem_types.specs.Lists.{computes}
use Rattle.task_rules.specs.Lines.{wanted_name, wanted_level}
use Rattle.task_rules.proofs.Somewhere.{somewhere, not_is_false}
use Rattle.task_rules.proofs.computed.lacks_variable.Goals as goal

pub returns : goal.returns
returns c =
    let t = c.args.t.now in
    let there = λ (material level : ℕ). computes c.args.tasks.now (wanted_name c.args.what) material (wanted_level c.args.what level) in
    let test = λ (material level : ℕ). not (there material level) in
    let nested : c.any.result ≡ list_any (λ material. list_any (λ level. test material level) t.levels) t.materials =
    any_from_yields_List (λ material. list_any (λ level. test material level) t.levels) _ _ c.any.result c.any.ensures.ran
    (YieldsList-from_slice t.materials cc) (λ x b q k. search (rules, tests)) in
    rw nested (somewhere t test (λ material level. IsFalse (there material level)) (λ material level. not_is_false (there material level)))
