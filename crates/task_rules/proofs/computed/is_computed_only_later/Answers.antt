use Rattle.std.proofs.Common.{◌≡◌, ℕ, rules, tests}
use Rattle.std.specs.List.{list_any}
use Rattle.std.proofs.lemmas.Iterator.{YieldsList-from_slice}
use Rattle.std.proofs.lemmas.Iterator.Search.{any_from_yields_List}
use Rattle.std.specs.Bool.{IsFalse}
use Rattle.std.specs.Prelude.{◌&&◌, not, IsTrue}
use Rattle.problem_types.specs.Lists.{computes}
use Rattle.task_rules.proofs.Somewhere.{somewhere, only_second}
use Rattle.task_rules.proofs.computed.is_computed_only_later.Goals as goal

pub returns : goal.returns
returns c =
    let t = c.args.t.now in
    let before = λ (material level : ℕ). computes c.args.earlier.now c.args.name material level in
    let after = λ (material level : ℕ). computes c.args.later.now c.args.name material level in
    let test = λ (material level : ℕ). not (before material level) && after material level in
    let nested : c.any.result ≡ list_any (λ material. list_any (λ level. test material level) t.levels) t.materials =
    any_from_yields_List (λ material. list_any (λ level. test material level) t.levels) _ _ c.any.result c.any.ensures.ran
    (YieldsList-from_slice t.materials cc) (λ x b q k. (search (rules, tests), cc)) in
    rw nested (somewhere t test
    (λ material level. IsFalse (before material level) × IsTrue (after material level))
    (λ material level. only_second (before material level) (after material level)))
