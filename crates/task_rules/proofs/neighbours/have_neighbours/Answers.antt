use Rattle.std.proofs.Common.{◌≡◌, ◌+◌, rules, tests}
use Rattle.std.specs.Prelude.{◌==◌}
use Rattle.std.specs.List.{list_any}
use Rattle.std.proofs.lemmas.Iterator.{YieldsList-from_slice}
use Rattle.std.proofs.lemmas.Iterator.Search.{any_from_yields_List}
use Rattle.task_rules.proofs.Somewhere.{neighbours}
use Rattle.task_rules.proofs.neighbours.have_neighbours.Goals as goal

pub returns : goal.returns
returns c =
    let levels = c.args.levels.now in
    let nested : c.any.result ≡ list_any (λ l. list_any (λ n. n == l + 1) levels) levels =
    any_from_yields_List (λ l. list_any (λ n. n == l + 1) levels) _ _ c.any.result c.any.ensures.ran
    (YieldsList-from_slice levels cc) (λ x b q k. search (rules, tests)) in
    rw nested (neighbours levels)
