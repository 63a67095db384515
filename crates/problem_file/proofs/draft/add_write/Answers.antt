use Rattle.std.proofs.Common.{List, [], ◌∷◌, ◌++◌, ap, sym, ◌∙◌}
use Rattle.problem_types.specs.declared.problem.Write.{Write}
use Rattle.problem_file.specs.Drafts.{with_write}
use Rattle.problem_file.proofs.Readback.{map_last_change}
use Rattle.problem_file.proofs.draft.add_write.Goals as goal

pub returns : goal.returns
returns c =
    let last = c.in-Some.task in
    c.in_ok-push-2.ensures.ok
    ∙ ap (λ (w : List Write). c.pop.new.self ++ (record last { writes = w }) ∷ []) c.in_ok-push.ensures.ok
    ∙ sym (map_last_change (with_write c.args.write) c.args.tasks.now c.pop.new.self last c.in-Some.ensures)
