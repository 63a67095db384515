use Rattle.std.proofs.Common.{List, [], ◌∷◌, ◌++◌, ap, sym, ◌∙◌}
use Rattle.problem_types.specs.declared.problem.BoxLine.{BoxLine}
use Rattle.problem_file.specs.Drafts.{with_box}
use Rattle.problem_file.proofs.Readback.{map_last_change}
use Rattle.problem_file.proofs.draft.add_box.Goals as goal

pub returns : goal.returns
returns c =
    let last = c.in-Some.level in
    c.in_ok-push-2.ensures.ok
    ∙ ap (λ (w : List BoxLine). c.pop.new.self ++ (record last { boxes = w }) ∷ []) (c.in_ok-push.ensures.ok ∙ ap (λ (b : BoxLine). last.boxes ++ b ∷ []) c.box_line.ensures)
    ∙ sym (map_last_change (with_box c.args.line c.args.corners) c.args.levels.now c.pop.new.self last c.in-Some.ensures)
