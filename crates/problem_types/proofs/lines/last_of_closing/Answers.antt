use Rattle.std.proofs.Common.{◌∙◌, sym, map, [], ◌∷◌}
use Rattle.problem_types.specs.Ascent.{followed}
use Rattle.problem_types.proofs.Ascent.{next_line}
use Rattle.problem_types.proofs.lines.last_of_closing.Goals as goal

pub returns : goal.returns
returns c =
    let p = c.args.p.now in
    next_line c.in_ok-last_keep.last_keep p.end_line c.next.result c.next.ensures
    ∙ sym (followed c.args.after (map (λ k. k.line) p.keeps) (p.end_line ∷ []) c.in_ok-last_keep.last_keep
    ((rw c.as_slice.ensures at (sym c.last_of.ensures)) ∙ c.in_ok-last_keep.was))
