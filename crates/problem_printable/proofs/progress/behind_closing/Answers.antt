use Rattle.std.proofs.Common.{◌∙◌, sym, map, [], ◌∷◌}
use Rattle.problem_printable.specs.Progress.{mark, keep_mark}
use Rattle.problem_printable.proofs.Steps.{followed, last_statement}
use Rattle.problem_printable.proofs.progress.behind_closing.Goals as goal

pub returns : goal.returns
returns c =
    let p = c.args.p.now in
    c.next_line.ensures
    ∙ (last_statement c.in_ok-last_keep.last_keep p.end_line
    ∙ sym (followed c.args.before (map keep_mark p.keeps) (mark p.end_line [] ∷ []) c.in_ok-last_keep.last_keep
    ((rw c.as_slice.ensures at (sym c.behind_list.ensures)) ∙ c.in_ok-last_keep.was)))
