use Rattle.std.proofs.Common.{◌≡◌, ◌++◌, List, ℕ, subst}
use Rattle.std.specs.Prelude.{codes}
use Rattle.problem_types.specs.declared.problem.Task.{Task}
use Rattle.graph_text.specs.Listing.{detail_text, labelled_all, task_line}
use Rattle.graph_text.proofs.tasks.put_task_line.Goals as goal

pub returns : goal.returns
unfolding task_line
returns c =
    let d = c.args.d in
    let Detailed : List Task → Type 0 = λ tasks. c.put_detail.new.line.items ≡ c.push.new.self.items ++ detail_text c.args.p.now tasks d d.combine in
    let Reads : List ℕ → Type 0 = λ slots. c.put_numbers.new.line.items ≡ c.put_detail.new.line.items ++ labelled_all (codes " reads") slots in
    let Writes : List ℕ → Type 0 = λ slots. c.put_numbers-2.new.line.items ≡ c.put_numbers.new.line.items ++ labelled_all (codes " writes") slots in
    let After : List ℕ → Type 0 = λ tasks. c.put_numbers-3.new.line.items ≡ c.put_numbers-2.new.line.items ++ labelled_all (codes " after") tasks in
    let detailed = subst Detailed c.tasks_in.ensures c.in_ok-put_detail.ensures in
    let reads = subst Reads c.list_at.ensures c.in_ok-put_numbers.ensures in
    let writes = subst Writes c.list_at-2.ensures c.in_ok-put_numbers-2.ensures in
    let after = subst After c.requires.predecessors c.in_ok-put_numbers-3.ensures in
    rw (c.in_ok-push-2.ensures.items, after, writes, reads, detailed, c.in_ok-push.ensures.items, c.in_ok-put_labelled_long.ensures, c.clear.ensures.items)
