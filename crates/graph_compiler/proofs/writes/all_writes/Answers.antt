use Rattle.std.proofs.Common.{◌∙◌, List, ap, subst, sym}
use Rattle.std.specs.List.{flat_map}
use Rattle.std.proofs.lemmas.List.{take_all}
use Rattle.problem_types.specs.declared.problem.Task.{Task}
use Rattle.graph_compiler.specs.Layouts.{AreLaidOut, rows_of}
use Rattle.graph_compiler.specs.Plan.{writes_of_list}
use Rattle.graph_compiler.proofs.Writing.{list_rows}
use Rattle.graph_compiler.proofs.writes.all_writes.Goals as goal

pub returns : goal.returns
returns c = λ p tasks form accepted bounded list of_two is laid.
    let layouts = c.args.layouts.now in
    c.loop-layout.invariant
    ∙ ap (flat_map rows_of) (take_all c.loop-layout.layout-index layouts c.loop-layout-test.false)
    ∙ list_rows p form accepted list of_two layouts (subst (λ (ts : List Task). AreLaidOut p ts layouts) is laid)
    ∙ ap (writes_of_list p) (sym is)
