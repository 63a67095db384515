use Rattle.std.proofs.Common.{◌∙◌, sym, arith, false}
use Rattle.std.specs.Prelude.{◌==◌}
use Rattle.task_check.specs.Plan.{OldNumber, is_read, old_numbers}
use Rattle.graph_compiler.proofs.Declared.{found_place, mark_at, number_at}
use Rattle.graph_compiler.proofs.kept.is_number_read.Goals as goal

pub index-requires : goal.index-requires
index-requires c =
    let p = c.args.p.now in
    let at = number_at p c.args.name c.in-Some.place (sym c.reduction_of.ensures ∙ c.in-Some.is) in
    let mark = mark_at (is_read p p.timestep) (old_numbers p) c.args.next.now.numbers.items c.in-Some.place (OldNumber c.args.name) false c.requires.next at in
    omega (arith, mark.0, c.args.next.now.numbers.ok.0)

pub returns-in-Some : goal.returns-in-Some
returns-in-Some c =
    let p = c.args.p.now in
    let at = number_at p c.args.name c.in-Some.place (sym c.reduction_of.ensures ∙ c.in-Some.is) in
    let mark = mark_at (is_read p p.timestep) (old_numbers p) c.args.next.now.numbers.items c.in-Some.place (OldNumber c.args.name) c.index.result.now c.requires.next at in
    c.index.ensures ∙ mark.1

pub returns-in-None : goal.returns-in-None
returns-in-None c = absurd (found_place (λ q. q.name == c.args.name) c.args.p.now.reductions c.requires.declared (sym c.reduction_of.ensures ∙ c.in-None.is))
