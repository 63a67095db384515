use Rattle.std.proofs.Common.{◌∙◌, ◌+◌, ℕ, ap, sym, arith, false}
use Rattle.std.specs.Prelude.{◌==◌}
use Rattle.task_check.specs.Plan.{Old, is_read, old_variables}
use Rattle.graph_compiler.proofs.Declared.{found_place, mark_at, variable_at}
use Rattle.graph_compiler.proofs.kept.is_variable_read.Goals as goal

pub index-requires : goal.index-requires
index-requires c =
    let p = c.args.p.now in
    let s = c.args.s in
    let v = variable_at p s.name c.in-Some.var (sym c.var_of.ensures ∙ c.in-Some.is) in
    let at = c.old_place-first.ensures.place v.0 s.patch v.1 c.requires.slot.patch in
    let mark = mark_at (is_read p p.timestep) (old_variables p) c.args.next.now.variables.items (c.old_place-first.result + s.patch) (Old v.0.name s.level s.material s.patch) false c.requires.next at in
    omega (arith, mark.0, c.args.next.now.variables.ok.0)

pub returns-in-Some : goal.returns-in-Some
returns-in-Some c =
    let p = c.args.p.now in
    let s = c.args.s in
    let v = variable_at p s.name c.in-Some.var (sym c.var_of.ensures ∙ c.in-Some.is) in
    let at = c.old_place-first.ensures.place v.0 s.patch v.1 c.requires.slot.patch in
    let mark = mark_at (is_read p p.timestep) (old_variables p) c.args.next.now.variables.items (c.old_place-first.result + s.patch) (Old v.0.name s.level s.material s.patch) c.index.result.now c.requires.next at in
    c.index.ensures ∙ mark.1 ∙ ap (λ (n : ℕ). is_read p p.timestep (Old n s.level s.material s.patch)) v.2

pub returns-in-None : goal.returns-in-None
returns-in-None c = absurd (found_place (λ v. v.name == c.args.s.name) c.args.p.now.vars c.requires.slot.declared (sym c.var_of.ensures ∙ c.in-None.is))
