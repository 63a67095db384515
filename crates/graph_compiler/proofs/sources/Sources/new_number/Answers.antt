use Rattle.std.proofs.Common.{ℕ, Some, length, sym, refl, arith, subst}
use Rattle.std.proofs.lemmas.Option.{slice_get_read}
use Rattle.kernel_ast.specs.declared.expression.Store.TheVariants as store
use Rattle.graph_compiler.specs.Sources.{HasNumberAt}
use Rattle.graph_compiler.proofs.Asked.{no_number_anywhere, no_number_more, number_within, numbered, once_from}
use Rattle.graph_compiler.proofs.sources.Sources.new_number.Goals as goal

pub number_slot-requires-clause-few : goal.number_slot-requires-clause-few
number_slot-requires-clause-few c =
    let tasks = c.args.self.now.tasks.now in
    let at = slice_get_read tasks (length tasks) c.loop-place.place c.t-item.result refl (omega arith) c.t-item.is in
    let laid = c.requires.layouts.each c.loop-place.place c.t-item.result c.layout_at.result at c.layout_at.ensures in
    omega (arith, laid.few)

pub number_slot-requires-clause-within : goal.number_slot-requires-clause-within
number_slot-requires-clause-within c =
    let s = c.args.self.now in
    let tasks = s.tasks.now in
    let at = slice_get_read tasks (length tasks) c.loop-place.place c.t-item.result refl (omega arith) c.t-item.is in
    let laid = c.requires.layouts.each c.loop-place.place c.t-item.result c.layout_at.result at c.layout_at.ensures in
    number_within s.problem.now tasks c.loop-place.place c.t-item.result at c.layout_at.result laid c.args.name c.in-Some.number c.in-Some.ensures

pub returns-in-Some : goal.returns-in-Some
returns-in-Some c =
    let s = c.args.self.now in
    let tasks = s.tasks.now in
    let at = slice_get_read tasks (length tasks) c.loop-place.place c.t-item.result refl (omega arith) c.t-item.is in
    let laid = c.requires.layouts.each c.loop-place.place c.t-item.result c.layout_at.result at c.layout_at.ensures in
    let P : ℕ → Type 0 = λ k. HasNumberAt s.problem.now tasks store.New c.args.name (Some k) in
    subst P (sym c.number_slot.ensures)
    (numbered s.problem.now tasks c.loop-place.place c.t-item.result at c.layout_at.result laid (once_from s c.requires) c.args.name c.in-Some.number c.in-Some.ensures)

pub loop-place-preserved : goal.loop-place-preserved
loop-place-preserved c =
    let tasks = c.args.self.now.tasks.now in
    let at = slice_get_read tasks (length tasks) c.loop-place.place c.t-item.result refl (omega arith) c.t-item.is in
    no_number_more tasks c.args.name c.loop-place.place c.t-item.result at c.in_default.ensures c.loop-place.invariant

pub returns : goal.returns
returns c = no_number_anywhere c.args.self.now.problem.now c.args.self.now.tasks.now (once_from c.args.self.now c.requires) c.args.name c.loop-place.place (omega arith) c.loop-place.invariant
