use Rattle.std.proofs.Common.{◌∙◌, Some, ap, sym, refl}
use Rattle.std.proofs.lemmas.Option.{slice_get-get_or}
use Rattle.graph_compiler.proofs.Laying.{ends_within, laid_more, laid_out}
use Rattle.graph_compiler.proofs.layout.layouts.Goals as goal

pub end-first-requires : goal.end-first-requires
end-first-requires c =
    let p = c.args.p.now in
    let tasks = c.args.tasks.now in
    let i = c.loop-t.t-index in
    let t = c.t-item.result in
    let stands = slice_get-get_or tasks i t c.loop-t-test.true ∙ ap Some (sym c.t-item.is) in
    rw (c.layout_of-layout.ensures.first, c.loop-t.invariant.first_is, c.layout_of-layout.ensures.parts, c.layout_of-layout.ensures.lines, c.layout_of-layout.ensures.numbers)
    (ends_within p tasks i t stands c.requires.few)

pub loop-t-preserved : goal.loop-t-preserved
loop-t-preserved c =
    let p = c.args.p.now in
    let tasks = c.args.tasks.now in
    let i = c.loop-t.t-index in
    let t = c.t-item.result in
    let stands = slice_get-get_or tasks i t c.loop-t-test.true ∙ ap Some (sym c.t-item.is) in
    let layout = c.layout_of-layout.result in
    laid_more p tasks i c.loop-t.first c.end-first.result c.loop-t.layouts c.push.new.self t layout stands c.loop-t.invariant
    (laid_out p tasks i t stands c.requires.few layout (c.layout_of-layout.ensures.first ∙ c.loop-t.invariant.first_is) c.layout_of-layout.ensures.parts c.layout_of-layout.ensures.lines
    c.layout_of-layout.ensures.numbers)
    c.in_ok-push.ensures.ok
    (rw (c.end-first.ensures, c.layout_of-layout.ensures.first, c.layout_of-layout.ensures.parts, c.layout_of-layout.ensures.lines, c.layout_of-layout.ensures.numbers) refl)
