use Rattle.std.proofs.Common.{◌≡◌, ◌∙◌, ℕ, ◌<◌, List, length, get_or, ap, sym, arith}
use Rattle.std.proofs.lemmas.Option.{get_or_from_slice_get, slice_get_within}
use Rattle.problem_types.specs.Lists.{task_list}
use Rattle.graph_compiler.specs.Shown.{shown_slot}
use Rattle.graph_compiler.specs.declared.plan.Slot.{Slot}
use Rattle.graph_compiler.specs.declared.plan.SlotKind.TheVariants.{Old}
use Rattle.run_task.proofs.Planned.{read_shown, task_there}
use Rattle.run_task.proofs.places.slot_at.Goals as goal

abbrev blank : Slot
blank = record { kind = Old; name = 0; material = 0; level = 0; patch = 0; version = 0 }

pub bounds-as_slice-reads : goal.bounds-as_slice-reads
bounds-as_slice-reads c =
    let job = c.args.job.now in
    let p = job.checked.now in
    let found : c.as_slice-reads.result.now ≡ get_or job.plan.now.graph.reads c.args.task c.as_slice-reads.result.now =
    c.as_slice-reads.ensures ∙ c.index-as_slice-task.is
    ∙ ap (λ (lists : List (List ℕ)). get_or lists c.args.task c.index-as_slice-task.result) c.as_slice.ensures
    ∙ ap (λ (d : List ℕ). get_or job.plan.now.graph.reads c.args.task d) (sym c.as_slice-reads.ensures) in
    let there = task_there p job.step job.plan.now job.shown c.args.task c.requires.task in
    let shown = read_shown p job.step job.plan.now job.shown c.args.task there.0 there.1 c.as_slice-reads.result.now found c.args.k c.requires.read in
    let within : get_or c.as_slice-reads.result.now c.args.k 0 < length job.plan.now.slots =
    slice_get_within job.plan.now.slots (get_or c.as_slice-reads.result.now c.args.k 0) (shown_slot (task_list p job.step) shown.0) shown.2 in
    omega (arith, within, ap length c.as_slice-2.ensures)

pub returns : goal.returns
returns c = λ d at.
    let job = c.args.job.now in
    let p = job.checked.now in
    let found : c.as_slice-reads.result.now ≡ get_or job.plan.now.graph.reads c.args.task c.as_slice-reads.result.now =
    c.as_slice-reads.ensures ∙ c.index-as_slice-task.is
    ∙ ap (λ (lists : List (List ℕ)). get_or lists c.args.task c.index-as_slice-task.result) c.as_slice.ensures
    ∙ ap (λ (e : List ℕ). get_or job.plan.now.graph.reads c.args.task e) (sym c.as_slice-reads.ensures) in
    let shown = read_shown p job.step job.plan.now job.shown c.args.task d at c.as_slice-reads.result.now found c.args.k c.requires.read in (
      shown.0,
      shown.1,
      ap (λ (slots : List Slot). get_or slots (get_or c.as_slice-reads.result.now c.args.k 0) blank) c.as_slice-2.ensures
          ∙ get_or_from_slice_get job.plan.now.slots (get_or c.as_slice-reads.result.now c.args.k 0) (shown_slot (task_list p job.step) shown.0) blank shown.2,
    )
