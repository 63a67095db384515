use Rattle.std.proofs.Common.{◌≡◌, ◌∙◌, ◌+◌, take, ap, sym, subst}
use Rattle.std.proofs.lemmas.Option.{same_Some}
use Rattle.problem_types.specs.Lists.{task_list}
use Rattle.task_check.specs.Plan.{Slot as SlotOfTask}
use Rattle.graph_compiler.specs.Shown.{shown_slot}
use Rattle.graph_compiler.specs.declared.plan.Slot.{Slot}
use Rattle.run_task.specs.Gathered.{IsWork, slots_read}
use Rattle.run_task.specs.Putting.{AreWithValue}
use Rattle.run_task.specs.declared.work.CombiningWork.{CombiningWork}
use Rattle.run_task.specs.declared.work.Work.{Work}
use Rattle.run_task.specs.declared.work.Work.TheVariants as work
use Rattle.run_task.proofs.PutIn.{AreHeld, IsNext, gathered_on_patch, gathered_part, next_there}
use Rattle.run_task.proofs.gathering.gather.Goals as goal
use Rattle.run_task.proofs.gathering.gather.Goals.{After-numbers_hold_what_stood}

-- the slot whose value is given, next of those that the task reads
next_slot : (c : After-numbers_hold_what_stood) → (s : SlotOfTask) × IsNext c.args.job.now.checked.now c.args.job.now.step c.requires.filled.0 c.args.k s c.args.value.now
next_slot c =
    let job = c.args.job.now in
    let filled = c.requires.filled in
    let asked = c.requires.fits in
    next_there job.checked.now job.step job.plan.now job.shown c.args.task filled.0 filled.1 c.args.k asked.0 c.args.value.now asked.1 asked.2

-- what the task had gathered
was : (c : After-numbers_hold_what_stood) (w : Work) → c.args.work.now ≡ w →
    IsWork c.args.job.now.checked.now c.args.job.now.step c.requires.filled.0 (take c.args.k (slots_read c.args.job.now.checked.now c.args.job.now.step c.requires.filled.0)) w
was c w is =
    let job = c.args.job.now in
    subst (λ (v : Work). IsWork job.checked.now job.step c.requires.filled.0 (take c.args.k (slots_read job.checked.now job.step c.requires.filled.0)) v) is c.requires.filled.2

pub returns-in-Patch : goal.returns-in-Patch
returns-in-Patch c =
    let job = c.args.job.now in
    let p = job.checked.now in
    let step = job.step in
    let before = (goal.at.returns-in-Patch c).After-numbers_hold_what_stood in
    let filled = c.requires.filled in
    let w = c.in-Patch.on_patch in
    let there = next_slot before in
    let s = there.0 in
    let found = c.slot_at.ensures filled.0 filled.1 in
    let same : found.0 ≡ s = same_Some found.0 s (sym found.1 ∙ there.1.next) in
    let shown : c.slot_at.result ≡ shown_slot (task_list p step) s = found.2 ∙ ap (shown_slot (task_list p step)) same in
    let put = subst (λ (slot : Slot). AreWithValue slot c.args.value.now w.windows c.put_value.new.windows) shown c.put_value.ensures in
    let held : AreHeld = record {
      indexes = c.spans_hold_their_indexes.ensures;
      variables = c.slots_hold_what_stood.ensures;
      numbers = c.numbers_hold_what_stood.ensures;
    } in
    (filled.0, filled.1, gathered_on_patch p step filled.0 c.args.k s c.args.value.now there.1 held w c.put_value.new.windows put (was before (work.Patch w) c.in-Patch.is))

pub returns-in-Combining : goal.returns-in-Combining
returns-in-Combining c =
    let job = c.args.job.now in
    let p = job.checked.now in
    let step = job.step in
    let k = c.args.k in
    let before = (goal.at.returns-in-Combining c).After-numbers_hold_what_stood in
    let d = c.requires.filled.0 in
    let w = c.in-Combining.parts in
    let there = next_slot before in
    let gathered = gathered_part p step d k there.0 c.args.value.now there.1 w (was before (work.Combining w) c.in-Combining.is) in
    (d, c.requires.filled.1, subst (λ (v : CombiningWork). IsWork p step d (take (k + 1) (slots_read p step d)) (work.Combining v)) (sym c.combine_part.ensures) gathered)
