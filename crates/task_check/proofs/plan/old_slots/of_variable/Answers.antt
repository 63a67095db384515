use Rattle.std.proofs.Common.{◌∙◌, length, map, sym}
use Rattle.std.specs.List.{flat_map}
use Rattle.uts_geom.specs.Spans.{counted}
use Rattle.problem_types.specs.Lists.{task_list}
use Rattle.task_check.specs.Plan.{Old, patches_of}
use Rattle.task_check.proofs.OldReads.{untouched, unrequired}
use Rattle.task_check.proofs.Tallies.{unread_map, unread_flat_map}
use Rattle.task_check.proofs.plan.old_slots.of_variable.Goals as goal

pub returns-else-is_required-clause-tally : goal.returns-else-is_required-clause-tally
returns-else-is_required-clause-tally c =
    let p = c.args.p.now in
    let tasks = task_list c.args.p.now c.args.list in
    let none = sym c.is_required.ensures ∙ c.if-is_required.false in
    unread_flat_map p tasks (λ level. flat_map (λ material. map (Old c.args.name level material) (patches_of c.args.p.now level)) (counted 0 c.args.p.now.materials.value))
    (counted 0 (length c.args.p.now.levels)) c.of_slot.result c.of_slot.ensures (λ level.
    unread_flat_map p tasks (λ material. map (Old c.args.name level material) (patches_of c.args.p.now level)) (counted 0 c.args.p.now.materials.value)
    c.of_slot.result c.of_slot.ensures (λ material.
    unread_map p tasks (Old c.args.name level material) (patches_of c.args.p.now level) c.of_slot.result c.of_slot.ensures (λ patch.
    untouched p tasks c.args.name level material patch (unrequired p tasks c.args.name level patch none))))
