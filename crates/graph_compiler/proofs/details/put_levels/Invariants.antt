use Rattle.std.proofs.Common.{◌≡◌, ◌++◌, map, take}
use Rattle.std.specs.List.{flat_map}
use Rattle.task_check.specs.Plan.{OnPatch, patches_of}
use Rattle.graph_compiler.specs.Shown.{shown_task}
use Rattle.graph_compiler.proofs.details.put_levels.Given as goal

-- the detailed tasks on the levels so far are there
abbrev pub invariant-loop-level : goal.invariant-loop-level
invariant-loop-level l =
    l.details ≡ l.fn.details
    ++ map shown_task (flat_map (λ level. flat_map (λ material. map (OnPatch l.task level material) (patches_of l.p level)) l.t.materials)
    (take l.level-index l.level-items))
