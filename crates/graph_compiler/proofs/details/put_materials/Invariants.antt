use Rattle.std.proofs.Common.{◌≡◌, ◌++◌, map, take}
use Rattle.std.specs.List.{flat_map}
use Rattle.task_check.specs.Plan.{OnPatch, patches_of}
use Rattle.graph_compiler.specs.Shown.{shown_task}
use Rattle.graph_compiler.proofs.details.put_materials.Given as goal

-- the detailed tasks for the materials so far are there
abbrev pub invariant-loop-material : goal.invariant-loop-material
invariant-loop-material l =
    l.details ≡ l.fn.details
    ++ map shown_task (flat_map (λ material. map (OnPatch l.task l.level material) (patches_of l.p l.level)) (take l.material-index l.material-items))
