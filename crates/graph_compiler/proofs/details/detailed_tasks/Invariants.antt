use Rattle.std.proofs.Common.{◌≡◌, ◌++◌, [], map}
use Rattle.std.specs.List.{flat_map}
use Rattle.std.specs.Option.{option_map_or}
use Rattle.std.specs.Prelude.{slice_get}
use Rattle.uts_geom.specs.Spans.{counted}
use Rattle.task_check.specs.Plan.{combining, on_patches}
use Rattle.graph_compiler.specs.Shown.{shown_task}
use Rattle.graph_compiler.proofs.details.detailed_tasks.Given as goal

-- the detailed tasks of the tasks so far are there
abbrev pub invariant-loop-task : goal.invariant-loop-task
invariant-loop-task l =
    l.details ≡ map shown_task (flat_map (λ place. option_map_or (λ t. on_patches l.p place t ++ combining place t) (slice_get l.tasks place) []) (counted 0 l.task))
