use Rattle.std.proofs.Common.{◌≡◌, ◌∙◌, ◌++◌, [], ℕ, List, Some, map, ap, sym}
use Rattle.std.specs.Prelude.{slice_get}
use Rattle.std.specs.List.{flat_map}
use Rattle.std.specs.Option.{option_map_or}
use Rattle.std.proofs.lemmas.List.{map-append}
use Rattle.std.proofs.lemmas.Option.{slice_get-get_or}
use Rattle.uts_geom.specs.Spans.{counted}
use Rattle.problem_types.specs.declared.problem.Task.{Task}
use Rattle.task_check.specs.Plan.{Detail, combining, on_patches}
use Rattle.graph_compiler.specs.Reading.{places_read}
use Rattle.graph_compiler.proofs.Growing.{flat_map-counted}
use Rattle.graph_compiler.proofs.Laying.{details_at}
use Rattle.graph_compiler.proofs.reads.all_reads.Goals as goal

pub loop-task-preserved : goal.loop-task-preserved
loop-task-preserved c =
    let p = c.args.problem.now in
    let tasks = c.args.tasks.now in
    let n = c.loop-task.task in
    let t = c.index-tasks-task.result in
    let stands : slice_get tasks n ≡ Some t = slice_get-get_or tasks n t c.loop-task-test.true ∙ ap Some (sym c.index-tasks-task.is) in
    let here : on_patches p n t ++ combining n t ≡ details_at p tasks n = sym (ap (λ o. option_map_or (λ (u : Task). on_patches p n u ++ combining n u) o []) stands) in
    record {
      searched = c.in_ok-put_task.ensures.searched;
      reads =
          c.in_ok-put_task.ensures.reads
          ∙ ap (λ (xs : List (List ℕ)). xs ++ map (places_read p tasks) (on_patches p n t ++ combining n t)) c.loop-task.invariant.reads
          ∙ ap (λ (ds : List Detail). map (places_read p tasks) (flat_map (details_at p tasks) (counted 0 n)) ++ map (places_read p tasks) ds) here
          ∙ sym (map-append (places_read p tasks) (flat_map (details_at p tasks) (counted 0 n)) (details_at p tasks n))
          ∙ ap (map (places_read p tasks)) (sym (flat_map-counted (details_at p tasks) n));
    }
