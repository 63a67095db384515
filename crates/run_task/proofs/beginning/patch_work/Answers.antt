use Rattle.std.proofs.Common.{ℕ, sym, subst, arith}
use Rattle.std.specs.Prelude.{All}
use Rattle.problem_types.specs.Lists.{task_list}
use Rattle.kernel_sweeps.specs.Room.{AreAtMostDeep, IsAtMostDeep}
use Rattle.task_check.specs.Supplies.{kernel_centring}
use Rattle.run_task.proofs.Lists.{holds_at}
use Rattle.run_task.proofs.SitesPlaced.{is_placed}
use Rattle.run_task.proofs.beginning.patch_work.Goals as goal

pub outputs_for-requires : goal.outputs_for-requires
outputs_for-requires c = is_placed c.accepted_problems_are_bounded.ensures c.args.job.now c.args.site c.args.task.now c.requires

pub places_for-requires : goal.places_for-requires
places_for-requires c = is_placed c.accepted_problems_are_bounded.ensures c.args.job.now c.args.site c.args.task.now c.requires

pub returns : goal.returns
returns c =
    let p = c.args.job.now.checked.now in
    let depth = c.args.job.now.depth in
    let t = c.args.task.now in
    let all : All (AreAtMostDeep depth) (task_list p c.args.site.step) =
    subst (λ (n : ℕ). All (AreAtMostDeep depth) (task_list p n)) (sym c.requires.step_is) c.args.job.now.deep in
    let lines = holds_at (AreAtMostDeep depth) (task_list p c.args.site.step) c.args.site.task t all c.requires.task.stands in
    record {
      windows = c.in_ok-windows.ensures;
      room = record {
        outputs_for = c.in_ok-outputs.ensures;
        enough = λ line w at.
            let deep = holds_at (IsAtMostDeep depth) t.writes line w lines at in
            omega (arith, c.places_for.ensures w (kernel_centring p w) deep, c.in_ok-scratch.ensures.len);
      };
    }
