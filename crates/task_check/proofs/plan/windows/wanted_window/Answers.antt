use Rattle.std.proofs.Common.{◌≡◌, ◌∙◌, ap, sym}
use Rattle.uts_geom.specs.declared.centring.Centring.{Centring}
use Rattle.problem_types.specs.Levels.{cells_of}
use Rattle.problem_types.specs.Lists.{centring_of}
use Rattle.problem_types.specs.declared.problem.Level.{Level}
use Rattle.patch_regions.specs.Regions.{patch_at}
use Rattle.task_check.specs.Reached.{asks_for_cells, reached_by}
use Rattle.task_check.specs.Reaches.{reach_window}
use Rattle.task_check.proofs.Accepted.{keeps_grid_limits}
use Rattle.task_check.proofs.plan.windows.wanted_window.Goals as goal

pub patch_box-requires-clause-limits : goal.patch_box-requires-clause-limits
patch_box-requires-clause-limits c = keeps_grid_limits c.args.p.now c.requires.form c.requires.faultless c.args.level c.level_at.result.now c.level_at.ensures

pub reach_window-requires-clause-few : goal.reach_window-requires-clause-few
reach_window-requires-clause-few c =
    (reached_by c.args.p.now c.args.t.now c.args.r.store c.args.r.what c.in-Some.reach (sym c.in-Some.ensures)).few c.requires.few

pub returns-in-Some : goal.returns-in-Some
returns-in-Some c = λ l at.
    c.reach_window.ensures l at
    ∙ ap (λ (k : Centring). reach_window c.args.p.now c.in-Some.reach k c.args.level l c.args.patch) (c.centring_of.ensures ∙ ap (centring_of c.args.p.now) c.wanted_name.ensures)
    ∙ (reached_by c.args.p.now c.args.t.now c.args.r.store c.args.r.what c.in-Some.reach (sym c.in-Some.ensures)).window_is c.args.level l c.args.patch

pub returns-in-None : goal.returns-in-None
returns-in-None c = λ l at.
    let here : c.level_at.result.now ≡ l = (let is = c.level_at.ensures in cc) in
    c.patch_box.ensures ∙ ap (λ (m : Level). cells_of (patch_at m c.args.patch)) here
    ∙ sym (asks_for_cells c.args.p.now c.args.t.now c.args.r.store c.args.r.what c.args.level l c.args.patch (sym c.in-None.ensures))
