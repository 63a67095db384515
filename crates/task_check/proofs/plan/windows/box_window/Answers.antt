use Rattle.std.proofs.Common.{◌≡◌, ◌∙◌, ◌+◌, ◌∷◌, [], length, ap, subst}
use Rattle.uts_geom.specs.Spans.{IsNearSpan}
use Rattle.uts_geom.specs.declared.centring.Centring.TheVariants.{Cell}
use Rattle.problem_types.specs.Levels.{KeepsGridLimits}
use Rattle.problem_types.specs.Regions.{spaces_on}
use Rattle.problem_types.specs.Lists.{centring_of}
use Rattle.problem_types.specs.declared.problem.Level.{Level}
use Rattle.task_check.proofs.Accepted.{keeps_grid_limits}
use Rattle.task_check.proofs.Ratios.{ratio_within}
use Rattle.task_check.proofs.OldWindows.{only_box, cells_are, same_together, coarse_together, fine_together}
use Rattle.problem_types.specs.NearSpaces.{space_near}
use Rattle.task_check.proofs.plan.windows.box_window.Goals as goal

pub index_space-requires : goal.index_space-requires
index_space-requires c = keeps_grid_limits c.args.p.now c.requires.form c.requires.faultless c.args.from c.level_at-l.result.now c.level_at-l.ensures

pub window-requires-clause-near : goal.window-requires-clause-near
window-requires-clause-near c =
    let limits : KeepsGridLimits c.level_at-l.result.now =
    keeps_grid_limits c.args.p.now c.requires.form c.requires.faultless c.args.from c.level_at-l.result.now c.level_at-l.ensures in
    let b = only_box c.level_at-l.result.now limits in
    subst IsNearSpan (cells_are c.level_at-l.result.now b.0 c.index_space.result b.1 c.index_space.ensures) (space_near Cell b.0 b.2)

pub level_box-requires : goal.level_box-requires
level_box-requires c = keeps_grid_limits c.args.p.now c.requires.form c.requires.faultless c.args.from c.level_at-l.result.now c.level_at-l.ensures

pub divided-requires-clause-some : goal.divided-requires-clause-some
divided-requires-clause-some c = rw c.ratio_of.ensures (ratio_within c.args.p.now c.requires.faultless c.args.from).some

pub level_box-requires-in-Fine : goal.level_box-requires-in-Fine
level_box-requires-in-Fine c = keeps_grid_limits c.args.p.now c.requires.form c.requires.faultless c.args.from c.level_at-l.result.now c.level_at-l.ensures

pub refined-requires-clause-few : goal.refined-requires-clause-few
refined-requires-clause-few c = rw c.ratio_of-in-Fine.ensures (ratio_within c.args.p.now c.requires.faultless (c.args.from + 1)).few

pub returns-in-Same : goal.returns-in-Same
returns-in-Same c = λ t l own at.
    let here : c.level_at-l.result.now ≡ l = (let is = c.level_at-l.ensures in cc) in
    let b = only_box l (keeps_grid_limits c.args.p.now c.requires.form c.requires.faultless c.args.from l at) in
    same_together c.spans_meet_in_indexes.ensures c.args.p.now c.requires.form c.requires.faultless c.args.from l at b.0 b.1 own
    (length c.args.p.now.names) c.args.what c.requires.what c.centring_of-c.result (c.centring_of-c.ensures ∙ ap (centring_of c.args.p.now) c.wanted_name.ensures) c.window.result
    c.in-Same.var c.in-Same.layers c.index_space.result c.in-Same.is
    (cells_are l b.0 c.index_space.result b.1 (subst (λ (m : Level). spaces_on Cell m ≡ c.index_space.result ∷ []) here c.index_space.ensures)) c.window.ensures t

pub returns-in-Coarse : goal.returns-in-Coarse
returns-in-Coarse c = λ t l own at.
    let here : c.level_at-l.result.now ≡ l = (let is = c.level_at-l.ensures in cc) in
    coarse_together c.spans_meet_in_indexes.ensures c.args.p.now c.requires.form c.requires.faultless c.args.from l at c.level_box.result
    (subst (λ (m : Level). m.boxes ≡ c.level_box.result ∷ []) here c.level_box.ensures.only) own
    (length c.args.p.now.names) c.args.what c.requires.what c.centring_of-c.result (c.centring_of-c.ensures ∙ ap (centring_of c.args.p.now) c.wanted_name.ensures)
    c.window-in-Coarse.result c.in-Coarse.var c.in-Coarse.layers c.ratio_of.result c.divided.result c.in-Coarse.is c.ratio_of.ensures c.divided.ensures.divided
    c.window-in-Coarse.ensures t

pub returns-in-Fine : goal.returns-in-Fine
returns-in-Fine c = λ t l own at.
    let here : c.level_at-l.result.now ≡ l = (let is = c.level_at-l.ensures in cc) in
    fine_together c.spans_meet_in_indexes.ensures c.args.p.now c.requires.form c.requires.faultless c.args.from l at c.level_box-in-Fine.result
    (subst (λ (m : Level). m.boxes ≡ c.level_box-in-Fine.result ∷ []) here c.level_box-in-Fine.ensures.only) own
    (length c.args.p.now.names) c.args.what c.requires.what c.centring_of-c.result (c.centring_of-c.ensures ∙ ap (centring_of c.args.p.now) c.wanted_name.ensures)
    c.refined.result c.in-Fine.var c.ratio_of-in-Fine.result c.in-Fine.is c.ratio_of-in-Fine.ensures c.refined.ensures.refined t
