use Rattle.run_task.proofs.SitesPlaced.{IsSmallSpan, owned_small, stands_here}
use Rattle.run_task.proofs.room.owned_at.Goals as goal
use Rattle.run_task.proofs.room.owned_at.Goals.{After-owned}

pub owned-requires-clause-limits : goal.owned-requires-clause-limits
owned-requires-clause-limits c =
    let p = c.args.c.now in
    let level = c.args.site.level in
    let l = c.level_at.result.now in
    let at = stands_here c.problem-p.result.now p c.from.result level l c.problem-p.ensures.problem c.from.ensures c.level_at.ensures in
    ((c.accepted_problems_are_bounded.ensures p c.problem-p.ensures.form c.problem-p.ensures.accepted).levels level l at).limits

-- what the patch owns is small
small : (c : After-owned) → IsSmallSpan c.owned.result
small c =
    let p = c.args.c.now in
    let level = c.args.site.level in
    let l = c.level_at.result.now in
    let at = stands_here c.problem-p.result.now p c.from.result level l c.problem-p.ensures.problem c.from.ensures c.level_at.ensures in
    let bounded = (c.accepted_problems_are_bounded.ensures p c.problem-p.ensures.form c.problem-p.ensures.accepted).levels level l at in
    owned_small p level l bounded c.args.site.patch (c.requires.patch_there l at) c.args.centring c.owned.result c.owned.ensures

pub returns-clause-near : goal.returns-clause-near
returns-clause-near c = (small c).near

pub returns-clause-few : goal.returns-clause-few
returns-clause-few c = (small c).few

pub returns-clause-narrow : goal.returns-clause-narrow
returns-clause-narrow c = (small c).narrow
