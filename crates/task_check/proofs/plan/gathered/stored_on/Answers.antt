use Rattle.std.proofs.Common.{◌≡◌, ◌∙◌, true, false, ap, sym, arith, length}
use Rattle.uts_geom.specs.declared.span.Span.{Span}
use Rattle.uts_geom.specs.Spans.{indexes_of, is_inside}
use Rattle.task_check.proofs.Volumes.{LiesOnGrid, meet_on_grid, few_indexes}
use Rattle.task_check.proofs.Gathered.{one_space, near_where_held, none_where_not_held, only_space}
use Rattle.task_check.proofs.plan.gathered.stored_on.Goals as goal

pub volume-requires : goal.volume-requires
volume-requires c =
    let on : LiesOnGrid c.meet-stored.result =
    rw c.meet-stored.ensures.corners (meet_on_grid c.args.window c.index_space.result (one_space c.args.l.now c.args.c c.index_space.result c.requires c.index_space.ensures)) in
    let held : is_inside c.meet-stored.result c.meet-stored.result.lo ≡ true = sym c.contains.ensures ∙ c.if-contains.true in
    near_where_held c.meet-stored.result on held

pub returns-then-contains-clause-few : goal.returns-then-contains-clause-few
returns-then-contains-clause-few c =
    let on : LiesOnGrid c.meet-stored.result =
    rw c.meet-stored.ensures.corners (meet_on_grid c.args.window c.index_space.result (one_space c.args.l.now c.args.c c.index_space.result c.requires c.index_space.ensures)) in
    omega (arith, c.volume.ensures, few_indexes c.meet-stored.result on)

pub returns-else-contains-clause-stored : goal.returns-else-contains-clause-stored
returns-else-contains-clause-stored c =
    let held : is_inside c.meet-stored.result c.meet-stored.result.lo ≡ false = sym c.contains.ensures ∙ c.if-contains.false in
    none_where_not_held c.meet-stored.result held
    ∙ ap (λ (s : Span). length (indexes_of s)) c.meet-stored.ensures.corners
    ∙ only_space c.args.window c.index_space.result c.args.l.now c.args.c c.index_space.ensures
