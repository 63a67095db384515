use Rattle.std.proofs.Common.{◌≡◌, ◌∙◌, ap, ℕ, ℤ, pos, ◌+◌, arith, to_z, w64}
use Rattle.std.proofs.lemmas.Int.{ints}
use Rattle.uts_geom.specs.Spans.{indexes_of, meet_of}
use Rattle.uts_geom.specs.declared.span.Span.{Span}
use Rattle.uts_geom.specs.Near.{meet_near}
use Rattle.problem_types.specs.Regions.{ratio_of}
use Rattle.uts_model.specs.Grids.{all_children}
use Rattle.uts_model.proofs.Children.{indexes-children, all_near}
use Rattle.uts_model.proofs.grid.children.Goals as goal
use Rattle.uts_model.proofs.grid.children.Goals.{After-meet}

-- all children, also those that lie on no level
all : (c : After-meet) → c.all_children.result ≡ all_children (pos (ratio_of c.args.problem.now (c.args.level + 1))) c.args.c c.args.i
all c =
    let same : to_z w64 c.ratio.result ≡ pos c.ratio.result = omega (arith, ints, c.ratio.ensures.small) in
    c.all_children.ensures
    ∙ ap (λ (r : ℤ). all_children r c.args.c c.args.i) same
    ∙ ap (λ (r : ℕ). all_children (pos r) c.args.c c.args.i) c.ratio.ensures.ratio

whole : (c : After-meet) → c.meet.result ≡ meet_of (all_children (pos (ratio_of c.args.problem.now (c.args.level + 1))) c.args.c c.args.i) c.space.result
whole c = c.meet.ensures.corners ∙ ap (λ (s : Span). meet_of s c.space.result) (all c)

pub returns-clause-children : goal.returns-clause-children
returns-clause-children c =
    ap indexes_of (whole c) ∙ indexes-children c.args.problem.now c.args.level c.args.c c.args.i c.space.result c.space.ensures.space.inside

pub returns-clause-near : goal.returns-clause-near
returns-clause-near c =
    rw (whole c)
    (meet_near _ c.space.result
    (all_near (ratio_of c.args.problem.now (c.args.level + 1)) c.args.c c.args.i (omega (arith, c.ratio.ensures.ratio, c.ratio.ensures.small)) c.requires.on_level.on_grid)
    c.space.ensures.space.near)
