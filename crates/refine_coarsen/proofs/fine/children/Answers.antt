use Rattle.std.proofs.Common.{◌≡◌, ◌∙◌, ◌≤◌, ap, length, sym, subst, ℕ, w64, FitsSigned}
use Rattle.std.specs.Prelude.{nat_abs}
use Rattle.std.proofs.lemmas.Int.{to_z-of_z}
use Rattle.uts_geom.specs.Spans.{indexes_of}
use Rattle.refine_coarsen.specs.Levels.{children_at, span_of_children}
use Rattle.refine_coarsen.proofs.Multiplied.{fills_span, are_few}
use Rattle.refine_coarsen.proofs.fine.children.Goals as goal
use Rattle.refine_coarsen.proofs.fine.children.Goals.{After-children_span}

are_children : (c : After-children_span) → indexes_of c.children_span.result ≡ children_at (nat_abs c.args.ratio) c.args.c c.args.i
are_children c =
    let fits : FitsSigned w64 c.args.ratio = c.ranges.ratio in
    let is : c.children_span.result ≡ span_of_children c.args.ratio c.args.c c.args.i = simp to_z-of_z at c.children_span.ensures in
    ap indexes_of is ∙ fills_span c.args.ratio c.args.c c.args.i c.requires.ratio

pub returns-clause-indexes : goal.returns-clause-indexes
returns-clause-indexes c = are_children c

pub returns-clause-few : goal.returns-clause-few
returns-clause-few c =
    subst (λ (n : ℕ). n ≤ 64) (sym (ap length (are_children c))) (are_few c.args.ratio c.args.c c.args.i c.requires.ratio)
