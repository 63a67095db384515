use Rattle.std.proofs.Common.{◌≡◌, ◌∙◌, List, [], ◌∷◌, map, sum, length, ap, arith}
use Rattle.uts_geom.specs.Spans.{indexes_of}
use Rattle.uts_geom.specs.declared.centring.Centring.TheVariants.{Cell}
use Rattle.uts_geom.specs.declared.span.Span.{Span}
use Rattle.problem_types.specs.declared.problem.BoxLine.{BoxLine}
use Rattle.problem_types.specs.Levels.{cells_of}
use Rattle.problem_types.specs.NearSpaces.{near_span, only_on_grid}
use Rattle.task_check.proofs.levels.cell_count.Goals as goal

one_count : (boxes : List BoxLine) (s : Span) → map cells_of boxes ≡ s ∷ [] → length (indexes_of s) ≡ sum (map (λ b. length (indexes_of (cells_of b))) boxes)
one_count [] s e = absurd cc
one_count (b ∷ c ∷ boxes) s e = absurd (let h : map cells_of (c ∷ boxes) ≡ [] = cc in cc)
one_count (b ∷ []) s e = ap (λ t. length (indexes_of t)) (let same : s ≡ cells_of b = cc in same) ∙ omega arith

pub volume-requires : goal.volume-requires
volume-requires c = near_span c.index_space.result (only_on_grid Cell c.args.l.now.boxes c.index_space.result c.requires.boxes c.index_space.ensures)

pub returns : goal.returns
returns c = c.volume.ensures ∙ one_count c.args.l.now.boxes c.index_space.result c.index_space.ensures
