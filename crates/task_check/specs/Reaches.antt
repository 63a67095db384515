-- What requirements of variables reach around the patches of a level, whichever task has them.
use Rattle.std.specs.Prelude.{ℕ, ◌+◌, ◌-◌, ◌≤◌, Option, Some, None, length, slice_get}
use Rattle.std.specs.List.{count_by, sum_by}
use Rattle.std.specs.Option.{option_map_or}
use Rattle.kernel_ast.specs.declared.expression.Store.{Store}
use Rattle.uts_geom.specs.Spans.{counted, do_meet}
use Rattle.uts_geom.specs.declared.centring.Centring.{Centring}
use Rattle.uts_geom.specs.declared.span.Span.{Span}
use Rattle.problem_types.specs.Levels.{cells_of}
use Rattle.problem_types.specs.Regions.{ratio_of}
use Rattle.problem_types.specs.declared.problem.Problem.{Problem}
use Rattle.problem_types.specs.declared.problem.Level.{Level}
use Rattle.problem_types.specs.declared.problem.Task.{Task}
use Rattle.problem_types.specs.declared.problem.What.{What}
use Rattle.problem_types.specs.declared.problem.What.TheVariants as what
use Rattle.grid_levels.specs.Good.{divided}
use Rattle.patch_regions.specs.Regions.{patch_at, owned_span}
use Rattle.ghost_rules.specs.Windows.{window_of, AreFewSeen}
use Rattle.task_check.specs.Supplies.{seen_of}
use Rattle.task_check.specs.Plan.{window_seen, refined}
use Rattle.task_check.specs.declared.plan.reach.Reach.{Reach}
use Rattle.task_check.specs.declared.plan.reach.Reach.TheVariants as reach

-- what a requirement of a task reaches: nothing where it is of a reduction
abbrev pub reach_of : Task → Store → What → Option Reach
reach_of t at (what.Same var layers) = Some (reach.Same (seen_of t var at layers))
reach_of t at (what.Coarse var layers) = Some (reach.Coarse layers)
reach_of t at (what.Fine var) = Some reach.Fine
reach_of t at (what.Number name) = None

-- the level that is reached
abbrev pub reached_level : Reach → ℕ → ℕ
reached_level (reach.Same seen) level = level
reached_level (reach.Coarse layers) level = level - 1
reached_level reach.Fine level = level + 1

-- the window around a patch of the level `l`, in the indexes of the level that is reached
abbrev pub reach_window : Problem → Reach → Centring → (level : ℕ) → Level → (patch : ℕ) → Span
reach_window p (reach.Same seen) c level l patch = window_seen seen c l patch
reach_window p (reach.Coarse layers) c level l patch = window_of layers c (divided (ratio_of p level) (cells_of (patch_at l patch)))
reach_window p reach.Fine c level l patch = refined c (ratio_of p (level + 1)) (cells_of (patch_at l patch))

-- how many patches of a level own an index of the window
abbrev pub touched_count : Centring → Level → Span → ℕ
touched_count c l window = count_by (λ other. do_meet (owned_span c l other) window) (counted 0 (length l.patches))

-- the same, summed over the windows of the patches of a level
abbrev pub touch_count : Problem → (level : ℕ) → Reach → Centring → ℕ
touch_count p level reach c = option_map_or (λ l. option_map_or (λ wanted.
    sum_by (λ patch. touched_count c wanted (reach_window p reach c level l patch)) (counted 0 (length l.patches)))
    (slice_get p.levels (reached_level reach level)) 0) (slice_get p.levels level) 0

-- there are at most 8 layers
abbrev pub IsFewReached : Reach → Type 0
IsFewReached (reach.Same seen) = AreFewSeen seen
IsFewReached (reach.Coarse layers) = layers.n ≤ 8
IsFewReached reach.Fine = Unit {0}
