-- What each slot of a step has to hold, by the tasks in their order on whole levels.
use Rattle.std.specs.Prelude.{ℕ, ℤ, pos, ◌+◌, Option, None, List, [], ◌∷◌, ◌++◌, map, slice_get}
use Rattle.std.specs.Option.{option_map_or}
use Rattle.uts_geom.specs.Spans.{index, indexes_of}
use Rattle.uts_geom.specs.declared.centring.Centring.{Centring}
use Rattle.uts_geom.specs.declared.index.Index.{Index}
use Rattle.uts_geom.specs.declared.span.Span.{Span}
use Rattle.kernel_ast.specs.Value.{value_of}
use Rattle.kernel_ast.specs.declared.expression.Store.{Store}
use Rattle.problem_types.specs.Lists.{centring_of, fold_of, task_list}
use Rattle.problem_types.specs.declared.problem.Problem.{Problem}
use Rattle.problem_types.specs.declared.problem.Task.{Task}
use Rattle.problem_types.specs.declared.problem.Write.{Write}
use Rattle.patch_regions.specs.Regions.{owned_span}
use Rattle.reductions.specs.Folding.{all_combined}
use Rattle.task_check.specs.Plan.{Slot, Old, OldNumber, New, Part, Number, slots_of}
use Rattle.uts_model.specs.Dump.{corner_numbers}
use Rattle.uts_model.specs.WholeField.{State, before_step, environment, field_at, reduced_centring, reduction_at, state_at, store_of}

-- what a patch of a level owns, by their numbers; no index where there is no such level
abbrev pub owned_on : Problem → (level patch : ℕ) → Centring → Span
owned_on p level patch c =
    option_map_or (λ l. owned_span c l patch) (slice_get p.levels level) (record { lo = index (pos 0) (pos 0) (pos 0); hi = index (pos 0) (pos 0) (pos 0) })

-- the line of this number of the task at this place, and its name
abbrev pub line_at : List Task → (task line : ℕ) → Option Write
line_at tasks task line = option_map_or (λ t. slice_get t.writes line) (slice_get tasks task) None

abbrev pub name_at : List Task → (task line : ℕ) → ℕ
name_at tasks task line = option_map_or (λ w. w.name) (line_at tasks task line) 0

-- what stands before the task at a place of a step's list: at the end of the step before, and after the earlier tasks
abbrev pub stood : Problem → (step task : ℕ) → Store → State
stood p step task at = store_of (before_step p step) (state_at p step task) at

-- the number of a kernel of the task at this place
abbrev pub kernel_number : Problem → (step task : ℕ) → Write → (level material : ℕ) → Index → ℤ
kernel_number p step task w level material i = value_of w.expr (environment p step (before_step p step) (state_at p step task) material level i)

-- the share of a patch in the reduction of a line: the numbers of the line's kernel, combined over what the patch owns
abbrev pub share : Problem → (step task : ℕ) → Write → (level material patch : ℕ) → ℤ
share p step task w level material patch =
    all_combined (fold_of p w.name) (map (kernel_number p step task w level material) (indexes_of (owned_on p level patch (reduced_centring w.kind))))

-- the name of the variable or the reduction of which a slot holds something
abbrev pub name_held : List Task → Slot → ℕ
name_held tasks (Old name level material patch) = name
name_held tasks (OldNumber name) = name
name_held tasks (New task line level material patch) = name_at tasks task line
name_held tasks (Part task line level material patch) = name_at tasks task line
name_held tasks (Number task line) = name_at tasks task line

-- the numbers of the variable that a slot holds, by the index
abbrev pub numbers_held : Problem → (step : ℕ) → Slot → Index → ℤ
numbers_held p step (Old name level material patch) i = (before_step p step).field name material level i
numbers_held p step (OldNumber name) i = pos 0
numbers_held p step (New task line level material patch) i = field_at p step (task + 1) (name_at (task_list p step) task line) material level i
numbers_held p step (Part task line level material patch) i = pos 0
numbers_held p step (Number task line) i = pos 0

-- the one number that a slot holds of a reduction
abbrev pub number_held : Problem → (step : ℕ) → Slot → ℤ
number_held p step (Old name level material patch) = pos 0
number_held p step (OldNumber name) = (before_step p step).reduction name
number_held p step (New task line level material patch) = pos 0
number_held p step (Part task line level material patch) =
    option_map_or (λ w. share p step task w level material patch) (line_at (task_list p step) task line) (pos 0)
number_held p step (Number task line) = reduction_at p step (task + 1) (name_at (task_list p step) task line)

-- a field on a span as a list: the six bounds, low ones first, then the numbers of the indexes in order
abbrev pub field_content : Span → (Index → ℤ) → List ℤ
field_content s number = corner_numbers s.lo ++ (corner_numbers s.hi ++ map number (indexes_of s))

-- the span on which a slot holds numbers of a variable
abbrev pub span_held : Problem → List Task → (level patch : ℕ) → Slot → Span
span_held p tasks level patch s = owned_on p level patch (centring_of p (name_held tasks s))

-- what a slot has to hold: the variable on what the patch owns, or the one number
abbrev pub content_of : Problem → (step : ℕ) → Slot → List ℤ
content_of p step (Old name level material patch) =
    field_content (span_held p (task_list p step) level patch (Old name level material patch)) (numbers_held p step (Old name level material patch))
content_of p step (OldNumber name) = number_held p step (OldNumber name) ∷ []
content_of p step (New task line level material patch) =
    field_content (span_held p (task_list p step) level patch (New task line level material patch)) (numbers_held p step (New task line level material patch))
content_of p step (Part task line level material patch) = number_held p step (Part task line level material patch) ∷ []
content_of p step (Number task line) = number_held p step (Number task line) ∷ []

-- what all slots of a step have to hold, in their order
unfoldable pub contents_of : Problem → (step : ℕ) → List (List ℤ)
contents_of p step = map (content_of p step) (slots_of p (task_list p step))
