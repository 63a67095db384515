-- How many of some slots are read, and how many numbers these hold.
use Rattle.std.specs.Prelude.{◌≡◌, ℕ, ◌≤◌, ◌*◌, List, if◌then◌else◌}
use Rattle.std.specs.List.{count_by, sum_by}
use Rattle.problem_types.specs.declared.problem.Problem.{Problem}
use Rattle.problem_types.specs.declared.problem.Task.{Task}
use Rattle.task_check.specs.Plan.{Slot, is_read}
use Rattle.task_check.specs.Counts.{slot_size}
use Rattle.task_check.specs.declared.plan.tally.Tally.{Tally}

-- the tally of those of the slots that the list reads
pub record IsTally (p : Problem) (tasks : List Task) (slots : List Slot) (tally : Tally) : Type 0 where
  pub count : tally.slots ≡ count_by (is_read p tasks) slots
  pub size : tally.numbers ≡ sum_by (λ s. if is_read p tasks s then slot_size p tasks s else 0) slots

-- there are at most so many slots, each of at most 68,769,820,673 numbers
pub record HasAtMost (count : ℕ) (tally : Tally) : Type 0 where
  pub slots : tally.slots ≤ count
  pub numbers : tally.numbers ≤ 68769820673 * count
