-- What a task gives belongs to the problem.
use Rattle.std.proofs.Common.{◌≡◌, ◌<◌, ◌≤◌, ◌+◌, ℕ, arith, zero, suc, List, [], ◌∷◌, map, length, All, Bool, true, false, if◌then◌else◌, slice_index_or}
use Rattle.std.proofs.lemmas.List.{length-map}
use Rattle.std.proofs.lemmas.List.Elements.{All-nil, All-cons, All-map, All-weaker}
use Rattle.std.proofs.Math.Nat.{mul-le-mul}
use Rattle.uts_geom.specs.Spans.{width_of}
use Rattle.uts_geom.specs.declared.centring.Centring.{Centring}
use Rattle.uts_geom.specs.declared.span.Span.{Span}
use Rattle.kernel_rows.specs.Scratch.{scratch_of}
use Rattle.problem_types.specs.Form.{IsProblemInForm, IsTaskInForm, IsWriteInForm, AreTasksInForm}
use Rattle.problem_types.specs.Lists.{task_list, is_of_field, is_reduces, centring_of}
use Rattle.problem_types.specs.Regions.{spaces_of, indexes_of}
use Rattle.problem_types.specs.declared.problem.Problem.{Problem}
use Rattle.problem_types.specs.declared.problem.Task.{Task}
use Rattle.problem_types.specs.declared.problem.Write.{Write}
use Rattle.task_check.specs.Bounds.{IsBounded, IsBoundedTask, AreBoundedTasks}
use Rattle.uts_model.specs.WholeField.{State}
use Rattle.plain_engine.specs.Changes.{FieldChange, IsFieldOf, written_of, field_change, line_changes, field_changes, line_number, number_changes}
use Rattle.kernel_sweeps.specs.Room.{AreAtMostDeep, IsAtMostDeep}
use Rattle.plain_engine.specs.Runnable.{IsRunnable, IsRunnableLine}
use Rattle.plain_engine.specs.declared.written.WrittenNumber.{WrittenNumber}
use Rattle.plain_engine.proofs.Lists.{All-flat_map}

module _ (p : Problem) (places step : ℕ) (old new : State) (task : Task) (runs : IsRunnable p places task) where
  abbrev Belongs : FieldChange → Type 0
  Belongs x = IsFieldOf p (written_of p x)

  line_belongs : (w : Write) → IsRunnableLine p places w → (of_field : Bool) → All Belongs (if of_field then line_changes p step old new task w else [])
  line_belongs w line true =
      All-flat_map Belongs (λ level. map (field_change p step old new w level) task.materials) task.levels
      (All-weaker (λ level. level < length p.levels) (λ level. All Belongs (map (field_change p step old new w level) task.materials))
      (λ level on_level.
      All-map Belongs (field_change p step old new w level) task.materials
      (All-weaker (λ material. material < p.materials.value) (λ material. Belongs (field_change p step old new w level material))
      (λ material on_material. record {
        name = line.known;
        material = on_material;
        level = on_level;
        full = length-map (indexes_of p level (centring_of p w.name)) _;
      })
      task.materials runs.materials))
      task.levels runs.levels)
  line_belongs w line false = All-nil Belongs

  -- each field that the task gives has the numbers of an index space
  pub fields_belong : All (IsFieldOf p) (map (written_of p) (field_changes p step old new task))
  fields_belong =
      All-map (IsFieldOf p) (written_of p) (field_changes p step old new task)
      (All-flat_map Belongs (λ w. if is_of_field w.kind then line_changes p step old new task w else []) task.writes
      (All-weaker (IsRunnableLine p places) (λ w. All Belongs (if is_of_field w.kind then line_changes p step old new task w else []))
      (λ w line. line_belongs w line (is_of_field w.kind)) task.writes runs.lines))

  abbrev IsKnown : WrittenNumber → Type 0
  IsKnown x = x.name < length p.names

  number_known : (w : Write) → IsRunnableLine p places w → (reduces : Bool) → All IsKnown (if reduces then line_number p step old new task w ∷ [] else [])
  number_known w line true = All-cons IsKnown (line_number p step old new task w) [] line.known (All-nil IsKnown)
  number_known w line false = All-nil IsKnown

  -- each reduction that the task gives has a name
  pub numbers_known : All IsKnown (number_changes p step old new task)
  numbers_known =
      All-flat_map IsKnown (λ w. if is_reduces w.kind then line_number p step old new task w ∷ [] else []) task.writes
      (All-weaker (IsRunnableLine p places) (λ w. All IsKnown (if is_reduces w.kind then line_number p step old new task w ∷ [] else []))
      (λ w line. number_known w line (is_reduces w.kind)) task.writes runs.lines)

-- no row of the problem is longer than `width`
module _ (p : Problem) (width depth : ℕ)
    (wide : (level : ℕ) (c : Centring) (s : Span) → level < length p.levels → spaces_of p level c ≡ s ∷ [] → width_of s ≤ width) where
  abbrev places : ℕ
  places = width + scratch_of width depth

  line_runnable : (w : Write) → IsWriteInForm (length p.names) w → IsAtMostDeep depth w → IsRunnableLine p places w
  line_runnable w form deep = record {
    known = form.name;
    room = λ level c s below one.
        let narrow = wide level c s below one in
        omega (arith, narrow, mul-le-mul narrow deep);
  }

  runnable : (t : Task) → IsBoundedTask p t → IsTaskInForm (length p.names) t → AreAtMostDeep depth t → IsRunnable p places t
  runnable t bounded form deep = record {
    levels = bounded.levels;
    materials = bounded.materials;
    lines = λ k d below. line_runnable (slice_index_or t.writes k d) (form.writes k d below) (deep k d below);
  }

  all_runnable : (tasks : List Task) → AreBoundedTasks p tasks → AreTasksInForm (length p.names) tasks → All (AreAtMostDeep depth) tasks → All (IsRunnable p places) tasks
  all_runnable tasks bounded form deep =
      λ k d below. runnable (slice_index_or tasks k d) (bounded.tasks k d below) (form.each k d below) (deep k d below)

  -- each task of a step can be run, where no kernel is deeper than `depth`
  pub tasks_runnable : IsBounded p → IsProblemInForm p → All (AreAtMostDeep depth) p.init → All (AreAtMostDeep depth) p.timestep →
      (step : ℕ) → All (IsRunnable p places) (task_list p step)
  tasks_runnable bounded form init timestep zero = all_runnable p.init bounded.init form.init init
  tasks_runnable bounded form init timestep (suc n) = all_runnable p.timestep bounded.timestep form.timestep timestep
