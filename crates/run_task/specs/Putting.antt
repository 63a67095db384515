-- What becomes of what a detailed task has gathered when it is given the value of a slot.
use Rattle.std.specs.Prelude.{◌≡◌, ℕ, ℤ, ◌+◌, ◌-◌, ◌==◌, Bool, true, false, ◌&&◌, IsTrue, List, Some, length, map, slice_get, if◌then◌else◌}
use Rattle.uts_geom.specs.Spans.{is_inside}
use Rattle.uts_geom.specs.declared.index.Index.{Index}
use Rattle.kernel_ast.specs.declared.expression.How.{How}
use Rattle.kernel_ast.specs.declared.expression.How.TheVariants as how
use Rattle.kernel_ast.specs.declared.expression.Store.{Store}
use Rattle.kernel_ast.specs.declared.expression.Store.TheVariants as store
use Rattle.field_box.specs.Fields.{NumberedSpan, number_at}
use Rattle.field_box.specs.declared.value.Value.{Value}
use Rattle.field_box.specs.declared.value.Value.TheVariants as value
use Rattle.ghost_gather.specs.Windows.{number_seen}
use Rattle.graph_compiler.specs.declared.plan.Slot.{Slot}
use Rattle.graph_compiler.specs.declared.plan.SlotKind.{SlotKind}
use Rattle.graph_compiler.specs.declared.plan.SlotKind.TheVariants as kind
use Rattle.kernel_eval.specs.declared.part.Part.{Part}
use Rattle.kernel_eval.specs.declared.windows.Given.{Given}
use Rattle.kernel_eval.specs.declared.windows.Windows.{Windows}
use Rattle.reductions.specs.Folding.{combined}
use Rattle.run_task.specs.declared.work.CombiningWork.{CombiningWork}

-- a slot of this kind has a variable as it stands in a store, and a reduction
abbrev pub is_variable_in : Store → SlotKind → Bool
is_variable_in store.Old kind.Old = true
is_variable_in store.New kind.New = true
is_variable_in at other = false

abbrev pub is_reduction_in : Store → SlotKind → Bool
is_reduction_in store.Old kind.OldNumber = true
is_reduction_in store.New kind.Number = true
is_reduction_in at other = false

-- the level of a part, by the task's level
abbrev pub level_seen : How → (level : ℕ) → ℕ
level_seen how.Same level = level
level_seen how.Coarse level = level - 1
level_seen how.FineSum level = level + 1
level_seen how.FineMin level = level + 1
level_seen how.FineMax level = level + 1
level_seen how.FineCount level = level + 1

-- by its kind, name and level the slot is of the part's variable
abbrev pub is_slot_of : Slot → Part → (level : ℕ) → Bool
is_slot_of slot part level =
    is_variable_in part.store slot.kind && ((slot.name == part.name) && (slot.level == level_seen part.how level))

-- A part as it was, with the numbers of a slot's field on the indexes that the field has, if the slot is of the part's variable.
pub record IsWithField (slot : Slot) (field : NumberedSpan) (level : ℕ) (before after : Part) : Type 0 where
  pub kept : after ≡ record before { window = after.window }
  pub span : after.window.span ≡ before.window.span
  pub space : after.window.space ≡ before.window.space
  pub outside : after.window.outside ≡ before.window.outside
  pub numbers : (i : Index) → IsTrue (is_inside before.window.span i) → IsTrue (is_inside before.window.space i)
      → number_seen after.window i ≡ (if is_slot_of slot before level && is_inside field.span i then number_at field i else number_seen before.window i)

-- and so each of some parts
pub record AreWithField (slot : Slot) (field : NumberedSpan) (level : ℕ) (before after : List Part) : Type 0 where
  pub many : length after ≡ length before
  pub each : (k : ℕ) (a b : Part) → slice_get before k ≡ Some a → slice_get after k ≡ Some b → IsWithField slot field level a b

-- by its kind and name the slot is of the reduction
abbrev pub is_number_of : Slot → Given → Bool
is_number_of slot given = is_reduction_in given.store slot.kind && (slot.name == given.name)

-- the reduction with the number of a slot, if the slot is of it
abbrev pub with_number : Slot → ℤ → Given → Given
with_number slot n given = if is_number_of slot given then record given { number = n } else given

-- what a task sees, with the value of a slot where it belongs
abbrev pub AreWithValue : Slot → Value → (before after : Windows) → Type 0
AreWithValue slot (value.Grid field) before after =
    AreWithField slot field before.level before.parts.items after.parts.items × (after ≡ record before { parts = after.parts })
AreWithValue slot (value.Number n) before after =
    (after.numbers.items ≡ map (with_number slot n) before.numbers.items) × (after ≡ record before { numbers = after.numbers })

-- the parts so far, combined with one more
abbrev pub with_part : CombiningWork → Value → CombiningWork
with_part work (value.Grid field) = work
with_part work (value.Number n) = record work { number = combined work.fold work.number n }
