-- Which slots stay after a step: those that the next step or the dump wants, and nothing else.
use Rattle.std.specs.Prelude.{ℕ, ◌<◌, ◌==◌, Bool, true, false, not, ◌&&◌, ◌||◌, List, length, map, nat_lt}
use Rattle.std.specs.List.{list_any}
use Rattle.problem_types.specs.declared.problem.Problem.{Problem}
use Rattle.task_rules.specs.Names.{IsVariable, IsReduction}
use Rattle.task_check.specs.Plan.{Old, OldNumber, is_read, patches_of}
use Rattle.graph_compiler.specs.declared.plan.Slot.{Slot}
use Rattle.graph_compiler.specs.declared.plan.SlotKind.{SlotKind}
use Rattle.graph_compiler.specs.declared.plan.SlotKind.TheVariants as kind
use Rattle.graph_compiler.specs.declared.plan.StepKind.{StepKind}

abbrev pub is_new : SlotKind → Bool
is_new kind.Old = false
is_new kind.New = true
is_new kind.Part = false
is_new kind.Number = false
is_new kind.OldNumber = false

-- the other slot is of a later version of the same variable, on the same material and level
abbrev pub is_outdated_by : Slot → Slot → Bool
is_outdated_by s other = is_new other.kind && ((other.name == s.name) && ((other.material == s.material) && ((other.level == s.level)
    && nat_lt s.version other.version)))

-- the slot is of the last version of its variable on its material and level
abbrev pub is_last_version : List Slot → Slot → Bool
is_last_version slots s = is_new s.kind && not (list_any (is_outdated_by s) slots)

-- the timestep list reads, as it stands at the end of the step before, what the slot holds: the last version of a variable on a patch, or
-- a reduction
abbrev pub is_wanted_by_next : Problem → SlotKind → Slot → Bool
is_wanted_by_next p kind.Old s = false
is_wanted_by_next p kind.New s = is_read p p.timestep (Old s.name s.level s.material s.patch)
is_wanted_by_next p kind.Part s = false
is_wanted_by_next p kind.Number s = is_read p p.timestep (OldNumber s.name)
is_wanted_by_next p kind.OldNumber s = false

-- the dump shows the name
abbrev pub is_shown : Problem → (name : ℕ) → Bool
is_shown p name = list_any (λ k. k.name == name) p.keeps

-- the slot holds how a variable or a reduction stands at the end of the step
abbrev pub is_final : List Slot → SlotKind → Slot → Bool
is_final slots kind.Old s = false
is_final slots kind.New s = is_last_version slots s
is_final slots kind.Part s = false
is_final slots kind.Number s = true
is_final slots kind.OldNumber s = false

-- Of a plan with these slots, this one stays: it holds how a variable or a reduction stands at the end of the step, and a step follows
-- that reads it or the dump shows its name.
abbrev pub is_kept_slot : Problem → StepKind → List Slot → Slot → Bool
is_kept_slot p k slots s = is_final slots s.kind s && ((k.next && is_wanted_by_next p s.kind s) || (k.dump && is_shown p s.name))

abbrev pub kept_slots : Problem → StepKind → List Slot → List Bool
kept_slots p k slots = map (is_kept_slot p k slots) slots

-- the slot is of a variable that is declared, on a level, a material and a patch of the problem
pub record IsOnGrid (p : Problem) (s : Slot) : Type 0 where
  pub level : s.level < length p.levels
  pub material : s.material < p.materials.value
  pub patch : s.patch < length (patches_of p s.level)
  pub declared : IsVariable p s.name

-- where the next step might read the slot, it is of something that is declared
abbrev pub IsDeclared : Problem → SlotKind → Slot → Type 0
IsDeclared p kind.Old s = Unit {0}
IsDeclared p kind.New s = IsOnGrid p s
IsDeclared p kind.Part s = Unit {0}
IsDeclared p kind.Number s = IsReduction p s.name
IsDeclared p kind.OldNumber s = Unit {0}
