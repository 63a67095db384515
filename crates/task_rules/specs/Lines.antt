-- What the lines of tasks want and write.
use Rattle.std.specs.Prelude.{ℕ, ◌+◌, ◌-◌, ◌==◌, Bool, true, false, ◌&&◌, List}
use Rattle.std.specs.List.{list_any}
use Rattle.std.specs.Option.{is_some}
use Rattle.problem_types.specs.Lists.{reduction_write, is_computes, is_reduces}
use Rattle.problem_types.specs.declared.problem.Task.{Task}
use Rattle.problem_types.specs.declared.problem.Write.{Write}
use Rattle.problem_types.specs.declared.problem.WriteKind.{WriteKind}
use Rattle.problem_types.specs.declared.problem.WriteKind.TheVariants as kind
use Rattle.problem_types.specs.declared.problem.What.{What}
use Rattle.problem_types.specs.declared.problem.What.TheVariants as what

-- the name that a requirement wants
abbrev pub wanted_name : What → ℕ
wanted_name (what.Same var layers) = var
wanted_name (what.Coarse var layers) = var
wanted_name (what.Fine var) = var
wanted_name (what.Number name) = name

-- the level on which a requirement wants its variable, by the task's level
abbrev pub wanted_level : What → ℕ → ℕ
wanted_level (what.Same var layers) level = level
wanted_level (what.Coarse var layers) level = level - 1
wanted_level (what.Fine var) level = level + 1
wanted_level (what.Number name) level = level

abbrev pub is_modifies : WriteKind → Bool
is_modifies kind.Computes = false
is_modifies kind.Modifies = true
is_modifies (kind.Reduces c) = false

-- one of these lines computes the name, modifies it, and reduces it
abbrev pub has_computes : List Write → ℕ → Bool
has_computes writes name = list_any (λ w. (w.name == name) && is_computes w.kind) writes

abbrev pub has_modifies : List Write → ℕ → Bool
has_modifies writes name = list_any (λ w. (w.name == name) && is_modifies w.kind) writes

abbrev pub has_reduces : List Write → ℕ → Bool
has_reduces writes name = list_any (λ w. (w.name == name) && is_reduces w.kind) writes

-- a task of the list reduces the name
abbrev pub reduces : List Task → ℕ → Bool
reduces tasks name = list_any (λ t. is_some (reduction_write t name)) tasks
