-- What a supplier of rows and numbers has to have, and what the dump shows of it.
use Rattle.std.specs.Prelude.{ℕ, ℤ, pos, List, [], Option, IsSome, All, IsTrue, IsFalse}
use Rattle.std.specs.Option.{unwrap_or, is_some}
use Rattle.uts_geom.specs.Spans.{rows_of}
use Rattle.problem_types.specs.Lists.{variable_named}
use Rattle.problem_types.specs.declared.problem.Problem.{Problem}
use Rattle.problem_types.specs.declared.problem.Keep.{Keep}
use Rattle.uts_model.specs.Dump.{Shown, Field, shown_fields}

-- what is shown of a supplier that has these rows, by name, material, level, y and z, and these numbers, by name
abbrev pub shown_by : (ℕ → ℕ → ℕ → ℤ → ℤ → Option (List ℤ)) → (ℕ → Option ℤ) → Shown
shown_by rows numbers = record {
  row = λ name material level y z. unwrap_or (rows name material level y z) [];
  number = λ name. unwrap_or (numbers name) (pos 0);
}

-- a supplier has each row of a field
abbrev pub HasField : (ℕ → ℕ → ℕ → ℤ → ℤ → Option (List ℤ)) → (name : ℕ) → Field → Type 0
HasField rows name f = All (λ at. IsSome (rows name f.material f.level at.0 at.1)) (rows_of f.span)

-- a supplier has each row and each number of a kept name that the dump shows at a step
pub record HasKept (p : Problem) (step : ℕ) (rows : ℕ → ℕ → ℕ → ℤ → ℤ → Option (List ℤ)) (numbers : ℕ → Option ℤ) (keep : Keep) : Type 0 where
  pub variable : IsTrue (is_some (variable_named p keep.name)) → All (HasField rows keep.name) (shown_fields p step keep.name)
  pub reduction : IsFalse (is_some (variable_named p keep.name)) → IsSome (numbers keep.name)

abbrev pub HasAllKept : Problem → (step : ℕ) → (ℕ → ℕ → ℕ → ℤ → ℤ → Option (List ℤ)) → (ℕ → Option ℤ) → Type 0
HasAllKept p step rows numbers = All (HasKept p step rows numbers) p.keeps
