-- What holds somewhere on a task, as a test over its two lists, and neighbours as a test over a list.
use Rattle.std.proofs.Common.{◌≡◌, ◌∙◌, ℕ, ◌+◌, Bool, true, false, cond, List, [], ◌∷◌, Some, get_or, refl, ap, subst}
use Rattle.std.proofs.Common.{eq-eqb, eqb-true}
use Rattle.std.specs.Prelude.{◌↔◌, ◌==◌, ◌&&◌, ◌||◌, not, Contains, IsTrue}
use Rattle.std.specs.Bool.{IsFalse}
use Rattle.std.specs.List.{list_any, find}
use Rattle.std.specs.Option.{is_some}
use Rattle.std.proofs.lemmas.Bool.{and_parts, and_from, not-true, not_from_false}
use Rattle.std.proofs.lemmas.List.Folds.{Any-from_list_any, list_any_at}
use Rattle.problem_types.specs.declared.problem.Task.{Task}
use Rattle.task_rules.specs.Computed.{Somewhere, HaveNeighbours}

-- there is a first element that passes where one passes
pub found : {X : Type 0} (p : X → Bool) (xs : List X) → is_some (find p xs) ≡ list_any p xs
found p [] = refl
found p (x ∷ xs) = by (p x) (found p xs)
  where
    by : (b : Bool) → is_some (find p xs) ≡ list_any p xs → is_some (cond b (Some x) (find p xs)) ≡ (b || list_any p xs)
    by true rest = refl
    by false rest = rest

-- a number stands in a list at a place where the test finds it, and the other way round
pub is_listed : (x : ℕ) (xs : List ℕ) → IsTrue (list_any (λ y. y == x) xs) ↔ Contains xs x
is_listed x xs = (
  λ some.
      let at = Any-from_list_any (λ y. y == x) xs some in
      (at.0, at.2, subst (λ y. get_or xs at.0 y ≡ y) (eqb-true at.1 x at.4) at.3),
  λ at. list_any_at (λ y. y == x) xs at.0 x at.1 (eq-eqb _ _ at.2),
)

-- a test that a number of the list passes, and a number of the list that passes it
passed : (p : ℕ → Bool) (x : ℕ) (xs : List ℕ) → Contains xs x → p x ≡ true → list_any p xs ≡ true
passed p x xs at holds = list_any_at p xs at.0 x at.1 (ap p at.2 ∙ holds)

passing : (p : ℕ → Bool) (xs : List ℕ) → list_any p xs ≡ true → (x : ℕ) × Contains xs x × (p x ≡ true)
passing p xs some = let at = Any-from_list_any p xs some in (at.1, (at.0, at.2, at.3), at.4)

-- the test passes for a material and a level of the two lists where what it tests holds somewhere on the task
pub somewhere : (t : Task) (test : ℕ → ℕ → Bool) (P : ℕ → ℕ → Type 0) →
    ((material level : ℕ) → IsTrue (test material level) ↔ P material level) →
    IsTrue (list_any (λ material. list_any (λ level. test material level) t.levels) t.materials) ↔ Somewhere t P
somewhere t test P tests = (
  λ some.
      let m = passing (λ material. list_any (λ level. test material level) t.levels) t.materials some in
      let l = passing (λ level. test m.0 level) t.levels m.2 in
      (m.0, l.0, and_from _ _ ((is_listed m.0 t.materials).1 m.1) ((is_listed l.0 t.levels).1 l.1), (tests m.0 l.0).0 l.2),
  λ there.
      let runs = and_parts (list_any (λ m. m == there.0) t.materials) (list_any (λ l. l == there.1) t.levels) there.2 in
      passed (λ material. list_any (λ level. test material level) t.levels) there.0 t.materials ((is_listed there.0 t.materials).0 runs.0)
      (passed (λ level. test there.0 level) there.1 t.levels ((is_listed there.1 t.levels).0 runs.1) ((tests there.0 there.1).1 there.3)),
)

-- what is not true is false
pub not_is_false : (b : Bool) → IsTrue (not b) ↔ IsFalse b
not_is_false b = (not-true b, not_from_false b)

-- what is false of the first and true of the second
pub only_second : (a b : Bool) → IsTrue (not a && b) ↔ (IsFalse a × IsTrue b)
only_second a b = (
  λ both. let parts = and_parts (not a) b both in (not-true a parts.0, parts.1),
  λ both. and_from _ _ (not_from_false a both.0) both.1,
)

-- a test of each number for the one after it
pub neighbours : (levels : List ℕ) → IsTrue (list_any (λ l. list_any (λ n. n == l + 1) levels) levels) ↔ HaveNeighbours levels
neighbours levels = (
  λ some.
      let low = passing (λ l. list_any (λ n. n == l + 1) levels) levels some in
      (low.0, low.1, (is_listed (low.0 + 1) levels).0 low.2),
  λ there. passed (λ l. list_any (λ n. n == l + 1) levels) there.0 levels there.1 ((is_listed (there.0 + 1) levels).1 there.2),
)
