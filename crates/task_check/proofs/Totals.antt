-- Totals that are given up once they are above the limit on reads, and what the checks say of requirements.
use Rattle.std.proofs.Common.{◌≡◌, ◌∙◌, ◌≤◌, ◌<◌, ◌+◌, ◌*◌, ℕ, List, Option, None, length, get_or, take, ap, sym, arith, subst}
use Rattle.std.specs.List.{sum_by}
use Rattle.std.proofs.Math.Nat.{mul-le-mul_left}
use Rattle.std.proofs.lemmas.List.Sums.{sum_by_more, sum_by_more_le}
use Rattle.problem_types.specs.declared.problem.Task.{Task}
use Rattle.task_rules.specs.Lines.{wanted_level}
use Rattle.std.specs.Prelude.{Contains}
use Rattle.std.proofs.lemmas.Option.{slice_get-get_or}
use Rattle.std.proofs.lemmas.List.Elements.{All-contains}
use Rattle.problem_types.specs.Form.{IsProblemInForm}
use Rattle.problem_types.specs.declared.problem.Problem.{Problem}
use Rattle.problem_types.specs.declared.problem.Require.{Require}
use Rattle.task_check.specs.First.{IsFaultless}
use Rattle.task_check.specs.Places.{IsRequireAt}
use Rattle.task_check.specs.Sizes.{IsTask}
use Rattle.task_check.proofs.Accepted.{few_layers, levels_below, wanted_below}
use Rattle.task_check.specs.Supplies.{layers_of}
use Rattle.task_check.specs.Reading.{IsUpToLimit}

-- a total above the limit is given up
pub given_up : (n : ℕ) (o : Option ℕ) → o ≡ None → 2097152 < n → IsUpToLimit n o
given_up n o is above = subst (IsUpToLimit n) (sym is) above

pub above_limit : (n : ℕ) (o : Option ℕ) → o ≡ None → IsUpToLimit n o → 2097152 < n
above_limit n o is limited = subst (IsUpToLimit n) is limited

-- a total that is above the limit before its end is above it at the end
pub total_above : {X : Type 0} (f : X → ℕ) (xs ys : List X) (i : ℕ) (d : X) (before total more : ℕ) → ys ≡ xs → i < length ys →
    total ≡ before + sum_by f (take i xs) → more ≡ f (get_or ys i d) → 2097152 < total + more → 2097152 < before + sum_by f xs
total_above {X} f xs ys i d before total more same below so_far term above =
    let below_xs : i < length xs = subst (λ (zs : List X). i < length zs) same below in
    let term_xs : more ≡ f (get_or xs i d) = subst (λ (zs : List X). more ≡ f (get_or zs i d)) same term in
    omega (arith, sum_by_more_le f xs i d below_xs, term_xs, so_far, above)

pub total_more : {X : Type 0} (f : X → ℕ) (xs ys : List X) (i : ℕ) (d : X) (before total more : ℕ) → ys ≡ xs → i < length ys →
    total ≡ before + sum_by f (take i xs) → more ≡ total + f (get_or ys i d) → more ≡ before + sum_by f (take (i + 1) xs)
total_more {X} f xs ys i d before total more same below so_far term =
    let below_xs : i < length xs = subst (λ (zs : List X). i < length zs) same below in
    let term_xs : more ≡ total + f (get_or xs i d) = subst (λ (zs : List X). more ≡ total + f (get_or zs i d)) same term in
    omega (arith, sum_by_more f xs i d below_xs, term_xs, so_far)

-- the first, where each term counts so many times
pub times_above : {X : Type 0} (k : ℕ) (g : X → ℕ) (xs ys : List X) (i : ℕ) (d : X) (before total k' more : ℕ) → ys ≡ xs → i < length ys →
    total ≡ before + sum_by (λ x. k * g x) (take i xs) → k' ≡ k → more ≡ g (get_or ys i d) → 2097152 < total + k' * more → 2097152 < before + sum_by (λ x. k * g x) xs
times_above k g xs ys i d before total k' more same below so_far same_k term above =
    total_above (λ x. k * g x) xs ys i d before total (k' * more) same below so_far (ap (λ n. n * more) same_k ∙ ap (λ n. k * n) term) above

-- What the checks of a task say of one of its requirements.
pub record IsSound (p : Problem) (level : ℕ) (r : Require) : Type 0 where
  pub few : layers_of r.what ≤ 8
  pub wanted : wanted_level r.what level < length p.levels

pub level_there : (p : Problem) → IsProblemInForm p → IsFaultless p → (t : Task) → IsTask p t → (level : ℕ) → Contains t.levels level → level < length p.levels
level_there p form faultless t there level runs =
    All-contains (λ l. l < length p.levels) t.levels level (levels_below p form faultless there.0 there.1 t there.2) runs

pub sound_at : (p : Problem) → IsProblemInForm p → IsFaultless p → (t : Task) → IsTask p t → (level : ℕ) → Contains t.levels level →
    (k : ℕ) (d : Require) → k < length t.requirements → IsSound p level (get_or t.requirements k d)
sound_at p form faultless t there level runs k d below =
    let r = get_or t.requirements k d in
    let line : IsRequireAt p there.0 there.1 t k r = record { task = there.2; stands = slice_get-get_or t.requirements k d below } in
    record {
      few = few_layers p faultless there.0 there.1 t k r line;
      wanted = wanted_below p faultless there.0 there.1 t k r line level runs (level_there p form faultless t there level runs);
    }

-- what a requirement reads for each material is little
pub product_fits : (a b n : ℕ) → a ≤ n → b ≤ 1024 * 1024 → a * b ≤ n * (1024 * 1024)
product_fits a b n few_a few_b = omega (arith, mul-le-mul_left a few_b, few_a)
