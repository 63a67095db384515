-- Sums over the detailed tasks of a list, by its tasks.
use Rattle.std.proofs.Common.{◌≡◌, ◌∙◌, ◌≤◌, ◌+◌, ◌*◌, ℕ, List, [], ◌∷◌, false, cond, Option, Some, None, length, ap, sym, refl, arith}
use Rattle.std.specs.Prelude.{filter, slice_get}
use Rattle.std.specs.List.{sum_by}
use Rattle.std.specs.Option.{option_map_or}
use Rattle.std.proofs.lemmas.List.Sums.{sum_by-cons, length-filter}
use Rattle.uts_geom.specs.Spans.{counted}
use Rattle.uts_geom.specs.Counting.{length-counted}
use Rattle.problem_types.specs.Form.{IsProblemInForm}
use Rattle.problem_types.specs.Lists.{is_reduces}
use Rattle.problem_types.specs.declared.problem.Problem.{Problem}
use Rattle.problem_types.specs.declared.problem.Task.{Task}
use Rattle.problem_types.specs.declared.problem.Level.{Level}
use Rattle.problem_types.specs.declared.problem.Write.{Write}
use Rattle.task_check.specs.Plan.{Detail, OnPatch, Combining, patches_of, line_is, on_patches, combining, details_of}
use Rattle.task_check.specs.Counts.{detailed_count}
use Rattle.task_check.specs.First.{IsFaultless}
use Rattle.task_check.specs.Sizes.{IsTask, details_count, part_count, reduces_count}
use Rattle.task_check.proofs.Accepted.{keeps_grid_limits, few_levels_of_task, few_materials_of_task, few_lines}
use Rattle.task_check.proofs.Sums.{sum-constant, sum-map, sum-same}
use Rattle.task_check.proofs.PlanSums.{by_place-same, by_place-sum, sum-details, sum-on_patches}

module _ {X : Type 0} where
  pub length_is_sum : (xs : List X) → length xs ≡ sum_by (λ x. 1) xs
  length_is_sum xs = let e : length xs * 1 ≡ length xs = omega arith in sym (sum-constant 1 xs ∙ e)

  pub sum-alike : (f g : X → ℕ) → ((x : X) → f x ≡ g x) → (xs : List X) → sum_by f xs ≡ sum_by g xs
  sum-alike f g same xs = sum-same f g xs (λ k x at. same x)

  sum-times : (k : ℕ) (f : X → ℕ) (xs : List X) → sum_by (λ x. k * f x) xs ≡ k * sum_by f xs
  sum-times k f [] = omega arith
  sum-times k f (x ∷ xs) = omega (arith, sum_by-cons (λ y. k * f y) x xs, ap (λ (n : ℕ). k * n) (sum_by-cons f x xs), sum-times k f xs)

-- where each material counts alike
pub sum_by_patches : (h : Detail → ℕ) (g : (level patch : ℕ) → ℕ) (p : Problem) (place : ℕ) (t : Task) →
    ((level material patch : ℕ) → h (OnPatch place level material patch) ≡ g level patch) →
    sum_by h (on_patches p place t) ≡ length t.materials * sum_by (λ level. sum_by (g level) (patches_of p level)) t.levels
sum_by_patches h g p place t alike =
    sum-on_patches h p place t
    ∙ sum-alike _ _ (λ level.
    sum-alike _ (λ material. sum_by (g level) (patches_of p level)) (λ material. sum-alike _ (g level) (alike level material) (patches_of p level)) t.materials
    ∙ sum-constant (sum_by (g level) (patches_of p level)) t.materials) t.levels
    ∙ sum-times (length t.materials) (λ level. sum_by (g level) (patches_of p level)) t.levels

-- how many lines reduce
pub combining_lines : (t : Task) → length (filter (line_is t.writes (λ w. is_reduces w.kind)) (counted 0 (length t.writes))) ≡ reduces_count t.writes
combining_lines t =
    length-filter (line_is t.writes (λ w. is_reduces w.kind)) (counted 0 (length t.writes))
    ∙ sum-alike _ (λ line. option_map_or (λ w. cond (is_reduces w.kind) 1 0) (slice_get t.writes line) 0) (λ line. by_line (slice_get t.writes line)) (counted 0 (length t.writes))
    ∙ by_place-sum (λ w. cond (is_reduces w.kind) 1 0) t.writes
  where
    by_line : (o : Option Write) → cond {A = ℕ} (option_map_or (λ w. is_reduces w.kind) o false) 1 0 ≡ option_map_or (λ w. cond (is_reduces w.kind) 1 0) o 0
    by_line None = refl
    by_line (Some w) = refl

-- where each line that reduces counts alike
pub sum_alike_combining : (h : Detail → ℕ) (k : ℕ) (place : ℕ) (t : Task) → ((line : ℕ) → h (Combining place line) ≡ k) →
    sum_by h (combining place t) ≡ reduces_count t.writes * k
sum_alike_combining h k place t each =
    let lines : List ℕ = filter (line_is t.writes (λ w. is_reduces w.kind)) (counted 0 (length t.writes)) in
    sum-map h (Combining place) lines
    ∙ sum-alike (λ line. h (Combining place line)) (λ line. k) each lines
    ∙ sum-constant k lines
    ∙ ap (λ n. n * k) (combining_lines t)

-- where the place of a task does not count
pub sum_by_tasks : (h : Detail → ℕ) (f : Task → ℕ) (p : Problem) (tasks : List Task) →
    ((place : ℕ) (t : Task) → slice_get tasks place ≡ Some t → sum_by h (on_patches p place t) + sum_by h (combining place t) ≡ f t) →
    sum_by h (details_of p tasks) ≡ sum_by f tasks
sum_by_tasks h f p tasks each =
    sum-details h p tasks
    ∙ by_place-same tasks (λ place t. sum_by h (on_patches p place t) + sum_by h (combining place t)) (λ place t. f t) each
    ∙ by_place-sum f tasks

pub length-patches_of : (p : Problem) (level : ℕ) → length (patches_of p level) ≡ option_map_or (λ l. length l.patches) (slice_get p.levels level) 0
length-patches_of p level = length-counted 0 (option_map_or (λ l. length l.patches) (slice_get p.levels level) 0)

pub few_patches : (p : Problem) → IsProblemInForm p → IsFaultless p → (level : ℕ) → length (patches_of p level) ≤ 1024
few_patches p form faultless level = rw (length-patches_of p level) (by_level (slice_get p.levels level) refl)
  where
    by_level : (o : Option Level) → slice_get p.levels level ≡ o → option_map_or (λ l. length l.patches) o 0 ≤ 1024
    by_level None at = omega arith
    by_level (Some l) at = (keeps_grid_limits p form faultless level l at).few_patches

-- a task has few materials, levels and lines
pub record HasFew (t : Task) : Type 0 where
  pub levels : length t.levels ≤ 4
  pub materials : length t.materials ≤ 8
  pub lines : length t.requirements + length t.writes ≤ 64

pub has_few : (p : Problem) (t : Task) → IsProblemInForm p → IsFaultless p → IsTask p t → HasFew t
has_few p t form faultless there = record {
  levels = few_levels_of_task p form faultless there.0 there.1 t there.2;
  materials = few_materials_of_task p form faultless there.0 there.1 t there.2;
  lines = few_lines p form faultless there.0 there.1 t there.2;
}

pub length-on_patches : (p : Problem) (place : ℕ) (t : Task) → length (on_patches p place t) ≡ part_count p t
length-on_patches p place t =
    length_is_sum (on_patches p place t)
    ∙ sum_by_patches (λ d. 1) (λ level patch. 1) p place t (λ level material patch. refl)
    ∙ ap (λ n. length t.materials * n) (sum-alike _ _ (λ level. sym (length_is_sum (patches_of p level))) t.levels)

-- how many detailed tasks there are, by the tasks of a list
pub detailed_by_tasks : (p : Problem) (tasks : List Task) → detailed_count p tasks ≡ sum_by (details_count p) tasks
detailed_by_tasks p tasks =
    length_is_sum (details_of p tasks)
    ∙ sum_by_tasks (λ d. 1) (details_count p) p tasks (λ place t at.
    let on = sym (length_is_sum (on_patches p place t)) ∙ length-on_patches p place t in
    let combined = sum_alike_combining (λ d. 1) 1 place t (λ line. refl) in
    omega (arith, on, combined))

-- how many patches a level has, where it is one
pub patches_at : (p : Problem) (level : ℕ) (l : Level) → slice_get p.levels level ≡ Some l → length l.patches ≡ length (patches_of p level)
patches_at p level l at = sym (length-patches_of p level ∙ ap (λ (o : Option Level). option_map_or (λ k. length k.patches) o 0) at)

pub patches_past : (p : Problem) (level : ℕ) → slice_get p.levels level ≡ None → 0 ≡ length (patches_of p level)
patches_past p level at = sym (length-patches_of p level ∙ ap (λ (o : Option Level). option_map_or (λ k. length k.patches) o 0) at)
