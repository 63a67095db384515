-- Sums over the old slots, and what no slot of a kind passes.
use Rattle.std.proofs.Common.{◌≡◌, ◌∙◌, ◌<◌, ◌+◌, ℕ, List, Bool, true, false, cond, Some, length, map, ap, refl, arith}
use Rattle.std.specs.Prelude.{slice_get, ◌==◌, ◌&&◌}
use Rattle.std.specs.List.{count_by, sum_by, flat_map}
use Rattle.std.proofs.lemmas.Bool.{eqb-true, eq-eqb}
use Rattle.kernel_ast.specs.declared.expression.Store.TheVariants as store
use Rattle.uts_geom.specs.Spans.{counted}
use Rattle.problem_types.specs.declared.problem.Problem.{Problem}
use Rattle.problem_types.specs.declared.problem.Var.{Var}
use Rattle.problem_types.specs.declared.problem.Reduction.{Reduction}
use Rattle.problem_types.specs.declared.problem.Task.{Task}
use Rattle.problem_types.specs.declared.problem.Write.{Write}
use Rattle.problem_types.specs.declared.problem.WriteKind.{WriteKind}
use Rattle.task_check.specs.Plan.{Slot, Old, OldNumber, Number, patches_of, patch_of, old_variables, old_numbers, details_of, slot_written, written_by, has_variable, has_number}
use Rattle.task_check.proofs.Sums.{sum-same, sum-nothing, sum-flat_map, sum-map, sum-one, count-one, count-none}
use Rattle.task_check.proofs.AtPlaces.{count-counted}
use Rattle.task_check.proofs.PlanSums.{by_place-nothing, sum-all_written, written_on_patches, written_combined}

pub sum-old_variables : (f : Slot → ℕ) (p : Problem) →
    sum_by f (old_variables p) ≡ sum_by (λ v. sum_by (λ level. sum_by (λ material. sum_by (λ patch. f (Old v.name level material patch)) (patches_of p level))
    (counted 0 p.materials.value)) (counted 0 (length p.levels))) p.vars
sum-old_variables f p =
    sum-flat_map f (λ (v : Var). flat_map (λ level. flat_map (λ material. map (Old v.name level material) (patches_of p level)) (counted 0 p.materials.value)) (counted 0 (length p.levels))) p.vars
    ∙ sum-same (λ (v : Var). sum_by f (flat_map (λ level. flat_map (λ material. map (Old v.name level material) (patches_of p level)) (counted 0 p.materials.value)) (counted 0 (length p.levels))))
    (λ v. sum_by (λ level. sum_by (λ material. sum_by (λ patch. f (Old v.name level material patch)) (patches_of p level)) (counted 0 p.materials.value)) (counted 0 (length p.levels))) p.vars
    (λ i v at.
    sum-flat_map f (λ level. flat_map (λ material. map (Old v.name level material) (patches_of p level)) (counted 0 p.materials.value)) (counted 0 (length p.levels))
    ∙ sum-same (λ level. sum_by f (flat_map (λ material. map (Old v.name level material) (patches_of p level)) (counted 0 p.materials.value)))
    (λ level. sum_by (λ material. sum_by (λ patch. f (Old v.name level material patch)) (patches_of p level)) (counted 0 p.materials.value)) (counted 0 (length p.levels))
    (λ j level there.
    sum-flat_map f (λ material. map (Old v.name level material) (patches_of p level)) (counted 0 p.materials.value)
    ∙ sum-same (λ material. sum_by f (map (Old v.name level material) (patches_of p level)))
    (λ material. sum_by (λ patch. f (Old v.name level material patch)) (patches_of p level)) (counted 0 p.materials.value)
    (λ k material here. sum-map f (Old v.name level material) (patches_of p level))))

pub sum-old_numbers : (f : Slot → ℕ) (p : Problem) → sum_by f (old_numbers p) ≡ sum_by (λ q. f (OldNumber q.name)) p.reductions
sum-old_numbers f p = sum-map f (λ (q : Reduction). OldNumber q.name) p.reductions

-- no old variable passes, no old number, and no slot that is written
pub no_old_variable : (q : Slot → Bool) (p : Problem) → ((name level material patch : ℕ) → q (Old name level material patch) ≡ false) → count_by q (old_variables p) ≡ 0
no_old_variable q p fails =
    sum-old_variables (λ s. cond (q s) 1 0) p
    ∙ sum-nothing (λ v. sum_by (λ level. sum_by (λ material. sum_by (λ patch. cond (q (Old v.name level material patch)) 1 0) (patches_of p level)) (counted 0 p.materials.value)) (counted 0 (length p.levels))) p.vars
    (λ i v at. sum-nothing (λ level. sum_by (λ material. sum_by (λ patch. cond (q (Old v.name level material patch)) 1 0) (patches_of p level)) (counted 0 p.materials.value)) (counted 0 (length p.levels))
    (λ j level there. sum-nothing (λ material. sum_by (λ patch. cond (q (Old v.name level material patch)) 1 0) (patches_of p level)) (counted 0 p.materials.value)
    (λ k material here. count-none (λ patch. q (Old v.name level material patch)) (patches_of p level) (λ l patch on. fails v.name level material patch))))

pub no_old_number : (q : Slot → Bool) (p : Problem) → ((name : ℕ) → q (OldNumber name) ≡ false) → count_by q (old_numbers p) ≡ 0
no_old_number q p fails =
    sum-old_numbers (λ s. cond (q s) 1 0) p
    ∙ count-none (λ (r : Reduction). q (OldNumber r.name)) p.reductions (λ i r at. fails r.name)

either_none : (b : Bool) (n : ℕ) → n ≡ 0 → cond b n 0 ≡ 0
either_none true n none = none
either_none false n none = refl

pub nothing_written_on_patches : (f : Slot → ℕ) (p : Problem) (place : ℕ) (t : Task) →
    ((line : ℕ) (w : Write) (level material patch : ℕ) → slice_get t.writes line ≡ Some w → f (slot_written w.kind place line level material patch) ≡ 0) →
    written_on_patches f p place t ≡ 0
nothing_written_on_patches f p place t none =
    sum-nothing _ t.levels (λ i level here. sum-nothing _ t.materials (λ j material there. sum-nothing _ (patches_of p level) (λ k patch on.
    by_place-nothing t.writes (λ line w. f (slot_written w.kind place line level material patch)) (λ line w at. none line w level material patch at))))

pub nothing_combined : (f : Slot → ℕ) (place : ℕ) (t : Task) → ((line : ℕ) → f (Number place line) ≡ 0) → written_combined f place t ≡ 0
nothing_combined f place t none = by_place-nothing t.writes (λ line w. cond _ (f (Number place line)) 0) (λ line w at. either_none _ (f (Number place line)) (none line))

pub no_written : (q : Slot → Bool) (p : Problem) (tasks : List Task) →
    ((k : WriteKind) (place line level material patch : ℕ) → q (slot_written k place line level material patch) ≡ false) →
    ((place line : ℕ) → q (Number place line) ≡ false) → count_by q (flat_map (written_by tasks) (details_of p tasks)) ≡ 0
no_written q p tasks fails fails_combined =
    sum-all_written (λ s. cond (q s) 1 0) p tasks
    ∙ by_place-nothing tasks (λ place t. written_on_patches (λ s. cond (q s) 1 0) p place t + written_combined (λ s. cond (q s) 1 0) place t)
    (λ place t at. omega (
      arith,
      nothing_written_on_patches (λ s. cond (q s) 1 0) p place t (λ line w level material patch here. ap (λ (b : Bool). cond b 1 0) (fails w.kind place line level material patch)),
      nothing_combined (λ s. cond (q s) 1 0) place t (λ line. ap (λ (b : Bool). cond b 1 0) (fails_combined place line)),
    ))

-- A count behind a gate of three tests, and its parts.

pub gated : (a b c : Bool) (test : ℕ → Bool) (xs ys : List ℕ) → (a ≡ true → b ≡ true → c ≡ true → xs ≡ ys) →
    sum_by (λ x. cond ((a && (b && c)) && test x) 1 0) xs ≡ cond (a && (b && c)) (count_by test ys) 0
gated true true true test xs ys same = ap (count_by test) (same refl refl refl)
gated true true false test xs ys same = count-none (λ x. false) xs (λ k x at. refl)
gated true false c test xs ys same = count-none (λ x. false) xs (λ k x at. refl)
gated false b c test xs ys same = count-none (λ x. false) xs (λ k x at. refl)

pub last_out : (a b c : Bool) (n : ℕ) → cond (a && (b && c)) n 0 ≡ cond c (cond (a && b) n 0) 0
last_out true true c n = refl
last_out true false true n = refl
last_out true false false n = refl
last_out false b true n = refl
last_out false b false n = refl

pub middle_out : (a b c : Bool) (n : ℕ) → cond (a && (b && c)) n 0 ≡ cond b (cond (a && c) n 0) 0
middle_out true true c n = refl
middle_out true false c n = refl
middle_out false true c n = refl
middle_out false false c n = refl

pub second_out : (a b : Bool) (n : ℕ) → cond (a && b) n 0 ≡ cond b (cond a n 0) 0
second_out true b n = refl
second_out false true n = refl
second_out false false n = refl

-- The slots of a variable at the end of the step before: one for each patch of the level.
module _ (p : Problem) (tasks : List Task) (place name material level : ℕ) (test : ℕ → Bool) where
  abbrev stands : Slot → Bool
  stands s = has_variable tasks place store.Old name material level s && test (patch_of s)

  abbrev on_level : Var → ℕ → ℕ
  on_level v l = sum_by (λ m. sum_by (λ patch. cond (((v.name == name) && ((l == level) && (m == material))) && test patch) 1 0) (patches_of p l)) (counted 0 p.materials.value)

  pub old_variable_once : (i : ℕ) (v : Var) → slice_get p.vars i ≡ Some v → v.name ≡ name →
      ((j : ℕ) (w : Var) → slice_get p.vars j ≡ Some w → w.name ≡ name → j ≡ i) → level < length p.levels → material < p.materials.value →
      count_by stands (old_variables p) ≡ count_by test (patches_of p level)
  old_variable_once i v at named only level_below material_below =
      sum-old_variables (λ s. cond (stands s) 1 0) p
      ∙ sum-one (λ (w : Var). w.name == name) (λ (w : Var). sum_by (on_level w) (counted 0 (length p.levels))) (count_by test (patches_of p level)) p.vars
      (count-one (λ (w : Var). w.name == name) p.vars i v at (eq-eqb v.name name named) (λ j w there same. only j w there (eqb-true w.name name same)))
      (λ j w there.
      sum-one (λ l. l == level) (on_level w) (cond (w.name == name) (count_by test (patches_of p level)) 0) (counted 0 (length p.levels))
      (count-counted (length p.levels) level level_below)
      (λ k l here. sum-one (λ m. m == material)
      (λ m. sum_by (λ patch. cond (((w.name == name) && ((l == level) && (m == material))) && test patch) 1 0) (patches_of p l))
      (cond ((w.name == name) && (l == level)) (count_by test (patches_of p level)) 0) (counted 0 p.materials.value)
      (count-counted p.materials.value material material_below)
      (λ h m on. gated (w.name == name) (l == level) (m == material) test (patches_of p l) (patches_of p level) (λ a b c. ap (patches_of p) (eqb-true l level b))
      ∙ last_out (w.name == name) (l == level) (m == material) (count_by test (patches_of p level)))
      ∙ second_out (w.name == name) (l == level) (count_by test (patches_of p level))))

-- The slot of a reduction at the end of the step before.
pub old_number_once : (p : Problem) (tasks : List Task) (name i : ℕ) (q : Reduction) → slice_get p.reductions i ≡ Some q → q.name ≡ name →
    ((j : ℕ) (r : Reduction) → slice_get p.reductions j ≡ Some r → r.name ≡ name → j ≡ i) → count_by (has_number tasks store.Old name) (old_numbers p) ≡ 1
old_number_once p tasks name i q at named only =
    sum-old_numbers (λ s. cond (has_number tasks store.Old name s) 1 0) p
    ∙ count-one (λ (r : Reduction). r.name == name) p.reductions i q at (eq-eqb q.name name named) (λ j r there same. only j r there (eqb-true r.name name same))
