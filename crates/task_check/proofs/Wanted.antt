-- How many slots a requirement of an accepted task wants.
use Rattle.std.proofs.Common.{◌≡◌, ◌∙◌, ◌<◌, ◌+◌, ℕ, List, ◌++◌, Bool, true, false, cond, Some, length, take, sym, refl, arith, subst}
use Rattle.std.specs.Prelude.{slice_get, ◌==◌, ◌&&◌, if◌then◌else◌, IsTrue}
use Rattle.std.specs.List.{count_by, flat_map, list_any}
use Rattle.std.specs.Option.{is_some}
use Rattle.std.proofs.lemmas.Bool.{eqb-true}
use Rattle.std.proofs.lemmas.List.Sums.{sum_by-append}
use Rattle.uts_geom.specs.Lists.{any_at, at_place, found_at, place_of_found}
use Rattle.kernel_ast.specs.declared.expression.Store.{Store}
use Rattle.kernel_ast.specs.declared.expression.Store.TheVariants as store
use Rattle.problem_types.specs.Form.{IsProblemInForm}
use Rattle.problem_types.specs.Lists.{task_list, computes, runs_on, field_write, reduction_write, is_computes, is_of_field, is_reduces}
use Rattle.problem_types.specs.declared.problem.Problem.{Problem}
use Rattle.problem_types.specs.declared.problem.Var.{Var}
use Rattle.problem_types.specs.declared.problem.Reduction.{Reduction}
use Rattle.problem_types.specs.declared.problem.Task.{Task}
use Rattle.problem_types.specs.declared.problem.What.{What}
use Rattle.problem_types.specs.declared.problem.What.TheVariants as what
use Rattle.problem_types.specs.declared.problem.Write.{Write}
use Rattle.problem_types.specs.declared.problem.WriteKind.{WriteKind}
use Rattle.problem_types.specs.declared.problem.WriteKind.TheVariants as write
use Rattle.task_rules.specs.Lines.{wanted_name, wanted_level, reduces}
use Rattle.task_rules.specs.Names.{IsVariable, IsReduction, IsKnown}
use Rattle.task_check.specs.Lines.{FindsNothing}
use Rattle.task_check.specs.Places.{IsTaskAt}
use Rattle.task_check.specs.First.{IsFaultless}
use Rattle.task_check.specs.Plan.{Slot, patches_of, patch_of, old_variables, old_numbers, details_of, slot_written, written_by, has_variable, has_number, writes_variable, is_of_number}
use Rattle.task_check.proofs.Accepted.{task_in_form}
use Rattle.task_check.proofs.AtPlaces.{one_by_order}
use Rattle.task_check.proofs.Once.{both, of_both, variable_twice, reduction_twice, field_twice, reduced_twice, reduced_by_two}
use Rattle.task_check.proofs.OldSlots.{no_old_variable, no_old_number, no_written, old_variable_once, old_number_once}
use Rattle.task_check.proofs.NewSlots.{NoTwoLines, new_variable_once, new_number_once}
use Rattle.task_check.proofs.Apart.{is_wanted}

-- a computing line writes a variable
of_computing : (k : WriteKind) → is_computes k ≡ true → is_of_field k ≡ true
of_computing write.Computes is = refl
of_computing write.Modifies is = refl
of_computing (write.Reduces c) is = absurd cc

computing_writes : (tasks : List Task) (name material level : ℕ) → computes tasks name material level ≡ true → list_any (writes_variable name material level) tasks ≡ true
computing_writes tasks name material level some =
    let t = at_place (λ (t : Task). runs_on t material level && list_any (λ (w : Write). (w.name == name) && is_computes w.kind) t.writes) tasks some in
    let parts = both (runs_on t.1 material level) (list_any (λ (w : Write). (w.name == name) && is_computes w.kind) t.1.writes) t.3 in
    let w = at_place (λ (w : Write). (w.name == name) && is_computes w.kind) t.1.writes parts.1 in
    let named = both (w.1.name == name) (is_computes w.1.kind) w.3 in
    any_at (writes_variable name material level) tasks t.0 t.1 t.2
    (of_both (runs_on t.1 material level) (is_some (field_write t.1 name)) parts.0
    (found_at (λ (v : Write). (v.name == name) && is_of_field v.kind) t.1.writes w.0 w.1 w.2
    (of_both (w.1.name == name) (is_of_field w.1.kind) named.0 (of_computing w.1.kind named.1))))

not_false : (b : Bool) → (b ≡ false → ⊥) → b ≡ true
not_false true never = refl
not_false false never = absurd (never refl)

-- no written slot is an old one
old_unwritten : (tasks : List Task) (place name material level : ℕ) (test : ℕ → Bool) (k : WriteKind) (at line l m patch : ℕ) →
    (has_variable tasks place store.Old name material level (slot_written k at line l m patch) && test (patch_of (slot_written k at line l m patch))) ≡ false
old_unwritten tasks place name material level test write.Computes at line l m patch = refl
old_unwritten tasks place name material level test write.Modifies at line l m patch = refl
old_unwritten tasks place name material level test (write.Reduces c) at line l m patch = refl

old_number_unwritten : (tasks : List Task) (name : ℕ) (k : WriteKind) (at line l m patch : ℕ) → has_number tasks store.Old name (slot_written k at line l m patch) ≡ false
old_number_unwritten tasks name write.Computes at line l m patch = refl
old_number_unwritten tasks name write.Modifies at line l m patch = refl
old_number_unwritten tasks name (write.Reduces c) at line l m patch = refl

-- how many of all slots pass: of those that stand for the step before, and of those that are written
abbrev pub count_all : (Slot → Bool) → Problem → List Task → ℕ
count_all q p tasks = count_by q (old_variables p ++ old_numbers p) + count_by q (flat_map (written_by tasks) (details_of p tasks))

pub count-olds : (q : Slot → Bool) (p : Problem) → count_by q (old_variables p ++ old_numbers p) ≡ count_by q (old_variables p) + count_by q (old_numbers p)
count-olds q p = sum_by-append (λ s. cond (q s) 1 0) (old_variables p) (old_numbers p)

module _ (p : Problem) (form : IsProblemInForm p) (faultless : IsFaultless p) (list : ℕ) (of_two : list < 2) where
  abbrev tasks : List Task
  tasks = task_list p list

  there : (place : ℕ) (t : Task) → slice_get tasks place ≡ Some t → IsTaskAt p list place t
  there place t at = record { of_two = of_two; stands = at }

  names_alike : (v w : Write) (name : ℕ) (a b : Bool) → ((v.name == name) && a) ≡ true → ((w.name == name) && b) ≡ true → (v.name ≡ w.name) × (a ≡ true) × (b ≡ true)
  names_alike v w name a b first second =
      let one = both (v.name == name) a first in
      let two = both (w.name == name) b second in
      (eqb-true v.name name one.0 ∙ sym (eqb-true w.name name two.0), one.1, two.1)

  -- no task writes a variable by two lines, and each task's levels and materials ascend
  one_field_line : (name place : ℕ) (t : Task) → slice_get tasks place ≡ Some t → NoTwoLines (λ w. (w.name == name) && is_of_field w.kind) t
  one_field_line name place t at i j v w before at_i at_j first second =
      let same = names_alike v w name (is_of_field v.kind) (is_of_field w.kind) first second in
      field_twice p faultless list place t (there place t at) i j v w before at_i at_j same.0 same.1 same.2

  one_reducing_line : (name place : ℕ) (t : Task) → slice_get tasks place ≡ Some t → NoTwoLines (λ w. (w.name == name) && is_reduces w.kind) t
  one_reducing_line name place t at i j v w before at_i at_j first second =
      let same = names_alike v w name (is_reduces v.kind) (is_reduces w.kind) first second in
      reduced_twice p faultless list place t (there place t at) i j v w before at_i at_j same.0 same.1 same.2

  -- nor do two tasks reduce one reduction
  one_reducer : (name : ℕ) (j k : ℕ) (s t : Task) → j < k → slice_get tasks j ≡ Some s → slice_get tasks k ≡ Some t →
      is_some (reduction_write s name) ≡ true → is_some (reduction_write t name) ≡ true → ⊥
  one_reducer name j k s t before at_j at_k first second =
      let v = place_of_found (λ (w : Write). (w.name == name) && is_reduces w.kind) s.writes first in
      let w = place_of_found (λ (w : Write). (w.name == name) && is_reduces w.kind) t.writes second in
      let same = names_alike v.1 w.1 name (is_reduces v.1.kind) (is_reduces w.1.kind) v.3 w.3 in
      reduced_by_two p faultless list k t (there k t at_k) j s before at_j v.0 w.0 v.1 w.1 v.2 w.2 same.0 same.1 same.2

  module _ (place : ℕ) (t : Task) (material : ℕ) (below : material < p.materials.value) where
    -- a variable, as it stands for a task
    variable_wanted : (at : Store) (name level : ℕ) (test : ℕ → Bool) → IsVariable p name → level < length p.levels →
        (at ≡ store.New → list_any (writes_variable name material level) (take place tasks) ≡ true) →
        count_all (λ s. has_variable tasks place at name material level s && test (patch_of s)) p tasks ≡ count_by test (patches_of p level)
    variable_wanted store.Old name level test declared level_below written =
        let v = place_of_found (λ (u : Var). u.name == name) p.vars declared in
        let stands : Slot → Bool = λ s. has_variable tasks place store.Old name material level s && test (patch_of s) in
        let once = old_variable_once p tasks place name material level test v.0 v.1 v.2 (eqb-true v.1.name name v.3)
        (λ j w at named. one_by_order (λ k. (u : Var) × (slice_get p.vars k ≡ Some u) × (u.name ≡ name))
        (λ a b before at_a at_b. variable_twice p faultless a b at_a.0 at_b.0 before at_a.1 at_b.1 (at_a.2 ∙ sym at_b.2)) j v.0 (w, at, named) (v.1, v.2, eqb-true v.1.name name v.3))
        level_below below in
        omega (
          arith,
          once,
          count-olds stands p,
          no_old_number stands p (λ n. refl),
          no_written stands p tasks (old_unwritten tasks place name material level test) (λ k line. refl),
        )
    variable_wanted store.New name level test declared level_below written =
        let stands : Slot → Bool = λ s. has_variable tasks place store.New name material level s && test (patch_of s) in
        let once = new_variable_once p tasks place name material level test (written refl)
        (λ k u at. (one_field_line name k u at, (task_in_form p form list k u (there k u at)).levels.ascending, (task_in_form p form list k u (there k u at)).materials.ascending)) in
        omega (arith, once, count-olds stands p, no_old_number stands p (λ n. refl), no_old_variable stands p (λ n l m patch. refl))

    -- a reduction
    number_wanted : (at : Store) (name : ℕ) → IsReduction p name → (at ≡ store.New → reduces (take place tasks) name ≡ true) → count_all (has_number tasks at name) p tasks ≡ 1
    number_wanted store.Old name declared reduced =
        let q = place_of_found (λ (r : Reduction). r.name == name) p.reductions declared in
        let once = old_number_once p tasks name q.0 q.1 q.2 (eqb-true q.1.name name q.3)
        (λ j r at named. one_by_order (λ k. (u : Reduction) × (slice_get p.reductions k ≡ Some u) × (u.name ≡ name))
        (λ a b before at_a at_b. reduction_twice p faultless a b at_a.0 at_b.0 before at_a.1 at_b.1 (at_a.2 ∙ sym at_b.2)) j q.0 (r, at, named) (q.1, q.2, eqb-true q.1.name name q.3)) in
        omega (
          arith,
          once,
          count-olds (has_number tasks store.Old name) p,
          no_old_variable (has_number tasks store.Old name) p (λ n l m patch. refl),
          no_written (has_number tasks store.Old name) p tasks (old_number_unwritten tasks name) (λ k line. refl),
        )
    number_wanted store.New name declared reduced =
        let once = new_number_once p tasks place name (reduced refl) (one_reducing_line name) (one_reducer name) in
        omega (
          arith,
          once,
          count-olds (has_number tasks store.New name) p,
          no_old_variable (has_number tasks store.New name) p (λ n l m patch. refl),
          no_old_number (has_number tasks store.New name) p (λ n. refl),
        )

    -- what is required is there where the task runs
    written_for : (at : Store) (w : What) (level : ℕ) → IsTrue (runs_on t material level) → (FindsNothing p list place t at w → ⊥) → is_of_number w ≡ false →
        at ≡ store.New → list_any (writes_variable (wanted_name w) material (wanted_level w level)) (take place tasks) ≡ true
    written_for at (what.Same var layers) level runs found of_variable new =
        computing_writes (take place tasks) var material level (not_false _ (λ none. found (subst (λ (s : Store). FindsNothing p list place t s (what.Same var layers)) (sym new) (material, level, runs, none))))
    written_for at (what.Coarse var layers) level runs found of_variable new =
        computing_writes (take place tasks) var material (wanted_level (what.Coarse var layers) level)
        (not_false _ (λ none. found (subst (λ (s : Store). FindsNothing p list place t s (what.Coarse var layers)) (sym new) (material, level, runs, none))))
    written_for at (what.Fine var) level runs found of_variable new =
        computing_writes (take place tasks) var material (wanted_level (what.Fine var) level)
        (not_false _ (λ none. found (subst (λ (s : Store). FindsNothing p list place t s (what.Fine var)) (sym new) (material, level, runs, none))))
    written_for at (what.Number name) level runs found of_variable new = absurd cc

    pub wanted_once : (at : Store) (w : What) (level : ℕ) (test : ℕ → Bool) → IsKnown p w → IsTrue (runs_on t material level) → wanted_level w level < length p.levels →
        (FindsNothing p list place t at w → ⊥) →
        count_all (is_wanted tasks place material level at w test) p tasks ≡ (if is_of_number w then 1 else count_by test (patches_of p (wanted_level w level)))
    wanted_once at (what.Same var layers) level test known runs wanted found =
        variable_wanted at var level test known wanted (written_for at (what.Same var layers) level runs found refl)
    wanted_once at (what.Coarse var layers) level test known runs wanted found =
        variable_wanted at var (wanted_level (what.Coarse var layers) level) test known wanted (written_for at (what.Coarse var layers) level runs found refl)
    wanted_once at (what.Fine var) level test known runs wanted found =
        variable_wanted at var (wanted_level (what.Fine var) level) test known wanted (written_for at (what.Fine var) level runs found refl)
    wanted_once at (what.Number name) level test known runs wanted found =
        number_wanted at name known (λ new. not_false _ (λ none. found (subst (λ (s : Store). FindsNothing p list place t s (what.Number name)) (sym new) none)))
