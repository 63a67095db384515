-- No slot is wanted by two requirements of a task.
use Rattle.std.proofs.Common.{◌≡◌, ◌∙◌, ◌<◌, ℕ, List, Bool, true, false, cond, ap, sym, refl, arith}
use Rattle.std.specs.Prelude.{slice_get, ◌==◌, ◌&&◌, if◌then◌else◌}
use Rattle.std.proofs.lemmas.Bool.{eqb-true}
use Rattle.kernel_ast.specs.declared.expression.Store.{Store}
use Rattle.kernel_ast.specs.declared.expression.Store.TheVariants as store
use Rattle.problem_types.specs.Lists.{is_of_field, is_reduces}
use Rattle.problem_types.specs.declared.problem.Task.{Task}
use Rattle.problem_types.specs.declared.problem.What.{What}
use Rattle.problem_types.specs.declared.problem.What.TheVariants as what
use Rattle.problem_types.specs.declared.problem.Write.{Write}
use Rattle.task_rules.specs.Lines.{wanted_name, wanted_level}
use Rattle.task_rules.specs.Names.{HaveOneRelation}
use Rattle.task_check.specs.Plan.{Slot, Old, OldNumber, New, Part, Number, patch_of, line_is, has_variable, has_number, is_line_of, is_last_writer, is_of_number}
use Rattle.task_check.proofs.Once.{both}
use Rattle.task_check.proofs.NewSlots.{of_option}

-- a line has one name
one_name : (tasks : List Task) (test : Write → Bool) (m n place line : ℕ) → is_line_of tasks test m place line ≡ true → is_line_of tasks test n place line ≡ true → m ≡ n
one_name tasks test m n place line of_m of_n =
    let t = of_option (λ (t : Task). line_is t.writes (λ (w : Write). (w.name == m) && test w) line) (slice_get tasks place) of_m in
    let u = of_option (λ (t : Task). line_is t.writes (λ (w : Write). (w.name == n) && test w) line) (slice_get tasks place) of_n in
    let w = of_option (λ (w : Write). (w.name == m) && test w) (slice_get t.0.writes line) t.2 in
    let v = of_option (λ (w : Write). (w.name == n) && test w) (slice_get u.0.writes line) u.2 in
    let same_task : t.0 ≡ u.0 = (let a = t.1 in let b = u.1 in cc) in
    let same_line : w.0 ≡ v.0 = (let a = w.1 in let b = v.1 in let c : slice_get t.0.writes line ≡ slice_get u.0.writes line = ap (λ (s : Task). slice_get s.writes line) same_task in cc) in
    let named : w.0.name ≡ m = eqb-true w.0.name m (both (w.0.name == m) (test w.0) w.2).0 in
    let also : v.0.name ≡ n = eqb-true v.0.name n (both (v.0.name == n) (test v.0) v.2).0 in
    sym named ∙ ap (λ (x : Write). x.name) same_line ∙ also

-- two tests that one slot of a variable passes
pub record SameVariable (a b : Store) (m n k l : ℕ) : Type 0 where
  pub store : a ≡ b
  pub name : m ≡ n
  pub level : k ≡ l

module _ (tasks : List Task) (place material : ℕ) where
  pub same_variable : (a b : Store) (m n k l : ℕ) (s : Slot) → has_variable tasks place a m material k s ≡ true → has_variable tasks place b n material l s ≡ true → SameVariable a b m n k l
  same_variable store.Old store.Old m n k l (Old name level mat patch) first second =
      let one = both (name == m) ((level == k) && (mat == material)) first in
      let two = both (name == n) ((level == l) && (mat == material)) second in
      let on = both (level == k) (mat == material) one.1 in
      let also = both (level == l) (mat == material) two.1 in
      record {
        store = refl;
        name = sym (eqb-true name m one.0) ∙ eqb-true name n two.0;
        level = sym (eqb-true level k on.0) ∙ eqb-true level l also.0;
      }
  same_variable store.New store.New m n k l (New writer line level mat patch) first second =
      let one = both (level == k) ((mat == material) && (is_last_writer tasks place m material k writer && is_line_of tasks (λ w. is_of_field w.kind) m writer line)) first in
      let two = both (level == l) ((mat == material) && (is_last_writer tasks place n material l writer && is_line_of tasks (λ w. is_of_field w.kind) n writer line)) second in
      let on = both (mat == material) (is_last_writer tasks place m material k writer && is_line_of tasks (λ w. is_of_field w.kind) m writer line) one.1 in
      let also = both (mat == material) (is_last_writer tasks place n material l writer && is_line_of tasks (λ w. is_of_field w.kind) n writer line) two.1 in
      let of_m = both (is_last_writer tasks place m material k writer) (is_line_of tasks (λ w. is_of_field w.kind) m writer line) on.1 in
      let of_n = both (is_last_writer tasks place n material l writer) (is_line_of tasks (λ w. is_of_field w.kind) n writer line) also.1 in
      record {
        store = refl;
        name = one_name tasks (λ w. is_of_field w.kind) m n writer line of_m.1 of_n.1;
        level = sym (eqb-true level k one.0) ∙ eqb-true level l two.0;
      }
  same_variable store.Old store.Old m n k l (OldNumber name) first second = absurd cc
  same_variable store.Old store.Old m n k l (New writer line lev mat patch) first second = absurd cc
  same_variable store.Old store.Old m n k l (Part writer line lev mat patch) first second = absurd cc
  same_variable store.Old store.Old m n k l (Number writer line) first second = absurd cc
  same_variable store.Old store.New m n k l (Old name lev mat patch) first second = absurd cc
  same_variable store.Old store.New m n k l (OldNumber name) first second = absurd cc
  same_variable store.Old store.New m n k l (New writer line lev mat patch) first second = absurd cc
  same_variable store.Old store.New m n k l (Part writer line lev mat patch) first second = absurd cc
  same_variable store.Old store.New m n k l (Number writer line) first second = absurd cc
  same_variable store.New store.Old m n k l (Old name lev mat patch) first second = absurd cc
  same_variable store.New store.Old m n k l (OldNumber name) first second = absurd cc
  same_variable store.New store.Old m n k l (New writer line lev mat patch) first second = absurd cc
  same_variable store.New store.Old m n k l (Part writer line lev mat patch) first second = absurd cc
  same_variable store.New store.Old m n k l (Number writer line) first second = absurd cc
  same_variable store.New store.New m n k l (Old name lev mat patch) first second = absurd cc
  same_variable store.New store.New m n k l (OldNumber name) first second = absurd cc
  same_variable store.New store.New m n k l (Part writer line lev mat patch) first second = absurd cc
  same_variable store.New store.New m n k l (Number writer line) first second = absurd cc

  pub same_number : (a b : Store) (m n : ℕ) (s : Slot) → has_number tasks a m s ≡ true → has_number tasks b n s ≡ true → (a ≡ b) × (m ≡ n)
  same_number store.Old store.Old m n (OldNumber name) first second = (refl, sym (eqb-true name m first) ∙ eqb-true name n second)
  same_number store.New store.New m n (Number task line) first second = (refl, one_name tasks (λ w. is_reduces w.kind) m n task line first second)
  same_number store.Old store.Old m n (Old name lev mat patch) first second = absurd cc
  same_number store.Old store.Old m n (New writer line lev mat patch) first second = absurd cc
  same_number store.Old store.Old m n (Part writer line lev mat patch) first second = absurd cc
  same_number store.Old store.Old m n (Number writer line) first second = absurd cc
  same_number store.Old store.New m n (Old name lev mat patch) first second = absurd cc
  same_number store.Old store.New m n (OldNumber name) first second = absurd cc
  same_number store.Old store.New m n (New writer line lev mat patch) first second = absurd cc
  same_number store.Old store.New m n (Part writer line lev mat patch) first second = absurd cc
  same_number store.Old store.New m n (Number writer line) first second = absurd cc
  same_number store.New store.Old m n (Old name lev mat patch) first second = absurd cc
  same_number store.New store.Old m n (OldNumber name) first second = absurd cc
  same_number store.New store.Old m n (New writer line lev mat patch) first second = absurd cc
  same_number store.New store.Old m n (Part writer line lev mat patch) first second = absurd cc
  same_number store.New store.Old m n (Number writer line) first second = absurd cc
  same_number store.New store.New m n (Old name lev mat patch) first second = absurd cc
  same_number store.New store.New m n (OldNumber name) first second = absurd cc
  same_number store.New store.New m n (New writer line lev mat patch) first second = absurd cc
  same_number store.New store.New m n (Part writer line lev mat patch) first second = absurd cc

  pub not_both : (a b : Store) (m n k : ℕ) (s : Slot) → has_variable tasks place a m material k s ≡ true → has_number tasks b n s ≡ true → ⊥
  not_both store.Old store.Old m n k (Old name lev mat patch) first second = cc
  not_both store.Old store.Old m n k (OldNumber name) first second = cc
  not_both store.Old store.Old m n k (New writer line lev mat patch) first second = cc
  not_both store.Old store.Old m n k (Part writer line lev mat patch) first second = cc
  not_both store.Old store.Old m n k (Number writer line) first second = cc
  not_both store.Old store.New m n k (Old name lev mat patch) first second = cc
  not_both store.Old store.New m n k (OldNumber name) first second = cc
  not_both store.Old store.New m n k (New writer line lev mat patch) first second = cc
  not_both store.Old store.New m n k (Part writer line lev mat patch) first second = cc
  not_both store.Old store.New m n k (Number writer line) first second = cc
  not_both store.New store.Old m n k (Old name lev mat patch) first second = cc
  not_both store.New store.Old m n k (OldNumber name) first second = cc
  not_both store.New store.Old m n k (New writer line lev mat patch) first second = cc
  not_both store.New store.Old m n k (Part writer line lev mat patch) first second = cc
  not_both store.New store.Old m n k (Number writer line) first second = cc
  not_both store.New store.New m n k (Old name lev mat patch) first second = cc
  not_both store.New store.New m n k (OldNumber name) first second = cc
  not_both store.New store.New m n k (New writer line lev mat patch) first second = cc
  not_both store.New store.New m n k (Part writer line lev mat patch) first second = cc
  not_both store.New store.New m n k (Number writer line) first second = cc

-- the levels that are wanted tell the relations apart, but for the coarsest level
abbrev pub HasCoarser : ℕ → What → Type 0
HasCoarser level (what.Same var layers) = Unit {0}
HasCoarser level (what.Coarse var layers) = 0 < level
HasCoarser level (what.Fine var) = Unit {0}
HasCoarser level (what.Number name) = Unit {0}

one_relation : (v w : What) (level : ℕ) → is_of_number v ≡ false → is_of_number w ≡ false → HasCoarser level v → HasCoarser level w →
    wanted_level v level ≡ wanted_level w level → HaveOneRelation v w
one_relation (what.Same a g) (what.Same b h) level of_v of_w above also same = tt
one_relation (what.Coarse a g) (what.Coarse b h) level of_v of_w above also same = tt
one_relation (what.Fine a) (what.Fine b) level of_v of_w above also same = tt
one_relation (what.Same a g) (what.Coarse b h) level of_v of_w above also same = omega arith
one_relation (what.Same a g) (what.Fine b) level of_v of_w above also same = omega arith
one_relation (what.Coarse a g) (what.Same b h) level of_v of_w above also same = omega arith
one_relation (what.Coarse a g) (what.Fine b) level of_v of_w above also same = omega arith
one_relation (what.Fine a) (what.Same b h) level of_v of_w above also same = omega arith
one_relation (what.Fine a) (what.Coarse b h) level of_v of_w above also same = omega arith
one_relation (what.Number a) w level of_v of_w above also same = absurd cc
one_relation (what.Same a g) (what.Number b) level of_v of_w above also same = absurd cc
one_relation (what.Coarse a g) (what.Number b) level of_v of_w above also same = absurd cc
one_relation (what.Fine a) (what.Number b) level of_v of_w above also same = absurd cc

one_of_numbers : (v w : What) → is_of_number v ≡ true → is_of_number w ≡ true → HaveOneRelation v w
one_of_numbers (what.Number a) (what.Number b) of_v of_w = tt
one_of_numbers (what.Same a g) w of_v of_w = absurd cc
one_of_numbers (what.Coarse a g) w of_v of_w = absurd cc
one_of_numbers (what.Fine a) w of_v of_w = absurd cc
one_of_numbers (what.Number a) (what.Same b h) of_v of_w = absurd cc
one_of_numbers (what.Number a) (what.Coarse b h) of_v of_w = absurd cc
one_of_numbers (what.Number a) (what.Fine b) of_v of_w = absurd cc

-- what a requirement wants, by its store and what it requires
module _ (tasks : List Task) (place material level : ℕ) where
  abbrev pub is_wanted : Store → What → (ℕ → Bool) → Slot → Bool
  is_wanted at w test s = if is_of_number w then has_number tasks at (wanted_name w) s
      else has_variable tasks place at (wanted_name w) material (wanted_level w level) s && test (patch_of s)

  -- two requirements that want one slot repeat one another
  pub repeated : (a b : Store) (v w : What) (test other : ℕ → Bool) (s : Slot) → HasCoarser level v → HasCoarser level w →
      is_wanted a v test s ≡ true → is_wanted b w other s ≡ true → (a ≡ b) × HaveOneRelation v w × (wanted_name v ≡ wanted_name w)
  repeated a b v w test other s above also first second = by_numbers (is_of_number v) (is_of_number w) refl refl first second
    where
      by_numbers : (c d : Bool) → is_of_number v ≡ c → is_of_number w ≡ d →
          cond c (has_number tasks a (wanted_name v) s) (has_variable tasks place a (wanted_name v) material (wanted_level v level) s && test (patch_of s)) ≡ true →
          cond d (has_number tasks b (wanted_name w) s) (has_variable tasks place b (wanted_name w) material (wanted_level w level) s && other (patch_of s)) ≡ true →
          (a ≡ b) × HaveOneRelation v w × (wanted_name v ≡ wanted_name w)
      by_numbers true true of_v of_w one two =
          let same = same_number tasks place material a b (wanted_name v) (wanted_name w) s one two in
          (same.0, one_of_numbers v w of_v of_w, same.1)
      by_numbers true false of_v of_w one two =
          absurd (not_both tasks place material b a (wanted_name w) (wanted_name v) (wanted_level w level) s
          (both (has_variable tasks place b (wanted_name w) material (wanted_level w level) s) (other (patch_of s)) two).0 one)
      by_numbers false true of_v of_w one two =
          absurd (not_both tasks place material a b (wanted_name v) (wanted_name w) (wanted_level v level) s
          (both (has_variable tasks place a (wanted_name v) material (wanted_level v level) s) (test (patch_of s)) one).0 two)
      by_numbers false false of_v of_w one two =
          let same = same_variable tasks place material a b (wanted_name v) (wanted_name w) (wanted_level v level) (wanted_level w level) s
          (both (has_variable tasks place a (wanted_name v) material (wanted_level v level) s) (test (patch_of s)) one).0
          (both (has_variable tasks place b (wanted_name w) material (wanted_level w level) s) (other (patch_of s)) two).0 in
          (same.store, one_relation v w level of_v of_w above also same.level, same.name)
