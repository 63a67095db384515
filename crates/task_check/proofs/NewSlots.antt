-- The slots that earlier tasks write: one for each patch of a variable, and one of a reduction.
use Rattle.std.proofs.Common.{◌≡◌, ◌∙◌, ◌<◌, ◌+◌, ◌⊎◌, inl, inr, ℕ, List, Bool, true, false, cond, Option, Some, None, length, take, drop, ap, sym, refl, arith, subst, lt-ltb, ltb-true}
use Rattle.std.specs.Prelude.{slice_get, ◌==◌, ◌&&◌, not, nat_lt}
use Rattle.std.specs.List.{count_by, sum_by, flat_map, list_any, find}
use Rattle.std.specs.Option.{option_map_or, is_some}
use Rattle.std.specs.List.Sorted.{IsStrictlyIncreasing}
use Rattle.std.proofs.lemmas.Bool.{cases_order, eqb-true}
use Rattle.kernel_ast.specs.declared.expression.Store.TheVariants as store
use Rattle.uts_geom.specs.Spans.{counted}
use Rattle.uts_geom.specs.Lists.{from_take, get-take, at_place, found_at, place_of_found}
use Rattle.task_check.specs.LastOnes.{IsLast, last_of}
use Rattle.problem_types.specs.Lists.{runs_on, field_write, reduction_write, is_of_field, is_reduces}
use Rattle.problem_types.specs.declared.problem.Problem.{Problem}
use Rattle.problem_types.specs.declared.problem.Task.{Task}
use Rattle.problem_types.specs.declared.problem.Write.{Write}
use Rattle.problem_types.specs.declared.problem.WriteKind.{WriteKind}
use Rattle.problem_types.specs.declared.problem.WriteKind.TheVariants as write
use Rattle.task_rules.specs.Lines.{reduces}
use Rattle.task_check.specs.Plan.{Slot, patches_of, patch_of, line_is, details_of, slot_written, written_by, has_variable, has_number, writes_variable, is_last_writer, is_line_of}
use Rattle.task_check.specs.PlanSums.{by_place}
use Rattle.task_check.proofs.Sums.{sum-same, sum-nothing, sum-one}
use Rattle.task_check.proofs.AtPlaces.{one_by_order, count-in_ascent, none_later}
use Rattle.task_check.proofs.Once.{both, of_both}
use Rattle.task_check.proofs.PlanSums.{by_place-same, by_place-one, by_place-nothing, count-one_place, sum-all_written, written_on_patches, written_combined}
use Rattle.task_check.proofs.OldSlots.{nothing_written_on_patches, nothing_combined, gated, middle_out}

not_of_true : (b : Bool) → not b ≡ true → b ≡ false
not_of_true true is = absurd cc
not_of_true false is = refl

and_true : (a : Bool) (n : ℕ) → cond (a && true) n 0 ≡ cond a n 0
and_true true n = refl
and_true false n = refl

and_false : (a : Bool) (n : ℕ) → cond (a && false) n 0 ≡ 0
and_false true n = refl
and_false false n = refl

pub of_option : {A : Type 0} (f : A → Bool) (o : Option A) → option_map_or f o false ≡ true → (x : A) × (o ≡ Some x) × (f x ≡ true)
of_option f None holds = absurd cc
of_option f (Some x) holds = (x, refl, holds)

-- The last earlier writer

module _ (tasks : List Task) (place name material level : ℕ) where
  abbrev writes : Task → Bool
  writes t = writes_variable name material level t

  -- what the test says of a place
  pub record LastWriter (k : ℕ) (t : Task) : Type 0 where
    pub before : k < place
    pub stands : slice_get tasks k ≡ Some t
    pub writes_it : writes_variable name material level t ≡ true
    pub none_after : list_any (writes_variable name material level) (drop (k + 1) (take place tasks)) ≡ false

  pub last_writer : (k : ℕ) → is_last_writer tasks place name material level k ≡ true → (t : Task) × LastWriter k t
  last_writer k is =
      let first = both (nat_lt k place) (option_map_or writes (slice_get tasks k) false && not (list_any writes (drop (k + 1) (take place tasks)))) is in
      let second = both (option_map_or writes (slice_get tasks k) false) (not (list_any writes (drop (k + 1) (take place tasks)))) first.1 in
      let there = of_option writes (slice_get tasks k) second.0 in
      (there.0, record { before = ltb-true k place first.0; stands = there.1; writes_it = there.2; none_after = not_of_true (list_any writes (drop (k + 1) (take place tasks))) second.1 })

  get_before : (k : ℕ) (t : Task) → k < place → slice_get tasks k ≡ Some t → slice_get (take place tasks) k ≡ Some t
  get_before k t before at = get-take tasks place k before ∙ at

  -- there is one such place where some earlier task writes the variable
  pub last_writer_once : list_any (writes_variable name material level) (take place tasks) ≡ true → count_by (is_last_writer tasks place name material level) (counted 0 (length tasks)) ≡ 1
  last_writer_once some =
      let found = last_of writes (take place tasks) some in
      let here = from_take tasks place found.0 found.1 found.2.stands in
      count-one_place tasks (is_last_writer tasks place name material level) found.0 found.1 here.1
      (of_both (nat_lt found.0 place) _ (lt-ltb found.0 place here.0)
      (of_both (option_map_or writes (slice_get tasks found.0) false) _ (ap (λ (o : Option Task). option_map_or writes o false) here.1 ∙ found.2.passes)
      (ap not found.2.none_after)))
      (λ j is. let other = last_writer j is in by_order found.0 found.1 found.2 here.1 here.0 j other.0 other.1 (cases_order j found.0))
    where
      by_order : (k : ℕ) (t : Task) → IsLast writes (take place tasks) k t → slice_get tasks k ≡ Some t → k < place → (j : ℕ) (u : Task) → LastWriter j u →
          (j ≡ k) ⊎ ((j < k) ⊎ (k < j)) → j ≡ k
      by_order k t last at before j u other (inl same) = same
      by_order k t last at before j u other (inr (inl less)) = absurd (none_later writes (take place tasks) j k t other.none_after less (get_before k t before at) last.passes)
      by_order k t last at before j u other (inr (inr more)) = absurd (none_later writes (take place tasks) k j u last.none_after more (get_before j u other.before other.stands) other.writes_it)

-- Lines of one task

-- two lines of the task do not both pass
abbrev pub NoTwoLines : (Write → Bool) → Task → Type 0
NoTwoLines test t = (i j : ℕ) (v w : Write) → i < j → slice_get t.writes i ≡ Some v → slice_get t.writes j ≡ Some w → test v ≡ true → test w ≡ true → ⊥

pub one_line : (test : Write → Bool) (t : Task) → NoTwoLines test t → is_some (find test t.writes) ≡ true → count_by (line_is t.writes test) (counted 0 (length t.writes)) ≡ 1
one_line test t never some =
    let found = place_of_found test t.writes some in
    count-one_place t.writes (line_is t.writes test) found.0 found.1 found.2 (ap (λ (o : Option Write). option_map_or test o false) found.2 ∙ found.3)
    (λ j is. let other = of_option test (slice_get t.writes j) is in
    one_by_order (λ k. (w : Write) × (slice_get t.writes k ≡ Some w) × (test w ≡ true))
    (λ a b before at_a at_b. never a b at_a.0 at_b.0 before at_a.1 at_b.1 at_a.2 at_b.2) j found.0 other (found.1, found.2, found.3))

line_at : (test : Write → Bool) (writes : List Write) (line : ℕ) (w : Write) → slice_get writes line ≡ Some w → line_is writes test line ≡ test w
line_at test writes line w at = ap (λ (o : Option Write). option_map_or test o false) at

pub line_of_at : (tasks : List Task) (test : Write → Bool) (name place line : ℕ) (t : Task) (w : Write) → slice_get tasks place ≡ Some t → slice_get t.writes line ≡ Some w →
    is_line_of tasks test name place line ≡ ((w.name == name) && test w)
line_of_at tasks test name place line t w at at_line =
    ap (λ (o : Option Task). option_map_or (λ (u : Task). line_is u.writes (λ (x : Write). (x.name == name) && test x) line) o false) at
    ∙ line_at (λ (x : Write). (x.name == name) && test x) t.writes line w at_line

-- a sum over the lines of a task behind a gate of three tests, the last of which has the task write the one line
pub gated_line : (a b c d : Bool) (test : Write → Bool) (t : Task) → (c ≡ true → count_by (line_is t.writes test) (counted 0 (length t.writes)) ≡ 1) →
    by_place t.writes (λ line w. cond ((a && (b && (c && test w))) && d) 1 0) ≡ cond ((a && (b && c)) && d) 1 0
gated_line true true true true test t one =
    by_place-one t.writes (line_is t.writes test) (λ line w. cond (test w && true) 1 0) 1 (one refl)
    (λ line w at. and_true (test w) 1 ∙ ap (λ (x : Bool). cond x 1 0) (sym (line_at test t.writes line w at)))
gated_line true true true false test t one = by_place-nothing t.writes (λ line w. cond (test w && false) 1 0) (λ line w at. and_false (test w) 1)
gated_line true true false d test t one = by_place-nothing t.writes (λ line w. 0) (λ line w at. refl)
gated_line true false c d test t one = by_place-nothing t.writes (λ line w. 0) (λ line w at. refl)
gated_line false b c d test t one = by_place-nothing t.writes (λ line w. 0) (λ line w at. refl)

-- The slots of a variable

not_of_reduces : (a b c n d : Bool) → ((a && (b && (c && (n && false)))) && d) ≡ false
not_of_reduces true true true true d = refl
not_of_reduces true true true false d = refl
not_of_reduces true true false n d = refl
not_of_reduces true false c n d = refl
not_of_reduces false b c n d = refl

module _ (p : Problem) (tasks : List Task) (place name material level : ℕ) (test : ℕ → Bool) where
  abbrev stands : Slot → Bool
  stands s = has_variable tasks place store.New name material level s && test (patch_of s)

  abbrev last : ℕ → Bool
  last k = is_last_writer tasks place name material level k

  abbrev writes_it : Write → Bool
  writes_it w = (w.name == name) && is_of_field w.kind

  slot_stands : (k line l m patch : ℕ) (t : Task) (w : Write) → slice_get tasks k ≡ Some t → slice_get t.writes line ≡ Some w →
      stands (slot_written w.kind k line l m patch) ≡ (((l == level) && ((m == material) && (last k && writes_it w))) && test patch)
  slot_stands k line l m patch t w at at_line = by_kind w.kind refl (line_of_at tasks (λ (x : Write). is_of_field x.kind) name k line t w at at_line)
    where
      by_kind : (kind : WriteKind) → w.kind ≡ kind → is_line_of tasks (λ (x : Write). is_of_field x.kind) name k line ≡ ((w.name == name) && is_of_field w.kind) →
          stands (slot_written kind k line l m patch) ≡ (((l == level) && ((m == material) && (last k && ((w.name == name) && is_of_field w.kind)))) && test patch)
      by_kind write.Computes is here = ap (λ (b : Bool). ((l == level) && ((m == material) && (last k && b))) && test patch) here
      by_kind write.Modifies is here = ap (λ (b : Bool). ((l == level) && ((m == material) && (last k && b))) && test patch) here
      by_kind (write.Reduces c) is here =
          sym (ap (λ (b : Bool). ((l == level) && ((m == material) && (last k && ((w.name == name) && b)))) && test patch) (ap is_of_field is)
          ∙ not_of_reduces (l == level) (m == material) (last k) (w.name == name) (test patch))

  -- a task of the list on a level and a material: what it writes of the variable, if it is the last writer
  on_level_patches : (k l m : ℕ) (t : Task) → slice_get tasks k ≡ Some t → NoTwoLines writes_it t →
      sum_by (λ patch. by_place t.writes (λ line w. cond (stands (slot_written w.kind k line l m patch)) 1 0)) (patches_of p l)
      ≡ cond ((l == level) && ((m == material) && last k)) (count_by test (patches_of p level)) 0
  on_level_patches k l m t at never =
      sum-same (λ patch. by_place t.writes (λ line w. cond (stands (slot_written w.kind k line l m patch)) 1 0))
      (λ patch. cond (((l == level) && ((m == material) && last k)) && test patch) 1 0) (patches_of p l)
      (λ i patch on.
      by_place-same t.writes (λ line w. cond (stands (slot_written w.kind k line l m patch)) 1 0)
      (λ line w. cond (((l == level) && ((m == material) && (last k && writes_it w))) && test patch) 1 0)
      (λ line w at_line. ap (λ (b : Bool). cond b 1 0) (slot_stands k line l m patch t w at at_line))
      ∙ gated_line (l == level) (m == material) (last k) (test patch) writes_it t (λ is. one_line writes_it t never (found_in k t at is)))
      ∙ gated (l == level) (m == material) (last k) test (patches_of p l) (patches_of p level) (λ a b c. ap (patches_of p) (eqb-true l level a))
    where
      found_in : (k : ℕ) (t : Task) → slice_get tasks k ≡ Some t → last k ≡ true → is_some (find writes_it t.writes) ≡ true
      found_in k t at is =
          let writer = last_writer tasks place name material level k is in
          let same : writer.0 ≡ t = let stands = writer.1.stands in cc in
          let writes = subst (λ (u : Task). writes_variable name material level u ≡ true) same writer.1.writes_it in
          (both (runs_on t material level) (is_some (field_write t name)) writes).1

  -- what one task writes of it
  by_writer : (k : ℕ) (t : Task) → slice_get tasks k ≡ Some t → NoTwoLines writes_it t → IsStrictlyIncreasing t.levels → IsStrictlyIncreasing t.materials →
      written_on_patches (λ s. cond (stands s) 1 0) p k t ≡ cond (last k) (count_by test (patches_of p level)) 0
  by_writer k t at never levels materials = by_last (last k) refl
    where
      on : (l m : ℕ) → sum_by (λ patch. by_place t.writes (λ line w. cond (stands (slot_written w.kind k line l m patch)) 1 0)) (patches_of p l)
          ≡ cond ((l == level) && ((m == material) && last k)) (count_by test (patches_of p level)) 0
      on l m = on_level_patches k l m t at never

      not_last : (a b : Bool) (n : ℕ) → cond (a && (b && false)) n 0 ≡ 0
      not_last true true n = refl
      not_last true false n = refl
      not_last false b n = refl

      by_last : (b : Bool) → last k ≡ b → written_on_patches (λ s. cond (stands s) 1 0) p k t ≡ cond b (count_by test (patches_of p level)) 0
      by_last false is = sum-nothing _ t.levels (λ i l here. sum-nothing _ t.materials (λ j m there.
          on l m ∙ ap (λ (b : Bool). cond ((l == level) && ((m == material) && b)) (count_by test (patches_of p level)) 0) is
          ∙ not_last (l == level) (m == material) (count_by test (patches_of p level))))
      by_last true is =
          let writer = last_writer tasks place name material level k is in
          let same : writer.0 ≡ t = let stands = writer.1.stands in cc in
          let writes = subst (λ (u : Task). writes_variable name material level u ≡ true) same writer.1.writes_it in
          let runs = (both (runs_on t material level) (is_some (field_write t name)) writes).0 in
          let two = both (list_any (λ m. m == material) t.materials) (list_any (λ l. l == level) t.levels) runs in
          let of_material = at_place (λ m. m == material) t.materials two.0 in
          let of_level = at_place (λ l. l == level) t.levels two.1 in
          sum-one (λ l. l == level)
          (λ l. sum_by (λ m. sum_by (λ patch. by_place t.writes (λ line w. cond (stands (slot_written w.kind k line l m patch)) 1 0)) (patches_of p l)) t.materials)
          (count_by test (patches_of p level)) t.levels
          (count-in_ascent t.levels levels of_level.0 level (of_level.2 ∙ ap Some (eqb-true of_level.1 level of_level.3)))
          (λ i l here.
          sum-one (λ m. m == material) (λ m. sum_by (λ patch. by_place t.writes (λ line w. cond (stands (slot_written w.kind k line l m patch)) 1 0)) (patches_of p l))
          (cond ((l == level) && last k) (count_by test (patches_of p level)) 0) t.materials
          (count-in_ascent t.materials materials of_material.0 material (of_material.2 ∙ ap Some (eqb-true of_material.1 material of_material.3)))
          (λ j m there. on l m ∙ middle_out (l == level) (m == material) (last k) (count_by test (patches_of p level)))
          ∙ ap (λ (b : Bool). cond ((l == level) && b) (count_by test (patches_of p level)) 0) is
          ∙ and_true (l == level) (count_by test (patches_of p level)))

  pub new_variable_once : list_any (writes_variable name material level) (take place tasks) ≡ true →
      ((k : ℕ) (t : Task) → slice_get tasks k ≡ Some t → NoTwoLines writes_it t × IsStrictlyIncreasing t.levels × IsStrictlyIncreasing t.materials) →
      count_by stands (flat_map (written_by tasks) (details_of p tasks)) ≡ count_by test (patches_of p level)
  new_variable_once some each =
      sum-all_written (λ s. cond (stands s) 1 0) p tasks
      ∙ by_place-one tasks last (λ k t. written_on_patches (λ s. cond (stands s) 1 0) p k t + written_combined (λ s. cond (stands s) 1 0) k t)
      (count_by test (patches_of p level)) (last_writer_once tasks place name material level some)
      (λ k t at. omega (arith, nothing_combined (λ s. cond (stands s) 1 0) k t (λ line. refl), by_writer k t at (each k t at).0 (each k t at).1 (each k t at).2))

-- The number of a reduction

reducing_line : (a r : Bool) → cond {A = ℕ} r (cond (a && r) 1 0) 0 ≡ cond (a && r) 1 0
reducing_line true true = refl
reducing_line true false = refl
reducing_line false true = refl
reducing_line false false = refl

module _ (p : Problem) (tasks : List Task) (place name : ℕ) where
  abbrev reduces_it : Write → Bool
  reduces_it w = (w.name == name) && is_reduces w.kind

  abbrev reducer : ℕ → Bool
  reducer k = option_map_or (λ t. is_some (reduction_write t name)) (slice_get tasks k) false

  no_field : (kind : WriteKind) (k line level material patch : ℕ) → has_number tasks store.New name (slot_written kind k line level material patch) ≡ false
  no_field write.Computes k line level material patch = refl
  no_field write.Modifies k line level material patch = refl
  no_field (write.Reduces c) k line level material patch = refl

  by_reducer : (k : ℕ) (t : Task) → slice_get tasks k ≡ Some t → NoTwoLines reduces_it t →
      written_combined (λ s. cond (has_number tasks store.New name s) 1 0) k t ≡ cond (reducer k) 1 0
  by_reducer k t at never =
      by_place-same t.writes (λ line w. cond (is_reduces w.kind) (cond (is_line_of tasks (λ x. is_reduces x.kind) name k line) 1 0) 0) (λ line w. cond (reduces_it w) 1 0)
      (λ line w at_line.
      ap (λ (b : Bool). cond (is_reduces w.kind) (cond b 1 0) 0) (line_of_at tasks (λ (x : Write). is_reduces x.kind) name k line t w at at_line)
      ∙ reducing_line (w.name == name) (is_reduces w.kind))
      ∙ by_found (is_some (find reduces_it t.writes)) refl
      ∙ ap (λ (o : Option Task). cond (option_map_or (λ (u : Task). is_some (reduction_write u name)) o false) 1 0) (sym at)
    where
      by_found : (b : Bool) → is_some (find reduces_it t.writes) ≡ b → by_place t.writes (λ line w. cond (reduces_it w) 1 0) ≡ cond (is_some (find reduces_it t.writes)) 1 0
      by_found true is =
          by_place-one t.writes (line_is t.writes reduces_it) (λ line w. cond (reduces_it w) 1 0) 1 (one_line reduces_it t never is)
          (λ line w at_line. ap (λ (x : Bool). cond x 1 0) (sym (line_at reduces_it t.writes line w at_line)))
          ∙ ap (λ (x : Bool). cond x 1 0) (sym is)
      by_found false is =
          by_place-nothing t.writes (λ line w. cond (reduces_it w) 1 0)
          (λ line w at_line. ap (λ (x : Bool). cond x 1 0) (not_found (reduces_it w) (λ passes. found_at reduces_it t.writes line w at_line passes)))
          ∙ ap (λ (x : Bool). cond x 1 0) (sym is)
        where
          not_found : (x : Bool) → (x ≡ true → is_some (find reduces_it t.writes) ≡ true) → x ≡ false
          not_found true found = absurd (let yes = found refl in cc)
          not_found false found = refl

  pub new_number_once : reduces (take place tasks) name ≡ true →
      ((k : ℕ) (t : Task) → slice_get tasks k ≡ Some t → NoTwoLines reduces_it t) →
      ((j k : ℕ) (s t : Task) → j < k → slice_get tasks j ≡ Some s → slice_get tasks k ≡ Some t → is_some (reduction_write s name) ≡ true → is_some (reduction_write t name) ≡ true → ⊥) →
      count_by (has_number tasks store.New name) (flat_map (written_by tasks) (details_of p tasks)) ≡ 1
  new_number_once some each never =
      let found = at_place (λ (t : Task). is_some (reduction_write t name)) (take place tasks) some in
      let here = from_take tasks place found.0 found.1 found.2 in
      sum-all_written (λ s. cond (has_number tasks store.New name s) 1 0) p tasks
      ∙ by_place-one tasks reducer (λ k t. written_on_patches (λ s. cond (has_number tasks store.New name s) 1 0) p k t + written_combined (λ s. cond (has_number tasks store.New name s) 1 0) k t) 1
      (count-one_place tasks reducer found.0 found.1 here.1 (ap (λ (o : Option Task). option_map_or (λ (t : Task). is_some (reduction_write t name)) o false) here.1 ∙ found.3)
      (λ j is. let other = of_option (λ (t : Task). is_some (reduction_write t name)) (slice_get tasks j) is in
      one_by_order (λ k. (t : Task) × (slice_get tasks k ≡ Some t) × (is_some (reduction_write t name) ≡ true))
      (λ a b before at_a at_b. never a b at_a.0 at_b.0 before at_a.1 at_b.1 at_a.2 at_b.2) j found.0 other (found.1, here.1, found.3)))
      (λ k t at. omega (
        arith,
        by_reducer k t at (each k t at),
        nothing_written_on_patches (λ s. cond (has_number tasks store.New name s) 1 0) p k t
            (λ line w level material patch at_line. ap (λ (b : Bool). cond b 1 0) (no_field w.kind k line level material patch)),
      ))
