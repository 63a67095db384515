-- What a detailed task writes, line by line, fits the slots that its graph names.
use Rattle.std.proofs.Common.{◌≡◌, ◌∙◌, ◌<◌, ◌≤◌, ◌+◌, inl, inr, ℕ, zero, suc, ℤ, List, [], ◌∷◌, ◌++◌, true, Option, Some, length, map, take, ap, sym, refl, arith, subst, append-nil, length-append}
use Rattle.std.specs.Prelude.{slice_get}
use Rattle.std.specs.List.{flat_map}
use Rattle.std.specs.Option.{option_map_or}
use Rattle.std.proofs.Math.Nat.{eq-or-lt_of_le}
use Rattle.std.proofs.lemmas.Grind.{flat_map-append}
use Rattle.std.proofs.lemmas.List.{take_all}
use Rattle.std.proofs.lemmas.Option.{same_Some, slice_get_within}
use Rattle.uts_geom.specs.Spans.{counted}
use Rattle.uts_geom.specs.Counting.{get_left, get_right}
use Rattle.problem_types.specs.Lists.{fold_of, is_reduces, task_list}
use Rattle.problem_types.specs.declared.problem.Problem.{Problem}
use Rattle.problem_types.specs.declared.problem.Task.{Task}
use Rattle.problem_types.specs.declared.problem.Write.{Write}
use Rattle.task_check.specs.Plan.{Detail, OnPatch, Combining, Slot, Number, details_of, slot_written, written_by}
use Rattle.graph_types.specs.Content.{FitsSlot}
use Rattle.graph_types.specs.Graph.{reads_of, writes_of}
use Rattle.graph_compiler.specs.Shown.{shown_task}
use Rattle.graph_compiler.specs.Slots.{WritesStandInOrder}
use Rattle.graph_compiler.specs.declared.plan.Detail.{Detail as Shown}
use Rattle.graph_compiler.specs.declared.plan.Plan.{Plan}
use Rattle.field_box.specs.declared.value.Value.{Value}
use Rattle.field_box.specs.declared.value.Value.TheVariants as value
use Rattle.reductions.specs.Folding.{all_combined}
use Rattle.uts_model.specs.WholeField.{reduction_at}
use Rattle.slot_contents.specs.Contents.{content_of, contents_of, name_at, number_held}
use Rattle.slot_contents.specs.Laws.{IsTaskOf, PartsMakeReductions, RunsAt}
use Rattle.slot_contents.specs.Values.{Fits, content_of_value}
use Rattle.unified_scheduler.specs.Fitting.{AreFitting}
use Rattle.run_task.specs.Gathered.{AreWindows, HasGathered, IsCombiningWork, IsPatchWork, site_of, slots_read}
use Rattle.run_task.specs.Jobs.{ShowsList}
use Rattle.run_task.specs.Seen.{SeesAll}
use Rattle.run_task.specs.Written.{AreWritten}
use Rattle.run_task.specs.declared.patch_kernels.PatchKernels.{PatchKernels}
use Rattle.run_task.specs.declared.work.CombiningWork.{CombiningWork}
use Rattle.run_task.specs.declared.work.PatchWork.{PatchWork}
use Rattle.run_task.specs.declared.work.Site.{Site}
use Rattle.run_task.specs.declared.work.Work.TheVariants as work
use Rattle.run_task.proofs.Lines.{name_is}
use Rattle.run_task.proofs.Lists.{there_at}
use Rattle.run_task.proofs.Planned.{reads_counted, write_stands, writes_counted}

-- ---- one item for each item of a list, by its place

module _ {X A : Type 0} (f : X → ℕ → A) (xs : List X) where
  abbrev at_place : ℕ → List A
  at_place k = option_map_or (λ x. f x k ∷ []) (slice_get xs k) []

  record AreByPlace (n : ℕ) : Type 0 where
    many : length (flat_map at_place (counted 0 n)) ≡ n
    each : (k : ℕ) (x : X) → k < n → slice_get xs k ≡ Some x → slice_get (flat_map at_place (counted 0 n)) k ≡ Some (f x k)

  next_place : (n : ℕ) (x : X) → slice_get xs n ≡ Some x → flat_map at_place (counted 0 (suc n)) ≡ flat_map at_place (counted 0 n) ++ f x n ∷ []
  next_place n x at =
      ap (λ (m : ℕ). flat_map at_place (counted 0 n ++ m ∷ [])) (let e : 0 + n ≡ n = omega arith in e)
      ∙ flat_map-append at_place (counted 0 n) (n ∷ [])
      ∙ ap (λ (back : List A). flat_map at_place (counted 0 n) ++ back)
      (append-nil (at_place n) ∙ ap (λ (o : Option X). option_map_or (λ y. f y n ∷ []) o []) at)

  by_place : (n : ℕ) → n ≤ length xs → AreByPlace n
  by_place zero within = record { many = refl; each = λ k x below at. absurd (omega (arith, below)) }
  by_place (suc n) within =
      let before = by_place n (omega (arith, within)) in
      let here = there_at xs n (omega (arith, within)) in
      let next = next_place n here.0 here.1 in
      let front = flat_map at_place (counted 0 n) in
      record {
        many = ap length next ∙ length-append front (f here.0 n ∷ []) ∙ omega (arith, before.many);
        each = λ k x below at. ap (λ (ys : List A). slice_get ys k) next ∙ elim (eq-or-lt_of_le (let le : k ≤ n = omega (arith, below) in le)) [
          | inl same ↦ (let one : here.0 ≡ x = same_Some here.0 x (sym here.1 ∙ ap (slice_get xs) (sym same) ∙ at) in
              get_right front (f here.0 n ∷ []) k 0 (omega (arith, same, before.many)) ∙ ap (λ (y : X). Some (f y n)) one ∙ ap (λ (m : ℕ). Some (f x m)) (sym same))
          | inr less ↦ (get_left front (f here.0 n ∷ []) k (omega (arith, less, before.many)) ∙ before.each k x less at)
        ];
      }

-- the slots that a detailed task on a patch writes, line by line
module _ (tasks : List Task) (task level material patch : ℕ) (t : Task) (at : slice_get tasks task ≡ Some t) where
  abbrev slot_of : Write → ℕ → Slot
  slot_of w line = slot_written w.kind task line level material patch

  written_is : written_by tasks (OnPatch task level material patch) ≡ flat_map (at_place slot_of t.writes) (counted 0 (length t.writes))
  written_is =
      ap (λ (o : Option Task). flat_map (λ line.
      option_map_or (λ u. option_map_or (λ w. slot_written w.kind task line level material patch ∷ []) (slice_get u.writes line) []) o [])
      (counted 0 (option_map_or (λ u. length u.writes) o 0))) at

  written_many : length (written_by tasks (OnPatch task level material patch)) ≡ length t.writes
  written_many = ap length written_is ∙ (by_place slot_of t.writes (length t.writes) (omega arith)).many

  written_each : (line : ℕ) (w : Write) → slice_get t.writes line ≡ Some w → slice_get (written_by tasks (OnPatch task level material patch)) line ≡ Some (slot_of w line)
  written_each line w there =
      ap (λ (slots : List Slot). slice_get slots line) written_is
      ∙ (by_place slot_of t.writes (length t.writes) (omega arith)).each line w (slice_get_within t.writes line w there) there

-- ---- on a patch

-- a detailed task on a patch that gathered so many of its slots
pub record HasGatheredOnPatch (p : Problem) (step n gathered : ℕ) (w : PatchWork) : Type 0 where
  pub task : ℕ
  pub level : ℕ
  pub material : ℕ
  pub patch : ℕ
  pub stands : slice_get (details_of p (task_list p step)) n ≡ Some (OnPatch task level material patch)
  pub t : Task
  pub is : IsTaskOf p step task t
  pub runs : RunsAt p t level material patch
  pub made : IsPatchWork p t (site_of step task level material patch) (take gathered (slots_read p step (OnPatch task level material patch))) w

pub on_patch : (p : Problem) (step n gathered : ℕ) (w : PatchWork) → HasGathered p step n gathered (work.Patch w) → HasGatheredOnPatch p step n gathered w
on_patch p step n gathered w (OnPatch task level material patch, stands, (t, is, runs, made)) =
    record { task = task; level = level; material = material; patch = patch; stands = stands; t = t; is = is; runs = runs; made = made }
on_patch p step n gathered w (Combining task line, stands, none) = absurd none

module _ (p : Problem) (step : ℕ) (plan : Plan) (shows : ShowsList p (task_list p step) plan) (n : ℕ) where
  -- all slots that it reads
  all_read : (d : Detail) → slice_get (details_of p (task_list p step)) n ≡ Some d → take (length (reads_of plan.graph n)) (slots_read p step d) ≡ slots_read p step d
  all_read d at = take_all (length (reads_of plan.graph n)) (slots_read p step d) (let many = reads_counted p step plan shows n d at in omega (arith, many))

  pub sees_all : (w : PatchWork) (has : HasGatheredOnPatch p step n (length (reads_of plan.graph n)) w) → SeesAll p has.t (site_of step has.task has.level has.material has.patch) w.windows
  sees_all w has = record {
    task = has.is;
    runs = has.runs;
    windows =
        subst (λ (seen : List Slot). AreWindows p has.t (site_of step has.task has.level has.material has.patch) seen w.windows)
        (all_read (OnPatch has.task has.level has.material has.patch) has.stands) has.made.windows;
  }

  -- what its lines write fits
  pub lines_fit : WritesStandInOrder → (task level material patch : ℕ) → slice_get (details_of p (task_list p step)) n ≡ Some (OnPatch task level material patch) → (k : PatchKernels)
      → k.checked.now ≡ p → k.site ≡ site_of step task level material patch → IsTaskOf p step task k.task.now → (values : List Value) → AreWritten k values
      → AreFitting Fits (contents_of p step) (writes_of plan.graph n) values
  lines_fit in_order task level material patch stands k problem site is values are = record {
    many = are.many ∙ sym (counted_writes ∙ written_many (task_list p step) task level material patch k.task.now is.stands);
    each = λ line slot value at there.
        let below = slice_get_within values line value there in
        let w = there_at k.task.now.writes line (omega (arith, below, are.many)) in
        let stood = write_stands p step plan shows n (OnPatch task level material patch) stands in_order is.form is.accepted line slot (slot_written w.0.kind task line level material patch) at
        (written_each (task_list p step) task level material patch k.task.now is.stands line w.0 w.1) in
        stood.content
        ∙ subst (λ (q : Problem). Fits (content_of q step (slot_written w.0.kind task line level material patch)) value) problem
        (subst (λ (s : Site). Fits (content_of k.checked.now s.step (slot_written w.0.kind s.task line s.level s.material s.patch)) value) site (are.each line value there w.0 w.1));
  }
    where
      counted_writes : length (writes_of plan.graph n) ≡ length (written_by (task_list p step) (OnPatch task level material patch))
      counted_writes = writes_counted p step plan shows n (OnPatch task level material patch) stands in_order is.form is.accepted

-- the place that is found of it
pub site_found : (p : Problem) (step n : ℕ) {shown : Shown} {site : Site} {task level material patch : ℕ} → slice_get (details_of p (task_list p step)) n ≡ Some (OnPatch task level material patch)
    → (d : Detail) × (slice_get (details_of p (task_list p step)) n ≡ Some d) × (shown ≡ shown_task d)
    → site ≡ (record { step = step; task = shown.task; level = shown.level; material = shown.material; patch = shown.patch }) → site ≡ site_of step task level material patch
site_found p step n {shown} {site} {task} {level} {material} {patch} stands found is =
    let same : found.0 ≡ OnPatch task level material patch = same_Some found.0 (OnPatch task level material patch) (sym found.1 ∙ stands) in
    let here : shown ≡ shown_task (OnPatch task level material patch) = found.2 ∙ ap shown_task same in
    is ∙ ap (λ (o : Shown). site_of step o.task o.level o.material o.patch) here

-- ---- a detailed task that combines

pub record HasGatheredParts (p : Problem) (step n gathered : ℕ) (w : CombiningWork) : Type 0 where
  pub task : ℕ
  pub line : ℕ
  pub stands : slice_get (details_of p (task_list p step)) n ≡ Some (Combining task line)
  pub t : Task
  pub write : Write
  pub is : IsTaskOf p step task t
  pub at_line : slice_get t.writes line ≡ Some write
  pub reduces : is_reduces write.kind ≡ true
  pub made : IsCombiningWork p step write (take gathered (slots_read p step (Combining task line))) w

pub combining : (p : Problem) (step n gathered : ℕ) (w : CombiningWork) → HasGathered p step n gathered (work.Combining w) → HasGatheredParts p step n gathered w
combining p step n gathered w (OnPatch task level material patch, stands, none) = absurd none
combining p step n gathered w (Combining task line, stands, (t, write, is, at_line, reduces, made)) = record {
  task = task;
  line = line;
  stands = stands;
  t = t;
  write = write;
  is = is;
  at_line = at_line;
  reduces = reduces;
  made = made;
}

-- the combined number fits
pub number_fits_slot : (p : Problem) (step : ℕ) (plan : Plan) (shows : ShowsList p (task_list p step) plan) (n : ℕ) → WritesStandInOrder → PartsMakeReductions → (w : CombiningWork)
    → HasGatheredParts p step n (length (reads_of plan.graph n)) w → AreFitting Fits (contents_of p step) (writes_of plan.graph n) (value.Number w.number ∷ [])
number_fits_slot p step plan shows n in_order parts w has = record {
  many = sym (writes_counted p step plan shows n (Combining has.task has.line) has.stands in_order has.is.form has.is.accepted);
  each = each;
}
  where
    number_is : reduction_at p step (has.task + 1) (name_at (task_list p step) has.task has.line) ≡ w.number
    number_is =
        ap (reduction_at p step (has.task + 1)) (name_is p has.t (site_of step has.task 0 0 0) has.line has.write has.is has.at_line)
        ∙ sym (parts p step has.task has.line has.t has.write has.is has.at_line has.reduces)
        ∙ ap (λ (seen : List Slot). all_combined (fold_of p has.write.name) (map (number_held p step) seen)) (sym (all_read p step plan shows n (Combining has.task has.line) has.stands))
        ∙ sym has.made.number

    each : (k slot : ℕ) (v : Value) → slice_get (writes_of plan.graph n) k ≡ Some slot → slice_get (value.Number w.number ∷ []) k ≡ Some v → FitsSlot Fits (contents_of p step) slot v
    each zero slot v at there =
        let stood = write_stands p step plan shows n (Combining has.task has.line) has.stands in_order has.is.form has.is.accepted 0 slot (Number has.task has.line) at refl in
        let same : value.Number w.number ≡ v = same_Some (value.Number w.number) v there in
        stood.content ∙ ap (λ (m : ℤ). m ∷ []) number_is ∙ ap content_of_value same
    each (suc k) slot v at there = absurd cc
