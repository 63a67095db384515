-- How many slots the detailed tasks of a list write, and how many numbers, by its tasks.
use Rattle.std.proofs.Common.{◌≡◌, ◌∙◌, ◌*◌, ℕ, List, Option, Some, length, ap, sym, refl, arith}
use Rattle.std.specs.Prelude.{slice_get}
use Rattle.std.specs.List.{flat_map, sum_by}
use Rattle.std.specs.Option.{option_map_or}
use Rattle.std.proofs.lemmas.List.Concat.{length-flat_map}
use Rattle.uts_geom.specs.Spans.{indexes_of}
use Rattle.uts_geom.specs.declared.centring.Centring.{Centring}
use Rattle.patch_regions.specs.Regions.{owned_span}
use Rattle.problem_types.specs.declared.problem.Level.{Level}
use Rattle.problem_types.specs.declared.problem.Problem.{Problem}
use Rattle.problem_types.specs.declared.problem.Task.{Task}
use Rattle.problem_types.specs.declared.problem.Write.{Write}
use Rattle.problem_types.specs.declared.problem.WriteKind.{WriteKind}
use Rattle.problem_types.specs.declared.problem.WriteKind.TheVariants as kind
use Rattle.task_check.specs.Supplies.{kernel_centring}
use Rattle.task_check.specs.Plan.{OnPatch, Slot, patches_of, on_patches, details_of, written_by, slot_written}
use Rattle.task_check.specs.Counts.{slot_size, line_centring, owned_count}
use Rattle.task_check.specs.Sizes.{part_count, slots_written, size_by_kind, line_size, line_total, written_total}
use Rattle.task_check.proofs.Sums.{sum-constant, sum-flat_map, sum-exchange}
use Rattle.task_check.proofs.PlanSums.{by_place-same, by_place-sum, sum-written}
use Rattle.task_check.proofs.Details.{length_is_sum, sum-alike, sum_by_patches, sum_alike_combining, sum_by_tasks, length-on_patches}

-- what a task writes on a patch, where the place of a line does not count
pub sum_by_lines : (s : Slot → ℕ) (g : Write → ℕ) (tasks : List Task) (place level material patch : ℕ) (t : Task) → slice_get tasks place ≡ Some t →
    ((line : ℕ) (w : Write) → slice_get t.writes line ≡ Some w → s (slot_written w.kind place line level material patch) ≡ g w) →
    sum_by s (written_by tasks (OnPatch place level material patch)) ≡ sum_by g t.writes
sum_by_lines s g tasks place level material patch t at each =
    sum-written s tasks place level material patch t at
    ∙ by_place-same t.writes (λ line w. s (slot_written w.kind place line level material patch)) (λ line w. g w) each
    ∙ by_place-sum g t.writes

-- Slots.
pub written_by_tasks : (p : Problem) (tasks : List Task) →
    length (flat_map (written_by tasks) (details_of p tasks)) ≡ sum_by (slots_written p) tasks
written_by_tasks p tasks =
    length-flat_map (written_by tasks) (details_of p tasks)
    ∙ sum_by_tasks (λ d. length (written_by tasks d)) (slots_written p) p tasks (λ place t at.
    let on : sum_by (λ d. length (written_by tasks d)) (on_patches p place t) ≡ part_count p t * length t.writes =
    sum_by_patches (λ d. length (written_by tasks d)) (λ level patch. length t.writes) p place t (λ level material patch.
    length_is_sum (written_by tasks (OnPatch place level material patch))
    ∙ sum_by_lines (λ s. 1) (λ w. 1) tasks place level material patch t at (λ line w there. refl)
    ∙ sym (length_is_sum t.writes))
    ∙ sym (sum_by_patches (λ d. length t.writes) (λ level patch. length t.writes) p place t (λ level material patch. refl))
    ∙ sum-constant (length t.writes) (on_patches p place t)
    ∙ ap (λ (n : ℕ). n * length t.writes) (length-on_patches p place t) in
    let combined = sum_alike_combining (λ d. length (written_by tasks d)) 1 place t (λ line. refl) in
    omega (arith, on, combined))

-- Numbers. A slot that a line writes holds what the line writes on the patch.
size_of_slot : (p : Problem) (tasks : List Task) (place line level material patch : ℕ) (t : Task) (w : Write) →
    slice_get tasks place ≡ Some t → slice_get t.writes line ≡ Some w →
    slot_size p tasks (slot_written w.kind place line level material patch) ≡ line_size p w level patch
size_of_slot p tasks place line level material patch t w at there = by_kind w.kind
  where
    centred : line_centring p tasks place line (λ c. owned_count p c level patch) ≡ owned_count p (kernel_centring p w) level patch
    centred =
        ap (λ (o : Option Task). option_map_or (λ q. option_map_or (λ v. owned_count p (kernel_centring p v) level patch) (slice_get q.writes line) 0) o 0) at
        ∙ ap (λ (o : Option Write). option_map_or (λ v. owned_count p (kernel_centring p v) level patch) o 0) there

    by_kind : (k : WriteKind) → slot_size p tasks (slot_written k place line level material patch) ≡ size_by_kind k (owned_count p (kernel_centring p w) level patch)
    by_kind kind.Computes = centred
    by_kind kind.Modifies = centred
    by_kind (kind.Reduces c) = refl

pub sizes_by_tasks : (p : Problem) (tasks : List Task) →
    sum_by (slot_size p tasks) (flat_map (written_by tasks) (details_of p tasks)) ≡ sum_by (written_total p) tasks
sizes_by_tasks p tasks =
    sum-flat_map (slot_size p tasks) (written_by tasks) (details_of p tasks)
    ∙ sum_by_tasks (λ d. sum_by (slot_size p tasks) (written_by tasks d)) (written_total p) p tasks (λ place t at.
    let on : sum_by (λ d. sum_by (slot_size p tasks) (written_by tasks d)) (on_patches p place t) ≡ length t.materials * sum_by (line_total p t.levels) t.writes =
    sum_by_patches (λ d. sum_by (slot_size p tasks) (written_by tasks d)) (λ level patch. sum_by (λ w. line_size p w level patch) t.writes) p place t (λ level material patch.
    sum_by_lines (slot_size p tasks) (λ w. line_size p w level patch) tasks place level material patch t at (λ line w there. size_of_slot p tasks place line level material patch t w at there))
    ∙ ap (λ (n : ℕ). length t.materials * n) (by_lines t) in
    let combined = sum_alike_combining (λ d. sum_by (slot_size p tasks) (written_by tasks d)) 1 place t (λ line. refl) in
    omega (arith, on, combined))
  where
    by_lines : (t : Task) → sum_by (λ level. sum_by (λ patch. sum_by (λ w. line_size p w level patch) t.writes) (patches_of p level)) t.levels ≡ sum_by (line_total p t.levels) t.writes
    by_lines t =
        sum-alike _ (λ level. sum_by (λ w. sum_by (line_size p w level) (patches_of p level)) t.writes)
        (λ level. sum-exchange (λ patch w. line_size p w level patch) (patches_of p level) t.writes) t.levels
        ∙ sum-exchange (λ level w. sum_by (line_size p w level) (patches_of p level)) t.levels t.writes

-- how many numbers a patch owns, where its level is one
pub owned_at : (p : Problem) (c : Centring) (level : ℕ) (l : Level) (patch : ℕ) → slice_get p.levels level ≡ Some l →
    length (indexes_of (owned_span c l patch)) ≡ owned_count p c level patch
owned_at p c level l patch at = sym (ap (λ (o : Option Level). option_map_or (λ k. length (indexes_of (owned_span c k patch))) o 0) at)

-- what a line that reduces writes on the patches of a level
pub shares_on : (p : Problem) (w : Write) (level : ℕ) (c : Centring) → w.kind ≡ kind.Reduces c →
    length (patches_of p level) ≡ sum_by (line_size p w level) (patches_of p level)
shares_on p w level c reduces =
    length_is_sum (patches_of p level)
    ∙ sum-alike (λ patch. 1) (line_size p w level) (λ patch. sym (ap (λ (k : WriteKind). size_by_kind k (owned_count p (kernel_centring p w) level patch)) reduces)) (patches_of p level)
