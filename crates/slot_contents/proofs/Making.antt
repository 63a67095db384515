-- What a task makes: its kernels on what patches own are its variables, and the parts of a line that reduces are its reduction.
use Rattle.std.proofs.Common.{◌≡◌, ◌∙◌, ◌≢◌, ℕ, ℤ, List, Option, None, Some, map, ap, sym, refl}
use Rattle.std.specs.Prelude.{◌↔◌, slice_get, AllPairs, Contains, IsTrue, pos}
use Rattle.std.specs.List.{flat_map}
use Rattle.std.specs.Option.{option_map_or}
use Rattle.std.proofs.lemmas.List.Sorted.{IsPermutation-map}
use Rattle.std.proofs.lemmas.Simd.{map-map}
use Rattle.uts_geom.specs.Spans.{indexes_of as indexes_of_span, is_inside}
use Rattle.uts_geom.specs.declared.centring.Centring.{Centring}
use Rattle.uts_geom.specs.declared.index.Index.{Index}
use Rattle.uts_geom.specs.declared.span.Span.{Span}
use Rattle.problem_types.specs.Lists.{centring_of, fold_of, is_of_field, is_reduces, task_list}
use Rattle.problem_types.specs.Regions.{indexes_of}
use Rattle.problem_types.specs.declared.problem.Fold.{Fold}
use Rattle.problem_types.specs.declared.problem.Problem.{Problem}
use Rattle.problem_types.specs.declared.problem.Task.{Task}
use Rattle.problem_types.specs.declared.problem.Write.{Write}
use Rattle.patch_regions.specs.Laws.{OwnedSpansTile}
use Rattle.reductions.specs.Folding.{all_combined}
use Rattle.reductions.specs.Laws.{OrderDoesNotMatter, PartsFoldApart}
use Rattle.task_check.specs.Bounds.{IsBounded}
use Rattle.task_check.specs.Laws.{AcceptedProblemsAreBounded}
use Rattle.task_check.specs.Plan.{Part, Slot, patches_of}
use Rattle.uts_model.specs.WholeField.{before_step, contributions, reduced_centring, state_at}
use Rattle.graph_compiler.specs.Slots.{SlotsStandOnce}
use Rattle.slot_contents.specs.Contents.{kernel_number, number_held, owned_on, share}
use Rattle.slot_contents.specs.Laws.{KernelsMakeFields, PartsMakeReductions}
use Rattle.slot_contents.proofs.Combined.{combined_alike, combined_parts}
use Rattle.slot_contents.proofs.Earlier.{runs_there}
use Rattle.slot_contents.proofs.Holding.{once_of}
use Rattle.slot_contents.proofs.Joined.{flat_map_same, map-flat_map, map_same}
use Rattle.task_check.specs.LinesAt.{IsLineAt}
use Rattle.slot_contents.proofs.Lines.{only_line}
use Rattle.slot_contents.proofs.NextTask.{field_next, reduction_next}
use Rattle.slot_contents.proofs.Owned.{owned_in_space, owned_together}
use Rattle.slot_contents.proofs.Parts.{parts_of, parts_stand}

pub kernels_make : AcceptedProblemsAreBounded → SlotsStandOnce → OwnedSpansTile → KernelsMakeFields
kernels_make bounded stand_once tile p step task line t w level material patch i here line_at of_field runs owned =
    let once = once_of p step task t stand_once here in
    let l : IsLineAt (task_list p step) (λ v. is_of_field v.kind) w.name task line = record { t = t; w = w; task_at = here.stands; line_at = line_at; named = refl; passes = of_field } in
    sym (field_next p step task t here.stands w.name w material level i
    (owned_in_space p level patch (centring_of p w.name) i (bounded p here.form here.accepted) tile runs.patch_there owned)
    (runs_there t level material runs.level_there runs.material_there)
    (only_line (task_list p step) (λ v. is_of_field v.kind) w.name task line l (λ a b a_is b_is. once.fields w.name task a b a_is b_is)))

-- ---- the parts of a line

module _ (p : Problem) (step task line : ℕ) (t : Task) (w : Write) (stands : slice_get (task_list p step) task ≡ Some t) (line_at : slice_get t.writes line ≡ Some w) where
  abbrev c : Centring
  c = reduced_centring w.kind

  abbrev kernel : (level material : ℕ) → Index → ℤ
  kernel level material i = kernel_number p step task w level material i

  abbrev shares : List ℤ
  shares = flat_map (λ level. flat_map (λ material. map (share p step task w level material) (patches_of p level)) t.materials) t.levels

  part_held : (level material patch : ℕ) → number_held p step (Part task line level material patch) ≡ share p step task w level material patch
  part_held level material patch =
      ap (λ (o : Option Task). option_map_or (λ v. share p step task v level material patch) (option_map_or (λ u. slice_get u.writes line) o None) (pos 0)) stands
      ∙ ap (λ (o : Option Write). option_map_or (λ v. share p step task v level material patch) o (pos 0)) line_at

  parts_held : map (number_held p step) (parts_of p task line t) ≡ shares
  parts_held =
      map-flat_map (number_held p step) (λ level. flat_map (λ material. map (Part task line level material) (patches_of p level)) t.materials) t.levels
      ∙ flat_map_same (λ level. map (number_held p step) (flat_map (λ material. map (Part task line level material) (patches_of p level)) t.materials))
      (λ level. flat_map (λ material. map (share p step task w level material) (patches_of p level)) t.materials) (λ level.
      map-flat_map (number_held p step) (λ material. map (Part task line level material) (patches_of p level)) t.materials
      ∙ flat_map_same (λ material. map (number_held p step) (map (Part task line level material) (patches_of p level)))
      (λ material. map (share p step task w level material) (patches_of p level)) (λ material.
      map-map (number_held p step) (Part task line level material) (patches_of p level)
      ∙ map_same (λ patch. number_held p step (Part task line level material patch)) (share p step task w level material) (part_held level material) (patches_of p level)) t.materials) t.levels

  module _ (apart : PartsFoldApart) (order : OrderDoesNotMatter) (tile : OwnedSpansTile) (limits : IsBounded p)
      (holds : (s : Span) (i : Index) → Contains (indexes_of_span s) i ↔ IsTrue (is_inside s i)) (once : (s : Span) → AllPairs ◌≢◌ (indexes_of_span s)) where
    abbrev f : Fold
    f = fold_of p w.name

    -- on a level, for a material
    level_combined : (level material : ℕ) → all_combined f (map (share p step task w level material) (patches_of p level)) ≡ all_combined f (map (kernel level material) (indexes_of p level c))
    level_combined level material =
        let owned = λ (patch : ℕ). indexes_of_span (owned_on p level patch c) in
        combined_parts apart f (λ patch. map (kernel level material) (owned patch)) (patches_of p level)
        ∙ (ap (all_combined f) (sym (map-flat_map (kernel level material) owned (patches_of p level)))
        ∙ order f (map (kernel level material) (flat_map owned (patches_of p level))) (map (kernel level material) (indexes_of p level c))
        (IsPermutation-map (kernel level material) (flat_map owned (patches_of p level)) (indexes_of p level c) (owned_together holds once tile c p level limits)))

    shares_combined : all_combined f shares ≡ all_combined f (contributions p step (before_step p step) (state_at p step task) t w)
    shares_combined =
        combined_alike apart f (λ level. flat_map (λ material. map (share p step task w level material) (patches_of p level)) t.materials)
        (λ level. flat_map (λ material. map (kernel level material) (indexes_of p level c)) t.materials) (λ level.
        combined_alike apart f (λ material. map (share p step task w level material) (patches_of p level))
        (λ material. map (kernel level material) (indexes_of p level c)) (level_combined level) t.materials) t.levels

pub parts_make : AcceptedProblemsAreBounded → SlotsStandOnce → OwnedSpansTile → PartsFoldApart → OrderDoesNotMatter
    → ((s : Span) (i : Index) → Contains (indexes_of_span s) i ↔ IsTrue (is_inside s i)) → ((s : Span) → AllPairs ◌≢◌ (indexes_of_span s)) → PartsMakeReductions
parts_make bounded stand_once tile apart order holds once_in_span p step task line t w here line_at reduces =
    let once = once_of p step task t stand_once here in
    let l : IsLineAt (task_list p step) (λ v. is_reduces v.kind) w.name task line = record { t = t; w = w; task_at = here.stands; line_at = line_at; named = refl; passes = reduces } in
    ap (λ (slots : List Slot). all_combined (fold_of p w.name) (map (number_held p step) slots)) (parts_stand p (task_list p step) task line t w here.stands line_at reduces)
    ∙ (ap (all_combined (fold_of p w.name)) (parts_held p step task line t w here.stands line_at)
    ∙ (shares_combined p step task line t w here.stands line_at apart order tile (bounded p here.form here.accepted) holds once_in_span
    ∙ sym (reduction_next p step task t here.stands w.name w
    (only_line (task_list p step) (λ v. is_reduces v.kind) w.name task line l (λ a b a_is b_is. (once.numbers w.name task a task b a_is b_is).1)))))
