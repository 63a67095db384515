-- What the kernel of a line gives is what the slot of the line has to hold.
use Rattle.std.proofs.Common.{◌≡◌, ◌∙◌, ◌+◌, ◌++◌, ◌∷◌, [], ℕ, ℤ, List, true, None, Some, map, get_or, ap, sym, refl}
use Rattle.std.specs.Prelude.{slice_get, Contains, IsTrue, pos, ◌↔◌}
use Rattle.std.specs.Option.{option_map_or}
use Rattle.std.proofs.lemmas.List.Elements.{Contains-get_or}
use Rattle.uts_geom.specs.Spans.{indexes_of, is_inside}
use Rattle.uts_geom.specs.declared.index.Index.{Index}
use Rattle.uts_geom.specs.declared.span.Span.{Span}
use Rattle.problem_types.specs.Lists.{centring_of, fold_of, is_of_field, is_reduces, task_list}
use Rattle.problem_types.specs.declared.problem.Problem.{Problem}
use Rattle.problem_types.specs.declared.problem.Task.{Task}
use Rattle.problem_types.specs.declared.problem.Write.{Write}
use Rattle.problem_types.specs.declared.problem.WriteKind.{WriteKind}
use Rattle.problem_types.specs.declared.problem.WriteKind.TheVariants as write
use Rattle.task_check.specs.Plan.{Slot, New, Part, slot_written}
use Rattle.field_box.specs.Fields.{NumberedSpan, number_at}
use Rattle.field_box.specs.declared.value.Value.TheVariants.{Grid, Number}
use Rattle.reductions.specs.Folding.{all_combined}
use Rattle.uts_model.specs.Dump.{corner_numbers}
use Rattle.uts_model.specs.WholeField.{field_at, reduced_centring}
use Rattle.slot_contents.specs.Contents.{content_of, field_content, kernel_number, line_at, name_at, owned_on, share}
use Rattle.slot_contents.specs.Laws.{IsTaskOf, KernelsMakeFields, RunsAt}
use Rattle.run_task.specs.declared.work.Site.{Site}
use Rattle.run_task.specs.Written.{IsOfLine}
use Rattle.run_task.proofs.Lists.{same_maps}

-- two lists made of the indexes of a span are the same where they agree on each of them
pub same_on : {A : Type 0} (holds : (s : Span) (i : Index) → Contains (indexes_of s) i ↔ IsTrue (is_inside s i)) (f g : Index → A) (s : Span)
    → ((i : Index) → IsTrue (is_inside s i) → f i ≡ g i) → map f (indexes_of s) ≡ map g (indexes_of s)
same_on holds f g s same = same_maps f g (indexes_of s) (λ k d below. same (get_or (indexes_of s) k d) ((holds s (get_or (indexes_of s) k d)).0 (Contains-get_or (indexes_of s) k d below)))

module _ (p : Problem) (t : Task) (site : Site) (line : ℕ) (w : Write) (of_task : IsTaskOf p site.step site.task t) (stands : slice_get t.writes line ≡ Some w) where
  abbrev tasks : List Task
  tasks = task_list p site.step

  line_is : line_at tasks site.task line ≡ Some w
  line_is = ap (λ o. option_map_or (λ (u : Task). slice_get u.writes line) o None) of_task.stands ∙ stands

  pub name_is : name_at tasks site.task line ≡ w.name
  name_is = ap (λ o. option_map_or (λ (v : Write). v.name) o 0) line_is

  abbrev slot : Slot
  slot = New site.task line site.level site.material site.patch

  -- the slot of a line that computes or modifies
  written_field : (k : WriteKind) → is_of_field k ≡ true → slot_written k site.task line site.level site.material site.patch ≡ slot
  written_field write.Computes is = refl
  written_field write.Modifies is = refl
  written_field (write.Reduces c) is = absurd cc

  written_part : (k : WriteKind) → is_reduces k ≡ true → slot_written k site.task line site.level site.material site.patch ≡ Part site.task line site.level site.material site.patch
  written_part write.Computes is = absurd cc
  written_part write.Modifies is = absurd cc
  written_part (write.Reduces c) is = refl

  abbrev here : Span
  here = owned_on p site.level site.patch (centring_of p w.name)

  -- a field with the numbers of the kernel on what the patch owns
  pub field_fits : (holds : (s : Span) (i : Index) → Contains (indexes_of s) i ↔ IsTrue (is_inside s i)) → KernelsMakeFields → RunsAt p t site.level site.material site.patch
      → is_of_field w.kind ≡ true → (f : NumberedSpan) → f.span ≡ here → f.numbers ≡ map (number_at f) (indexes_of f.span)
      → ((i : Index) → IsTrue (is_inside here i) → number_at f i ≡ kernel_number p site.step site.task w site.level site.material i)
      → IsOfLine p site line w (Grid f)
  field_fits holds make runs of_field f span numbers same =
      ap (content_of p site.step) (written_field w.kind of_field)
      ∙ ap (λ (n : ℕ). field_content (owned_on p site.level site.patch (centring_of p n)) (λ i. field_at p site.step (site.task + 1) n site.material site.level i)) name_is
      ∙ ap (λ (ns : List ℤ). corner_numbers here.lo ++ (corner_numbers here.hi ++ ns)) listed
      ∙ ap (λ (s : Span). corner_numbers s.lo ++ (corner_numbers s.hi ++ f.numbers)) (sym span)
    where
      listed : map (λ i. field_at p site.step (site.task + 1) w.name site.material site.level i) (indexes_of here) ≡ f.numbers
      listed =
          same_on holds (λ i. field_at p site.step (site.task + 1) w.name site.material site.level i) (number_at f) here
          (λ i inside. sym (same i inside ∙ make p site.step site.task line t w site.level site.material site.patch i of_task stands of_field runs inside))
          ∙ sym (numbers ∙ ap (λ (s : Span). map (number_at f) (indexes_of s)) span)

  -- the numbers of the kernel on what the patch owns, combined
  pub number_fits : (holds : (s : Span) (i : Index) → Contains (indexes_of s) i ↔ IsTrue (is_inside s i)) → is_reduces w.kind ≡ true → (number : Index → ℤ) → (n : ℤ)
      → n ≡ all_combined (fold_of p w.name) (map number (indexes_of (owned_on p site.level site.patch (reduced_centring w.kind))))
      → ((i : Index) → IsTrue (is_inside (owned_on p site.level site.patch (reduced_centring w.kind)) i) → number i ≡ kernel_number p site.step site.task w site.level site.material i)
      → IsOfLine p site line w (Number n)
  number_fits holds reduces number n is same =
      ap (content_of p site.step) (written_part w.kind reduces)
      ∙ ap (λ o. option_map_or (λ (v : Write). share p site.step site.task v site.level site.material site.patch) o (pos 0) ∷ []) line_is
      ∙ ap (λ (ns : List ℤ). all_combined (fold_of p w.name) ns ∷ []) (sym (same_on holds number (kernel_number p site.step site.task w site.level site.material) _ same))
      ∙ ap (λ (m : ℤ). m ∷ []) (sym is)
