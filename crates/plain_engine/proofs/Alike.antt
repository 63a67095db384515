-- The text of a step depends on the rows and the numbers that are shown alone.
use Rattle.std.proofs.Common.{◌≡◌, ℕ, ℤ, pos, List, [], ◌++◌, length, Bool, true, false, Option, Some, None, IsSome, ap, refl, slice_get, slice_index_or}
use Rattle.std.specs.Prelude.{if◌then◌else◌}
use Rattle.std.specs.List.{flat_map}
use Rattle.std.specs.Option.{option_map_or, is_some, unwrap_or}
use Rattle.std.proofs.lemmas.Option.{slice_get_within, get_or_from_slice_get}
use Rattle.uts_geom.specs.Spans.{counted, rows_of}
use Rattle.problem_types.specs.Lists.{variable_named}
use Rattle.problem_types.specs.declared.problem.Problem.{Problem}
use Rattle.problem_types.specs.declared.problem.Keep.{Keep}
use Rattle.probes.specs.declared.row.Row.{Row}
use Rattle.uts_model.specs.Dump.{Shown, Field, shown_fields, row_shown, field_line, name_text, field_text, row_line, number_line, keep_text, step_line, step_text}
use Rattle.kernel_sweeps.specs.Lists.{flat_map-same}
use Rattle.plain_engine.proofs.Lists.{map-alike, flat_map-alike}
use Rattle.dump_text.specs.Supplies.{shown_by, HasField, HasKept, HasAllKept}

-- a supplier whose rows and numbers are those that are to be shown, wherever it has some
pub record SuppliesOf (rows : ℕ → ℕ → ℕ → ℤ → ℤ → Option (List ℤ)) (numbers : ℕ → Option ℤ) (shown : Shown) : Type 0 where
  pub same_rows : (name material level : ℕ) (y z : ℤ) → IsSome (rows name material level y z) →
      unwrap_or (rows name material level y z) [] ≡ shown.row name material level y z
  pub same_numbers : (name : ℕ) → IsSome (numbers name) → unwrap_or (numbers name) (pos 0) ≡ shown.number name

module _ (p : Problem) (step : ℕ) (rows : ℕ → ℕ → ℕ → ℤ → ℤ → Option (List ℤ)) (numbers : ℕ → Option ℤ) (shown : Shown)
    (supplies : SuppliesOf rows numbers shown) where
  abbrev supplied : Shown
  supplied = shown_by rows numbers

  -- where each row shows the same numbers
  abbrev row_of_numbers : (keep name : ℕ) → Field → ℤ × ℤ → List ℤ → Row
  row_of_numbers keep name f at numbers =
      let everywhere : Shown = record { row = λ n m l y z. numbers; number = shown.number } in row_shown everywhere step keep name f at

  same_row : (keep name : ℕ) (f : Field) (at : ℤ × ℤ) → IsSome (rows name f.material f.level at.0 at.1) →
      row_shown supplied step keep name f at ≡ row_shown shown step keep name f at
  same_row keep name f at has = ap (row_of_numbers keep name f at) (supplies.same_rows name f.material f.level at.0 at.1 has)

  same_field : (keep name : ℕ) (f : Field) → HasField rows name f →
      field_text p supplied step keep name f ≡ field_text p shown step keep name f
  same_field keep name f has =
      ap (λ (all : List Row). field_line (name_text p name) f ++ flat_map row_line all)
      (map-alike (λ at. IsSome (rows name f.material f.level at.0 at.1)) (row_shown supplied step keep name f) (row_shown shown step keep name f)
      (same_row keep name f) (rows_of f.span) has)

  same_kept : (place : ℕ) (keep : Keep) → HasKept p step rows numbers keep → (declared : Bool) → is_some (variable_named p keep.name) ≡ declared →
      (if declared
      then flat_map (field_text p supplied step place keep.name) (shown_fields p step keep.name)
      else number_line (name_text p keep.name) (supplied.number keep.name))
      ≡ (if declared
      then flat_map (field_text p shown step place keep.name) (shown_fields p step keep.name)
      else number_line (name_text p keep.name) (shown.number keep.name))
  same_kept place keep has true is =
      flat_map-alike (HasField rows keep.name) (field_text p supplied step place keep.name) (field_text p shown step place keep.name)
      (same_field place keep.name) (shown_fields p step keep.name) (has.variable is)
  same_kept place keep has false is =
      ap (number_line (name_text p keep.name)) (supplies.same_numbers keep.name (has.reduction is))

  same_place : HasAllKept p step rows numbers → (place : ℕ) (found : Option Keep) → slice_get p.keeps place ≡ found →
      option_map_or (λ keep. keep_text p supplied step place keep.name) found []
      ≡ option_map_or (λ keep. keep_text p shown step place keep.name) found []
  same_place has place None is = refl
  same_place has place (Some keep) is =
      let here : HasKept p step rows numbers (slice_index_or p.keeps place keep) = has place keep (slice_get_within p.keeps place keep is) in
      same_kept place keep (rw (get_or_from_slice_get p.keeps place keep keep is) at here) (is_some (variable_named p keep.name)) refl

  pub step_text-supplied : HasAllKept p step rows numbers → step_text p supplied step ≡ step_text p shown step
  unfolding step_text
  step_text-supplied has =
      ap (λ rest. step_line step ++ rest)
      (flat_map-same _ _ (λ place. same_place has place (slice_get p.keeps place) refl) (counted 0 (length p.keeps)))
