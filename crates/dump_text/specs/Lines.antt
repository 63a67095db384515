-- The lines of the part of a dump that shows a step, each with the row that it shows.
use Rattle.std.proofs.Common.{◌≡◌, ◌∙◌, ℕ, List, [], ◌∷◌, ◌++◌, map, length, Bool, true, false, Option, Some, None, ap, refl, append-nil, slice_get}
use Rattle.std.specs.Prelude.{if◌then◌else◌}
use Rattle.std.specs.List.{flat_map}
use Rattle.std.specs.Option.{option_map_or, is_some}
use Rattle.std.proofs.lemmas.Grind.{flat_map-append}
use Rattle.std.proofs.lemmas.List.Folds.{flat_map-map}
use Rattle.uts_geom.specs.Spans.{counted}
use Rattle.problem_types.specs.Lists.{variable_named}
use Rattle.problem_types.specs.declared.problem.Keep.{Keep}
use Rattle.problem_types.specs.declared.problem.Problem.{Problem}
use Rattle.probes.specs.declared.row.Row.{Row}
use Rattle.uts_model.specs.Dump.{Shown, Field, shown_fields, field_rows, field_line, field_text, name_text, number_line, row_line, keep_rows, keep_text, by_keeps, step_line, step_rows, step_text}
use Rattle.dump_text.specs.Keeps.{at_keep}

-- A line of the dump with its line feed, and the row that it shows, if it shows one.
pub record Line : Type 0 where
  pub bytes : List ℕ
  pub rows : List Row

-- a line that shows no row, and the line of a row
abbrev pub plain_line : List ℕ → Line
plain_line text = record { bytes = text; rows = [] }

abbrev pub line_of : Row → Line
line_of row = record { bytes = row_line row; rows = row ∷ [] }

-- the bytes of lines, those of the first one, and the rows that they show
abbrev pub bytes_of : List Line → List ℕ
bytes_of lines = flat_map (λ (l : Line). l.bytes) lines

abbrev pub first_bytes : List Line → List ℕ
first_bytes [] = []
first_bytes (l ∷ rest) = l.bytes

abbrev pub rows_in : List Line → List Row
rows_in lines = flat_map (λ (l : Line). l.rows) lines

-- the lines of a field: its header, and one for each row
abbrev pub field_lines : Problem → Shown → (step keep name : ℕ) → Field → List Line
field_lines p shown step keep name f =
    plain_line (field_line (name_text p name) f) ∷ map line_of (field_rows shown step keep name f)

-- the lines of a kept name: those of a variable's fields, or that of a reduction
abbrev pub keep_lines : Problem → Shown → (step keep name : ℕ) → List Line
keep_lines p shown step keep name =
    if is_some (variable_named p name)
    then flat_map (field_lines p shown step keep name) (shown_fields p step name)
    else plain_line (number_line (name_text p name) (shown.number name)) ∷ []

-- the lines of a step: the one that begins it, and those of each kept name
unfoldable pub step_lines : Problem → Shown → ℕ → List Line
step_lines p shown step = plain_line (step_line step) ∷ by_keeps p (keep_lines p shown step)

-- what is made of joined lists is what is made of each
pub flat_map-joined : {X Y Z : Type 0} (f : Y → List Z) (g : X → List Y) (h : X → List Z) → ((x : X) → flat_map f (g x) ≡ h x) →
    (xs : List X) → flat_map f (flat_map g xs) ≡ flat_map h xs
flat_map-joined f g h same [] = refl
flat_map-joined f g h same (x ∷ xs) =
    flat_map-append f (g x) (flat_map g xs) ∙ ap (λ t. t ++ flat_map f (flat_map g xs)) (same x)
    ∙ ap (λ t. h x ++ t) (flat_map-joined f g h same xs)

-- the lines of rows show these rows
rows_of_lines : (rows : List Row) → rows_in (map line_of rows) ≡ rows
rows_of_lines [] = refl
rows_of_lines (row ∷ rows) = ap (λ t. row ∷ t) (rows_of_lines rows)

-- The lines of a step are its text, and show its rows.
module _ (p : Problem) (shown : Shown) (step : ℕ) where
  bytes_of_field : (keep name : ℕ) (f : Field) → bytes_of (field_lines p shown step keep name f) ≡ field_text p shown step keep name f
  bytes_of_field keep name f =
      ap (λ t. field_line (name_text p name) f ++ t) (flat_map-map (λ (l : Line). l.bytes) line_of (field_rows shown step keep name f))

  rows_of_field : (keep name : ℕ) (f : Field) → rows_in (field_lines p shown step keep name f) ≡ field_rows shown step keep name f
  rows_of_field keep name f = rows_of_lines (field_rows shown step keep name f)

  -- where the name is declared as a variable, and where it is not
  bytes_of_name : (keep name : ℕ) (declared : Bool) →
      bytes_of (if declared
      then flat_map (field_lines p shown step keep name) (shown_fields p step name)
      else plain_line (number_line (name_text p name) (shown.number name)) ∷ [])
      ≡ (if declared
      then flat_map (field_text p shown step keep name) (shown_fields p step name)
      else number_line (name_text p name) (shown.number name))
  bytes_of_name keep name true =
      flat_map-joined (λ (l : Line). l.bytes) (field_lines p shown step keep name) (field_text p shown step keep name)
      (bytes_of_field keep name) (shown_fields p step name)
  bytes_of_name keep name false = append-nil (number_line (name_text p name) (shown.number name))

  rows_of_name : (keep name : ℕ) (declared : Bool) →
      rows_in (if declared
      then flat_map (field_lines p shown step keep name) (shown_fields p step name)
      else plain_line (number_line (name_text p name) (shown.number name)) ∷ [])
      ≡ (if declared then flat_map (field_rows shown step keep name) (shown_fields p step name) else [])
  rows_of_name keep name true =
      flat_map-joined (λ (l : Line). l.rows) (field_lines p shown step keep name) (field_rows shown step keep name)
      (rows_of_field keep name) (shown_fields p step name)
  rows_of_name keep name false = refl

  bytes_at_place : (place : ℕ) (found : Option Keep) →
      bytes_of (option_map_or (λ keep. keep_lines p shown step place keep.name) found [])
      ≡ option_map_or (λ keep. keep_text p shown step place keep.name) found []
  bytes_at_place place None = refl
  bytes_at_place place (Some keep) = bytes_of_name place keep.name (is_some (variable_named p keep.name))

  rows_at_place : (place : ℕ) (found : Option Keep) →
      rows_in (option_map_or (λ keep. keep_lines p shown step place keep.name) found [])
      ≡ option_map_or (λ keep. keep_rows p shown step place keep.name) found []
  rows_at_place place None = refl
  rows_at_place place (Some keep) = rows_of_name place keep.name (is_some (variable_named p keep.name))

  pub bytes_of_step : bytes_of (step_lines p shown step) ≡ step_text p shown step
  unfolding step_lines step_text
  bytes_of_step =
      ap (λ t. step_line step ++ t)
      (flat_map-joined (λ (l : Line). l.bytes) (at_keep p (keep_lines p shown step)) (at_keep p (keep_text p shown step))
      (λ place. bytes_at_place place (slice_get p.keeps place)) (counted 0 (length p.keeps)))

  pub rows_of_step : rows_in (step_lines p shown step) ≡ step_rows p shown step
  unfolding step_lines step_rows
  rows_of_step =
      flat_map-joined (λ (l : Line). l.rows) (at_keep p (keep_lines p shown step)) (at_keep p (keep_rows p shown step))
      (λ place. rows_at_place place (slice_get p.keeps place)) (counted 0 (length p.keeps))
