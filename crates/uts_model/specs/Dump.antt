-- The dump of a problem: the rows of the kept variables at the dumped steps, and the bytes that show them.
use Rattle.std.specs.Prelude.{ℕ, ℤ, pos, ◌+◌, List, [], ◌∷◌, ◌++◌, map, length, codes, decimal, if◌then◌else◌, slice_get}
use Rattle.std.specs.Fmt.{signed_decimal}
use Rattle.std.specs.List.{flat_map, join_by}
use Rattle.std.specs.Option.{option_map_or, is_some}
use Rattle.uts_geom.specs.Spans.{counted, row_indexes, rows_of}
use Rattle.uts_geom.specs.declared.index.Index.{Index}
use Rattle.uts_geom.specs.declared.span.Span.{Span}
use Rattle.problem_types.specs.Lists.{task_list, is_dumped, computes, centring_of, variable_named}
use Rattle.problem_types.specs.Regions.{spaces_of}
use Rattle.problem_types.specs.declared.problem.Problem.{Problem}
use Rattle.probes.specs.declared.row.Row.{Row}
use Rattle.probes.specs.Watching.{Meaning, line_after}
use Rattle.uts_model.specs.WholeField.{field_at, reduction_at, task_count}

-- What the dump shows of a step: the numbers of each row of a variable by ascending x, by the variable's name, material, level,
-- y and z, and the number of each reduction by its name.
pub record Shown : Type 0 where
  pub row : ℕ → ℕ → ℕ → ℤ → ℤ → List ℤ
  pub number : ℕ → ℤ

-- what the whole-field definition gives at the end of a step
abbrev pub shown_at : Problem → ℕ → Shown
shown_at p step = record {
  row = λ name material level y z.
      flat_map (λ s. map (field_at p step (task_count p step) name material level) (row_indexes s y z))
      (spaces_of p level (centring_of p name));
  number = λ name. reduction_at p step (task_count p step) name;
}

-- A field that the dump shows: a material, a level and the index space of one of its boxes.
pub record Field : Type 0 where
  pub material : ℕ
  pub level : ℕ
  pub span : Span

-- the fields of a kept variable: materials ascending, for each the levels on which the step's list computes it, and for each of
-- these the index space of each box
abbrev pub shown_fields : Problem → ℕ → ℕ → List Field
shown_fields p step name =
    flat_map (λ material. flat_map (λ level.
    if computes (task_list p step) name material level
    then map (λ s. record { material = material; level = level; span = s }) (spaces_of p level (centring_of p name))
    else []) (counted 0 (length p.levels))) (counted 0 p.materials.value)

-- the row of a field at y and z
abbrev pub row_shown : Shown → (step keep name : ℕ) → Field → ℤ × ℤ → Row
row_shown shown step keep name f at = record {
  step = step;
  keep = keep;
  material = f.material;
  level = f.level;
  y = at.0;
  z = at.1;
  values = shown.row name f.material f.level at.0 at.1;
}

-- the rows of a field, z outermost, then y
abbrev pub field_rows : Shown → (step keep name : ℕ) → Field → List Row
field_rows shown step keep name f = map (row_shown shown step keep name f) (rows_of f.span)

-- a line with its line feed
abbrev pub line : List ℕ → List ℕ
line text = text ++ 10 ∷ []

abbrev pub name_text : Problem → ℕ → List ℕ
name_text p name = option_map_or (λ n. n) (slice_get p.names name) []

-- numbers, each after a space
abbrev pub spaced_numbers : List ℤ → List ℕ
spaced_numbers numbers = flat_map (λ n. codes " " ++ signed_decimal n) numbers

abbrev pub corner_numbers : Index → List ℤ
corner_numbers i = i.x ∷ i.y ∷ i.z ∷ []

-- the header of a field: its name, material and level, and the bounds of its span, the low x, y, z, then the high ones
unfoldable pub field_line : List ℕ → Field → List ℕ
field_line name f =
    line (codes "field " ++ name ++ spaced_numbers
    (pos f.material ∷ pos f.level ∷ (corner_numbers f.span.lo ++ corner_numbers f.span.hi)))

-- the numbers of a row, with one space between
unfoldable pub row_text : List ℤ → List ℕ
row_text numbers = join_by signed_decimal (codes " ") numbers

abbrev pub row_line : Row → List ℕ
row_line row = line (row_text row.values)

-- the text of a field: its header, and a line for each row
abbrev pub field_text : Problem → Shown → (step keep name : ℕ) → Field → List ℕ
field_text p shown step keep name f =
    field_line (name_text p name) f ++ flat_map row_line (field_rows shown step keep name f)

-- the line of a reduction
unfoldable pub number_line : List ℕ → ℤ → List ℕ
number_line name n = line (codes "number " ++ name ++ codes " " ++ signed_decimal n)

-- the rows and the text of a kept name, by the place of its line: a variable's fields, or a reduction's number, which is no row
abbrev pub keep_rows : Problem → Shown → (step keep name : ℕ) → List Row
keep_rows p shown step keep name =
    if is_some (variable_named p name) then flat_map (field_rows shown step keep name) (shown_fields p step name) else []

abbrev pub keep_text : Problem → Shown → (step keep name : ℕ) → List ℕ
keep_text p shown step keep name =
    if is_some (variable_named p name)
    then flat_map (field_text p shown step keep name) (shown_fields p step name)
    else number_line (name_text p name) (shown.number name)

-- what stands for each `keep` line in order, by its place and its name
abbrev pub by_keeps : {A : Type 0} → Problem → (ℕ → ℕ → List A) → List A
by_keeps p of =
    flat_map (λ place. option_map_or (λ keep. of place keep.name) (slice_get p.keeps place) []) (counted 0 (length p.keeps))

-- the rows of a step in order
unfoldable pub step_rows : Problem → Shown → ℕ → List Row
step_rows p shown step = by_keeps p (keep_rows p shown step)

-- the line that begins a step
unfoldable pub step_line : ℕ → List ℕ
step_line step = line (codes "step " ++ decimal step)

-- the text of a step: its line, and what stands for each kept name
unfoldable pub step_text : Problem → Shown → ℕ → List ℕ
step_text p shown step = step_line step ++ by_keeps p (keep_text p shown step)

-- what stands for each dumped step in order
abbrev pub by_dumped_steps : {A : Type 0} → Problem → (ℕ → List A) → List A
by_dumped_steps p of = flat_map (λ step. if is_dumped p step then of step else []) (counted 0 (p.steps.value + 1))

-- all rows that a run shows, in order
unfoldable pub dump_rows : Problem → List Row
dump_rows p = by_dumped_steps p (λ step. step_rows p (shown_at p step) step)

-- the line that begins the dump
unfoldable pub begin_text : List ℕ
begin_text = line (codes "dump 1")

-- the end of the dump, with a line for each of these texts before it
unfoldable pub end_text : List (List ℕ) → List ℕ
end_text texts = flat_map (λ text. line (codes "# " ++ text)) texts ++ line (codes "end")

-- the dump
unfoldable pub dump_bytes : Problem → List (List ℕ) → List ℕ
dump_bytes p texts = begin_text ++ (by_dumped_steps p (λ step. step_text p (shown_at p step) step) ++ end_text texts)

-- the lines of probes that watch the whole run
abbrev pub probe_lines : Problem → List Meaning → List (List ℕ)
probe_lines p probes = map (line_after (dump_rows p)) probes
