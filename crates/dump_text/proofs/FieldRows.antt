-- The rows of a field, one by one.
use Rattle.std.proofs.Common.{◌≡◌, ◌∙◌, ◌<◌, ℕ, List, [], ◌∷◌, ◌++◌, All, Some, true, false, cond, map, length, length-append, get_or, ap, sym, refl, subst, arith}
use Rattle.std.specs.List.{flat_map}
use Rattle.std.proofs.Math.Seq.{get_or-append_seam}
use Rattle.std.proofs.lemmas.List.Concat.{flat_map_single}
use Rattle.std.proofs.lemmas.Simd.{map-map}
use Rattle.std.specs.List.{slice_get}
use Rattle.std.specs.Option.{option_map_or}
use Rattle.uts_geom.specs.Spans.{counted, rows_of}
use Rattle.uts_geom.specs.declared.centring.Centring.{Centring}
use Rattle.uts_geom.specs.declared.span.Span.{Span}
use Rattle.problem_types.specs.Lists.{task_list, computes, centring_of}
use Rattle.problem_types.specs.Regions.{space_of, spaces_of, spaces_on}
use Rattle.problem_types.specs.declared.problem.Level.{Level}
use Rattle.uts_model.specs.Dump.{Shown, Field, field_rows}
use Rattle.dump_text.specs.Lines.{field_lines, flat_map-joined, line_of}
use Rattle.dump_text.specs.Fields.{field_at, kept_row, level_fields, lines_of_fields}
use Rattle.dump_text.specs.declared.field.Kept.{Kept}
use Rattle.dump_text.specs.declared.place.Place.{Place}

-- each item of a list, where it stands after some others
pub all_at : {X : Type 0} (P : X → Type 0) (whole done rest : List X) (x : X) → whole ≡ done ++ x ∷ rest → All P whole → P x
all_at P whole done rest x is all =
    let below : length done < length whole = omega (arith, ap length is, length-append done (x ∷ rest)) in
    subst P (ap (λ t. get_or t (length done) x) is ∙ get_or-append_seam done x rest x) (all (length done) x below)

pub lines_by_rows : (shown : Shown) (k : Kept) (place : Place) →
    flat_map (λ at. line_of (kept_row shown k place at) ∷ []) (rows_of place.span)
    ≡ map line_of (field_rows shown k.step k.keep k.name (field_at place))
lines_by_rows shown k place =
    flat_map_single (λ at. line_of (kept_row shown k place at)) (rows_of place.span)
    ∙ sym (map-map line_of (kept_row shown k place) (rows_of place.span))

-- the one field on a material and a level, where the variable is computed there
pub field_there : (k : Kept) (material level : ℕ) (l : Level) (c : Centring) (s : Span) →
    computes (task_list k.problem.now k.step) k.name material level ≡ true → slice_get k.problem.now.levels level ≡ Some l →
    c ≡ centring_of k.problem.now k.name → spaces_on c l ≡ s ∷ [] →
    level_fields k material level ≡ record { material = material; level = level; span = s } ∷ []
field_there k material level l c s computed at centring one =
    let f : Span → Field = λ s. record { material = material; level = level; span = s } in
    let spaces : spaces_of k.problem.now level (centring_of k.problem.now k.name) ≡ s ∷ [] =
    ap (λ t. option_map_or (λ l. map (space_of (centring_of k.problem.now k.name)) l.boxes) t []) at
    ∙ ap (λ t. spaces_on t l) (sym centring) ∙ one in
    ap (λ b. cond b (map f (spaces_of k.problem.now level (centring_of k.problem.now k.name))) []) computed ∙ ap (map f) spaces

-- no field, where it is not
pub no_field : (k : Kept) (material level : ℕ) → computes (task_list k.problem.now k.step) k.name material level ≡ false →
    level_fields k material level ≡ []
no_field k material level computed =
    let f : Span → Field = λ s. record { material = material; level = level; span = s } in
    ap (λ b. cond b (map f (spaces_of k.problem.now level (centring_of k.problem.now k.name))) []) computed

-- the lines of all levels, and of all materials
pub lines_by_parts : (shown : Shown) (k : Kept) (n : ℕ) (part : ℕ → List Field) →
    flat_map (λ i. lines_of_fields shown k (part i)) (counted 0 n) ≡ lines_of_fields shown k (flat_map part (counted 0 n))
lines_by_parts shown k n part =
    sym (flat_map-joined (field_lines k.problem.now shown k.step k.keep k.name) part (λ i. lines_of_fields shown k (part i)) (λ i. refl)
    (counted 0 n))
