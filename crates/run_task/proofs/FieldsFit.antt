-- What a value is that has the content of a slot.
use Rattle.std.proofs.Common.{◌≡◌, ◌∙◌, ℕ, ℤ, pos, Bool, true, cond, List, [], ◌∷◌, length, map, Option, Some, None, refl, sym, ap}
use Rattle.std.specs.Prelude.{◌↔◌, Contains, IsTrue, nat_lt, position, slice_get, slice_index_or}
use Rattle.std.specs.List.{position_or_len}
use Rattle.std.specs.Option.{option_map, option_map_or}
use Rattle.std.proofs.lemmas.Bool.{lt-ltb}
use Rattle.std.proofs.lemmas.List.Folds.{find_at}
use Rattle.std.proofs.lemmas.Option.{get_or_from_slice_get, slice_get-map, slice_get_within}
use Rattle.uts_geom.specs.Spans.{indexes_of, is_inside}
use Rattle.uts_geom.specs.declared.index.Index.{Index}
use Rattle.uts_geom.specs.declared.span.Span.{Span}
use Rattle.uts_geom.specs.SameIndexes.{by_coordinates, is_same_index, same_index_decides}
use Rattle.field_box.specs.Fields.{IsField, NumberedSpan, number_at}
use Rattle.field_box.specs.declared.value.Value.TheVariants.{Grid, Number}
use Rattle.slot_contents.specs.Contents.{field_content}
use Rattle.slot_contents.specs.Values.{content_of_value}
use Rattle.run_task.proofs.Lists.{found, finds, place_of}

same_span : (s u : Span) → s.lo ≡ u.lo → s.hi ≡ u.hi → s ≡ u
same_span s u lo hi =
    let first : s ≡ record { lo = u.lo; hi = s.hi } = ap (λ (i : Index). let made : Span = record { lo = i; hi = s.hi } in made) lo in
    let second : record { lo = u.lo; hi = s.hi } ≡ u = ap (λ (i : Index). let made : Span = record { lo = u.lo; hi = i } in made) hi in
    first ∙ second

-- a field and a number as contents
pub record IsOf (s : Span) (number : Index → ℤ) (f : NumberedSpan) : Type 0 where
  pub span : f.span ≡ s
  pub numbers : f.numbers ≡ map number (indexes_of s)

pub of_content : (s : Span) (number : Index → ℤ) (f : NumberedSpan) → field_content s number ≡ content_of_value (Grid f) → IsOf s number f
of_content s number f same = record {
  span = same_span f.span s
      (by_coordinates f.span.lo s.lo (let e : f.span.lo.x ≡ s.lo.x = cc in e) (let e : f.span.lo.y ≡ s.lo.y = cc in e) (let e : f.span.lo.z ≡ s.lo.z = cc in e))
      (by_coordinates f.span.hi s.hi (let e : f.span.hi.x ≡ s.hi.x = cc in e) (let e : f.span.hi.y ≡ s.hi.y = cc in e) (let e : f.span.hi.z ≡ s.hi.z = cc in e));
  numbers = cc;
}

pub not_field : (n : ℤ) (f : NumberedSpan) → n ∷ [] ≡ content_of_value (Grid f) → ⊥
not_field n f same = cc

pub not_number : (s : Span) (number : Index → ℤ) (n : ℤ) → field_content s number ≡ content_of_value (Number n) → ⊥
not_number s number n same = cc

-- Where a span holds its indexes, a field of these numbers has them at its indexes.
module _ (hold : (s : Span) (i : Index) → Contains (indexes_of s) i ↔ IsTrue (is_inside s i)) where
  number_is : (s : Span) (number : Index → ℤ) (numbers : List ℤ) → numbers ≡ map number (indexes_of s) → (i : Index) → IsTrue (is_inside s i) →
      number_at (record { span = s; numbers = numbers }) i ≡ number i
  unfolding number_at
  number_is s number numbers are i inside =
      let test = is_same_index i in
      let n = position_or_len test (indexes_of s) in
      let place = place_of (indexes_of s) i ((hold s i).1 inside) in
      let some = finds test (indexes_of s) place.0 i place.1 ((same_index_decides i i).1 refl) in
      let first = found test (indexes_of s) some.0 some.1 in
      let same : i ≡ some.0 = (same_index_decides i some.0).0 first.2 in
      let at : slice_get (indexes_of s) n ≡ Some some.0 = sym (find_at test (indexes_of s)) ∙ some.1 in
      let below : nat_lt n (length (indexes_of s)) ≡ true = lt-ltb n (length (indexes_of s)) (slice_get_within (indexes_of s) n some.0 at) in
      let stands : position test (indexes_of s) ≡ Some n = ap (λ (b : Bool). cond b (Some n) None) below in
      let listed : slice_get numbers n ≡ Some (number some.0) =
      ap (λ (xs : List ℤ). slice_get xs n) are ∙ slice_get-map number (indexes_of s) n ∙ ap (option_map number) at in
      ap (λ (o : Option ℕ). option_map_or (λ (k : ℕ). slice_index_or numbers k (pos 0)) o (pos 0)) stands
      ∙ get_or_from_slice_get numbers n (number some.0) (pos 0) listed ∙ ap number (sym same)

  pub field_is : (s : Span) (number : Index → ℤ) (f : NumberedSpan) → IsOf s number f → IsField s number f
  field_is s number f is = record {
    span = is.span;
    numbers = λ i inside.
        ap (λ (u : Span). number_at (record { span = u; numbers = f.numbers }) i) is.span ∙ number_is s number f.numbers is.numbers i inside;
  }
