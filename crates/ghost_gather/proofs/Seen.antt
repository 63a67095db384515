-- Windows as functions on their spans.
use Rattle.std.proofs.Common.{◌∙◌, inl, inr, ℤ, refl}
use Rattle.std.specs.Prelude.{IsTrue, if◌then◌else◌}
use Rattle.std.proofs.lemmas.Bool.{cases_Bool, and_from}
use Rattle.uts_geom.specs.declared.index.Index.{Index}
use Rattle.uts_geom.specs.declared.span.Span.{Span}
use Rattle.uts_geom.specs.Spans.{is_inside, meet_of}
use Rattle.field_box.specs.Fields.{NumberedSpan, IsField, number_at}
use Rattle.ghost_gather.specs.Storing.{IsStored}
use Rattle.ghost_gather.specs.Windows.{WindowData, IsWindow, number_seen}

pub stored_inside : (span space stored : Span) → IsStored span space stored → (i : Index) → IsTrue (is_inside span i) → IsTrue (is_inside space i) →
    IsTrue (is_inside stored i)
stored_inside span space stored is i inside within = is.inside i ∙ and_from _ _ inside within

-- where all is outside, nothing was put
pub all_blank : (span space : Span) (outside : ℤ) (field : NumberedSpan) → IsStored span space (meet_of span space) → IsField (meet_of span space) (λ i. outside) field →
    IsWindow span space outside (λ i. outside) (record { span = span; space = space; outside = outside; stored = field })
all_blank span space outside field stored is = record {
  span = refl;
  space = refl;
  outside = refl;
  stored = is.span;
  numbers = λ i inside.
      elim (cases_Bool (is_inside space i)) [
        | inl within ↦ rw within (is.numbers i (stored_inside span space (meet_of span space) stored i inside within))
        | inr beyond ↦ rw beyond refl
      ];
}

-- a part that was put
pub part_put : (w : WindowData) (from field : NumberedSpan) → IsStored w.span w.space w.stored.span →
    IsField w.stored.span (λ i. if is_inside from.span i then number_at from i else number_at w.stored i) field →
    IsWindow w.span w.space w.outside (λ i. if is_inside from.span i then number_at from i else number_seen w i)
    (record { span = w.span; space = w.space; outside = w.outside; stored = field })
part_put w from field stored is = record {
  span = refl;
  space = refl;
  outside = refl;
  stored = is.span ∙ stored.corners;
  numbers = λ i inside.
      elim (cases_Bool (is_inside w.space i)) [
        | inl within ↦ rw within (is.numbers i (stored_inside w.span w.space w.stored.span stored i inside within))
        | inr beyond ↦ rw beyond refl
      ];
}
