use Rattle.std.proofs.Common.{◌∙◌, ◌+◌, ℕ, List, Bool, length, map, ap}
use Rattle.std.specs.List.{count_by}
use Rattle.uts_geom.specs.Spans.{counted}
use Rattle.graph_compiler.specs.Places.{marked_before}
use Rattle.graph_compiler.proofs.OldStanding.{are_old_slots}
use Rattle.graph_compiler.proofs.old_slots.old_slots.Goals as goal

pub returns : goal.returns
returns c = λ p tasks variables numbers slots.
    let old_marks = c.args.reads.variables.items in
    let number_marks = c.args.reads.numbers.items in
    are_old_slots p tasks (record { slots = c.args.reads.slots; variables = c.in_ok-places.field-0; numbers = c.in_ok-places-2.field-0 }) old_marks number_marks variables numbers slots
    (c.in_ok-places.ensures ∙ ap (λ (ms : List Bool). map (λ k. 0 + marked_before ms k) (counted 0 (length ms))) c.deref-2.ensures.value)
    (c.in_ok-places-2.ensures
    ∙ ap (λ (ms : List Bool). map (λ k. c.marked-more.result + marked_before ms k) (counted 0 (length ms))) c.deref-3.ensures.value
    ∙ ap (λ (n : ℕ). map (λ k. n + marked_before number_marks k) (counted 0 (length number_marks))) (c.marked-more.ensures.count ∙ ap (count_by (λ mark. mark)) c.deref.ensures.value))
