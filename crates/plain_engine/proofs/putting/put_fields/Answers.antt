use Rattle.std.proofs.Common.{◌≡◌, ◌∙◌, ◌+◌, ℕ, Some, length, drop, ap, sym}
use Rattle.std.proofs.lemmas.List.{length_push}
use Rattle.std.proofs.lemmas.List.Elements.{All-pop}
use Rattle.uts_model.specs.WholeField.{State}
use Rattle.whole_fields.specs.Stored.{state_of, with_field}
use Rattle.plain_engine.specs.Changes.{IsFieldOf, written_of, with_fields}
use Rattle.plain_engine.proofs.FromTheEnd.{last_of_front, item_behind}
use Rattle.plain_engine.proofs.putting.put_fields.Goals as goal

pub loop-field-preserved : goal.loop-field-preserved
loop-field-preserved c =
    let p = c.args.c.now in
    let before = c.loop-field.invariant in
    let rest = c.pop.new.self in
    let field = c.in-Some.field in
    let last = last_of_front c.args.fields c.loop-field.rest rest field before.front c.in-Some.ensures in
    let start = state_of p c.args.new.now in
    record {
      warehouse = c.put_field.ensures.warehouse;
      front = last.front;
      each = (All-pop (IsFieldOf p) c.loop-field.rest rest (Some field) c.in-Some.ensures before.each).0;
      state = λ changes is.
          let item = item_behind (written_of p) changes (length rest) field _ (ap (drop (length rest)) (sym is) ∙ last.behind) in
          let x = item.0 in
          let count : length c.loop-field.rest ≡ length rest + 1 = ap length c.in-Some.ensures ∙ length_push rest field in
          c.put_field.ensures.state x item.1
          ∙ ap (λ (s : State). with_field p s x.name x.material x.level x.number)
          (before.state changes is ∙ ap (λ (k : ℕ). with_fields p start (drop k changes)) count)
          ∙ sym (ap (with_fields p start) item.2);
    }
