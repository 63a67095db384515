use Rattle.std.proofs.Common.{◌≡◌, ◌∙◌, ◌+◌, ◌<◌, ℕ, Some, length, drop, ap, sym, w64, FitsSigned, rules}
use Rattle.std.proofs.lemmas.Int.{to_z-of_z}
use Rattle.std.proofs.lemmas.List.{length_push}
use Rattle.std.proofs.lemmas.List.Elements.{All-pop}
use Rattle.uts_model.specs.WholeField.{State}
use Rattle.whole_fields.specs.Stored.{state_of, with_reduction}
use Rattle.plain_engine.specs.Changes.{with_numbers}
use Rattle.plain_engine.specs.declared.written.WrittenNumber.{WrittenNumber}
use Rattle.plain_engine.proofs.FromTheEnd.{last_of_front}
use Rattle.plain_engine.proofs.putting.put_numbers.Goals as goal

pub loop-number-preserved : goal.loop-number-preserved
loop-number-preserved c =
    let p = c.args.c.now in
    let before = c.loop-number.invariant in
    let rest = c.pop.new.self in
    let number = c.in-Some.number in
    let last = last_of_front c.args.numbers c.loop-number.rest rest number before.front c.in-Some.ensures in
    let start = state_of p c.args.new.now in
    let fits : FitsSigned w64 number.number = search rules in
    let count : length c.loop-number.rest ≡ length rest + 1 = ap length c.in-Some.ensures ∙ length_push rest number in
    record {
      warehouse = c.set_reduction.ensures.warehouse;
      front = last.front;
      each = (All-pop (λ (x : WrittenNumber). x.name < length p.names) c.loop-number.rest rest (Some number) c.in-Some.ensures before.each).0;
      state =
          c.set_reduction.ensures.state
          ∙ ap (with_reduction (state_of p c.loop-number.new) number.name) (to_z-of_z w64 number.number fits)
          ∙ ap (λ (s : State). with_reduction s number.name number.number)
          (before.state ∙ ap (λ (k : ℕ). with_numbers start (drop k c.args.numbers)) count)
          ∙ sym (ap (with_numbers start) last.behind);
    }
