use Rattle.std.proofs.Common.{◌≡◌, ◌<◌, ◌≤◌, List, get_or, ◌++◌, length, take, drop, sym, ap, subst, arith}
use Rattle.std.proofs.lemmas.Option.{slice_get-get_or, slice_get_within}
use Rattle.kernel_eval.specs.declared.part.Part.{Part}
use Rattle.run_task.specs.Putting.{AreWithField, IsWithField}
use Rattle.run_task.proofs.Walked.{AreWalked, put_back, walked_more, walked_none}
use Rattle.run_task.proofs.gathering.put_field.Goals as goal

pub loop-part-init : goal.loop-part-init
loop-part-init c = walked_none (IsWithField c.args.slot c.args.field.now c.args.level) c.deref_mut-part-items.result.now

pub loop-part-preserved : goal.loop-part-preserved
loop-part-preserved c =
    let now = c.loop-part.part-items in
    let i = c.loop-part.part-index in
    let within : i < length now = omega arith in
    let x = get_or now i c.part-item.result in
    walked_more (IsWithField c.args.slot c.args.field.now c.args.level) c.deref_mut-part-items.result.now now i x c.put_into.new.part
    c.loop-part.invariant within (slice_get-get_or now i c.part-item.result within) c.put_into.ensures

pub returns : goal.returns
returns c =
    let R = IsWithField c.args.slot c.args.field.now c.args.level in
    let before = c.args.parts.now.items in
    let now = c.loop-part.part-items in
    let same : c.deref_mut-part-items.result.now ≡ before = c.deref_mut-part-items.ensures.value in
    let walked = subst (λ (xs : List Part). AreWalked R xs now c.loop-part.part-index) same c.loop-part.invariant in
    let many : length now ≡ length before = walked.many in
    let size : length before ≡ c.args.parts.now.len = omega arith in
    let past : length before ≤ c.loop-part.part-index = omega (arith, ap length same) in
    let back : take c.args.parts.now.len (now ++ drop (length now) before) ≡ now = put_back now before c.args.parts.now.len (omega arith) size in
    let all : AreWithField c.args.slot c.args.field.now c.args.level before now = record {
      many = many;
      each = λ k a b at there. walked.done k a b (let within = slice_get_within before k a at in omega (arith, within, past)) at there;
    } in
    subst (λ (xs : List Part). AreWithField c.args.slot c.args.field.now c.args.level before xs) (sym back) all
