use Rattle.std.proofs.Common.{◌∙◌, ◌<◌, [], ◌∷◌, length, length-append, arith}
use Rattle.std.proofs.lemmas.Iterator.{YieldsList-from_slice, YieldsList-from_zip}
use Rattle.std.proofs.lemmas.Iterator.Adapters.{YieldsList-from_vec}
use Rattle.std.proofs.lemmas.Iterator.Consumers.{YieldsList-at, YieldsList-end, YieldsList-turn}
use Rattle.std.proofs.lemmas.List.Elements.{All-contains}
use Rattle.std.proofs.lemmas.Slice.Zip.{length-zip}
use Rattle.serial_step.proofs.Placed.{contains_at, pair_at, put_none, put_more, put_done}
use Rattle.serial_step.proofs.putting.put_all.Goals as goal

pub loop-slot-init : goal.loop-slot-init
loop-slot-init g c = record { put = put_none c.args.slots.now c.args.values.items c.args.places.now }

pub put-requires : goal.put-requires
put-requires g c =
    let road =
    YieldsList-at c.into_iter-slot-iterator.ensures.into_iter_gives
    (YieldsList-from_zip (YieldsList-from_slice c.args.slots.now cc) (YieldsList-from_vec c.args.values.items (cc) (cc))) in
    let turn = YieldsList-turn road c.loop-slot.yielded c.loop-slot.slot-iterator c.loop-slot.yielded_by c.next.result c.next.new.self
    (c.in-Some.slot, c.in-Some.value) c.in-Some.is c.next.ensures.steps in
    let at = pair_at c.args.slots.now c.args.values.items (length c.loop-slot.yielded) (c.in-Some.slot.now, c.in-Some.value) c.requires.many turn.0 turn.1 in
    omega (arith, All-contains (λ s. s < length c.args.places.now) c.args.slots.now c.in-Some.slot.now c.requires.within (contains_at c.args.slots.now _ _ at.0))

pub loop-slot-preserved : goal.loop-slot-preserved
loop-slot-preserved g c =
    let road =
    YieldsList-at c.into_iter-slot-iterator.ensures.into_iter_gives
    (YieldsList-from_zip (YieldsList-from_slice c.args.slots.now cc) (YieldsList-from_vec c.args.values.items (cc) (cc))) in
    let turn = YieldsList-turn road c.loop-slot.yielded c.loop-slot.slot-iterator c.loop-slot.yielded_by c.next.result c.next.new.self
    (c.in-Some.slot, c.in-Some.value) c.in-Some.is c.next.ensures.steps in
    let at = pair_at c.args.slots.now c.args.values.items (length c.loop-slot.yielded) (c.in-Some.slot.now, c.in-Some.value) c.requires.many turn.0 turn.1 in
    let room : c.in-Some.slot.now < length c.loop-slot.places =
    omega (arith, All-contains (λ s. s < length c.args.places.now) c.args.slots.now c.in-Some.slot.now c.requires.within (contains_at c.args.slots.now _ _ at.0)) in
    record {
      put = put_more c.args.slots.now c.args.values.items c.args.places.now c.loop-slot.places (length c.loop-slot.yielded) c.in-Some.slot.now
          c.in-Some.value c.requires.ascending at.0 at.1 room c.loop-slot.invariant.put _ _
          (length-append c.loop-slot.yielded ((c.in-Some.slot, c.in-Some.value) ∷ [])) c.put.ensures;
    }

pub returns : goal.returns
returns g c =
    let road =
    YieldsList-at c.into_iter-slot-iterator.ensures.into_iter_gives
    (YieldsList-from_zip (YieldsList-from_slice c.args.slots.now cc) (YieldsList-from_vec c.args.values.items (cc) (cc))) in
    let end = YieldsList-end road c.loop-slot.yielded c.loop-slot.slot-iterator c.loop-slot.yielded_by c.next.result c.next.new.self c.in-None.is
    c.next.ensures.steps in
    put_done c.args.slots.now c.args.values.items c.args.places.now c.loop-slot.places (length c.loop-slot.yielded)
    (end.1 ∙ omega (arith, length-zip c.args.slots.now c.args.values.items, c.requires.many)) c.requires.many c.loop-slot.invariant.put
