use Rattle.graph_text.specs.Listing.{slot_line}
use Rattle.graph_text.proofs.slots.put_slot_line.Goals as goal

pub returns : goal.returns
unfolding slot_line
returns c =
    rw (
      c.in_ok-push-2.ensures.items,
      c.in_ok-put_labelled-2.ensures,
      c.kept_mark.ensures,
      c.in_ok-put_labelled.ensures,
      c.uses_of.ensures,
      c.in_ok-put_place.ensures,
      c.in_ok-put_named.ensures,
      c.in_ok-push.ensures.items,
      c.in_ok-put_labelled_long.ensures,
      c.clear.ensures.items,
    )
