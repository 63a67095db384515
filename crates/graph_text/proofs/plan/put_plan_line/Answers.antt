use Rattle.graph_text.specs.Listing.{plan_line}
use Rattle.graph_text.proofs.plan.put_plan_line.Goals as goal

pub returns : goal.returns
unfolding plan_line
returns c =
    rw (
      c.in_ok-push.ensures.items,
      c.in_ok-put_labelled_long.ensures,
      c.in_ok-reads.ensures.count,
      c.in_ok-put_labelled-2.ensures,
      c.in_ok-put_labelled.ensures,
      c.in_ok-extend_from_slice-2.ensures.items,
      c.list_word.ensures,
      c.in_ok-extend_from_slice.ensures.items,
      c.clear.ensures.items,
    )
