use Rattle.std.proofs.lemmas.List.{append_assoc}
use Rattle.std.proofs.lemmas.Result.{IfOk-equal}
use Rattle.graph_text.specs.Listing.{running_text}
use Rattle.graph_text.proofs.tasks.put_running.Goals as goal

pub returns : goal.returns
unfolding running_text
returns c =
    IfOk-equal c.put_labelled-3.result _ _ _ c.put_labelled-3.ensures
    (rw (c.in_ok-put_labelled-2.ensures, c.in_ok-put_labelled.ensures, c.in_ok-put_name.ensures, c.task_name.ensures) (simp append_assoc))
