-- Views that run no task: a change of one for another leaves the graph and the slots as they were.
use Rattle.std.proofs.Common.{◌≡◌, ◌∙◌, ℕ, Bool, true, false, List, ap, sym, refl}
use Rattle.std.specs.Prelude.{◌==◌, ◌&&◌, slice_set, slice_index}
use Rattle.std.proofs.lemmas.Bool.{false≢true}
use Rattle.graph_types.specs.declared.graph.Graph.{Graph}
use Rattle.sched_core.specs.declared.act.Act.{Act}
use Rattle.sched_core.specs.declared.view.Due.{Due}
use Rattle.sched_core.specs.declared.view.View.{View}
use Rattle.sched_core.specs.declared.view.View.TheVariants as view
use Rattle.sched_core.specs.Core.{runners, runs, is_at, has_behind, number_at, number_behind, is_scrub, is_put_at, is_in_hand, is_anything, closes, lowers_use, lowers_successor}
use Rattle.sched_core.specs.Sound.{is_in_shape}
use Rattle.sched_core.proofs.Seats.{IsSeat, count_same}
use Rattle.sched_core.proofs.Frames.{SameDues, SameBehind}

unfoldable pub is_running : View → Bool
is_running (view.Running task at owed) = true
is_running _ = false

pub runs_none : (v : View) → is_running v ≡ false → (task : ℕ) → runs task v ≡ false
unfolding is_running
runs_none (view.Running t at owed) quiet task = absurd (false≢true (sym quiet))
runs_none _ quiet task = refl

pub at_none : (v : View) → is_running v ≡ false → (g : Graph) (is_due : Due → Bool) (test : Act → Bool) → is_at g is_due test v ≡ false
unfolding is_running
at_none (view.Running t at owed) quiet g is_due test = absurd (false≢true (sym quiet))
at_none _ quiet g is_due test = refl

pub behind_none : (v : View) → is_running v ≡ false → (g : Graph) (test : Act → Bool) (task : ℕ) → has_behind g test task v ≡ false
unfolding is_running
behind_none (view.Running t at owed) quiet g test task = absurd (false≢true (sym quiet))
behind_none _ quiet g test task = refl

pub shape_quiet : (g : Graph) (v : View) → is_running v ≡ false → is_in_shape g v ≡ true
unfolding is_running
shape_quiet g (view.Running t at owed) quiet = absurd (false≢true (sym quiet))
shape_quiet g _ quiet = refl

-- one quiet view in place of another
module _ (views : List View) (seat : ℕ) (old new : View) (is : IsSeat views seat old) (quiet : is_running old ≡ false) (stays : is_running new ≡ false) where
  pub quiet_runners : (task : ℕ) → runners views task ≡ runners (slice_set views seat new) task
  quiet_runners task = sym (count_same views seat old new is (runs task) (runs_none old quiet task ∙ sym (runs_none new stays task)))

  pub quiet_at : (g : Graph) (is_due : Due → Bool) (test : Act → Bool) → number_at g views is_due test ≡ number_at g (slice_set views seat new) is_due test
  quiet_at g is_due test = sym (count_same views seat old new is (is_at g is_due test) (at_none old quiet g is_due test ∙ sym (at_none new stays g is_due test)))

  pub quiet_behind : (g : Graph) (test : Act → Bool) (task : ℕ) → number_behind g views test task ≡ number_behind g (slice_set views seat new) test task
  quiet_behind g test task = sym (count_same views seat old new is (has_behind g test task) (behind_none old quiet g test task ∙ sym (behind_none new stays g test task)))

  pub quiet_dues : (g : Graph) → SameDues g views (slice_set views seat new)
  quiet_dues g = record {
    put = λ place test. quiet_at g (is_put_at place) test;
    in_hand = λ task. quiet_at g is_in_hand (lowers_successor task);
    closing = λ slot. quiet_at g is_anything (closes slot);
    scrubbing = λ slot. quiet_at g is_scrub (lowers_use slot);
  }

  pub quiet_same : (g : Graph) (published : List ℕ) → SameBehind g published published views (slice_set views seat new)
  quiet_same g published = record {
    finished = λ task. ap (λ (n : ℕ). (slice_index published task == 1) && (n == 0)) (quiet_runners task);
    uses = λ task slot. quiet_behind g (lowers_use slot) task;
    successors = λ task successor. quiet_behind g (lowers_successor successor) task;
  }
