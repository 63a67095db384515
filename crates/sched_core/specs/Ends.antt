-- What a sound state says where the step ends.
use Rattle.std.specs.Prelude.{◌≡◌, ℕ, ◌<◌, ◌≤◌, Bool, true, false, length, All, slice_index_or}
use Rattle.std.specs.List.{sum_by}
use Rattle.graph_types.specs.Graph.{is_kept}
use Rattle.sched_core.specs.declared.view.View.{View}
use Rattle.sched_core.specs.declared.view.View.TheVariants.{Ticket, Running}
use Rattle.sched_core.specs.declared.state.Core.{Core}
use Rattle.sched_core.specs.Core.{gone_of, halted_of, view_of}
use Rattle.sched_core.specs.Sound.{IsSound}

-- a seat that has drawn a place, and waits for its task or runs it
abbrev pub is_at_work : View → Bool
is_at_work (Ticket place) = true
is_at_work (Running task at due) = true
is_at_work view = false

-- where all tasks are done, the values that are home are those of the slots that are kept
abbrev pub DoneLeavesTheKept : Type 0
DoneLeavesTheKept = (c : Core) → IsSound c → c.done ≡ c.graph.tasks → (slot : ℕ) → slot < c.graph.slots → slice_index_or c.home slot false ≡ is_kept c.graph slot

-- where all places are drawn, no seat is at work and none halted, all tasks are done
abbrev pub DrawnIsDone : Type 0
DrawnIsDone = (c : Core) → IsSound c → c.graph.tasks ≤ c.head → All (λ view. is_at_work view ≡ false) c.views → sum_by halted_of c.views ≡ 0 → c.done ≡ c.graph.tasks

-- where one seat is closed with all others and each was gone, all tasks are done
abbrev pub AllGoneIsDone : Type 0
AllGoneIsDone = (c : Core) (seat : ℕ) → IsSound c → gone_of (view_of c seat) ≡ length c.views → c.done ≡ c.graph.tasks
