-- What steps keep.
use Rattle.std.specs.Prelude.{◌≡◌, ◌≤◌, ℕ, List, Some}
use Rattle.graph_types.specs.declared.graph.Graph.{Graph}
use Rattle.graph_types.specs.Graph.{IsValid}
use Rattle.sched_core.specs.declared.event.Kind.{Kind}
use Rattle.sched_core.specs.declared.event.Event.{Event}
use Rattle.sched_core.specs.declared.state.Core.{Core}
use Rattle.sched_core.specs.Start.{start}
use Rattle.sched_core.specs.Step.{next_by, states_after}
use Rattle.sched_core.specs.Sound.{IsSound}

-- a step of this kind leads from a sound state to a sound state
abbrev pub KeepsSound : Kind → Type 0
KeepsSound kind = (c new : Core) (seat : ℕ) → IsSound c → next_by c seat kind ≡ Some new → IsSound new

-- and so does each kind
abbrev pub EachKindKeepsSound : Type 0
EachKindKeepsSound = (kind : Kind) → KeepsSound kind

-- steps in any order lead from a sound state to a sound state; one that is not enabled changes nothing
abbrev pub StepsKeepSound : Type 0
StepsKeepSound = (c : Core) (events : List Event) → IsSound c → IsSound (states_after c events)

-- so what they reach from the start of a step is sound
abbrev pub ReachedAreSound : Type 0
ReachedAreSound = (g : Graph) (seats : ℕ) (events : List Event) → IsValid g → 1 ≤ seats → seats ≤ 64 → IsSound (states_after (start g seats) events)
