-- Where all places are drawn and no seat is at work or halted, all tasks are done.
use Rattle.std.proofs.Common.{◌≡◌, ◌≤◌, ◌<◌, ◌+◌, ℕ, Bool, true, false, cond, ◌⊎◌, inl, inr, List, length, ap, refl, arith}
use Rattle.std.specs.Prelude.{◌==◌, ◌&&◌, slice_index, slice_index_or}
use Rattle.std.specs.List.{count_by, sum_by}
use Rattle.std.proofs.lemmas.Bool.{false≢true, cases_lt, eq-eqb, and_from, and_parts, and_right}
use Rattle.std.proofs.lemmas.List.{get_or_past}
use Rattle.std.proofs.lemmas.List.Elements.{All-get_or}
use Rattle.std.proofs.lemmas.List.Sums.{sum_by-le-sum_by, get_or-le-sum_by}
use Rattle.graph_types.specs.Counting.{count_one, count_within}
use Rattle.graph_types.specs.Graph.{tasks_of}
use Rattle.sched_core.specs.declared.view.View.{View}
use Rattle.sched_core.specs.declared.view.View.TheVariants as view
use Rattle.sched_core.specs.declared.state.Core.{Core}
use Rattle.sched_core.specs.Core.{holds, holders, runs, runners, is_finished, gone_of, halted_of, seats_of, view_of}
use Rattle.sched_core.specs.Sound.{number_in, HasBegun, IsSound}
use Rattle.sched_core.specs.Ends.{is_at_work, DrawnIsDone, AllGoneIsDone}
use Rattle.sched_core.proofs.Lists.{number_le, each_below}
use Rattle.sched_core.proofs.Facts.{one_or_less, is_task}
use Rattle.sched_core.proofs.SoundSums.{sum_add, sum_swap, sum_less, sum_at_least, sum_front}
use Rattle.sched_core.proofs.EndsCounts.{counts_none}

held_works : (place : ℕ) (v : View) → holds place v ≡ true → is_at_work v ≡ true
held_works place (view.Ticket p) h = refl
held_works place (view.Running t at owed) h = refl
held_works place _ h = absurd (false≢true h)

run_works : (task : ℕ) (v : View) → runs task v ≡ true → is_at_work v ≡ true
run_works task (view.Ticket p) h = refl
run_works task (view.Running t at owed) h = refl
run_works task _ h = absurd (false≢true h)

less_at_work : (test : View → Bool) (views : List View) → ((v : View) → test v ≡ true → is_at_work v ≡ true) → count_by test views ≤ count_by is_at_work views
less_at_work test views works = sum_by-le-sum_by (λ v. cond (test v) 1 0) (λ v. cond (is_at_work v) 1 0) views (λ v. one_or_less (is_at_work v) (test v) (works v))

module _ (c : Core) (sound : IsSound c) (drawn : c.graph.tasks ≤ c.head) (idle : count_by is_at_work c.views ≡ 0) (none_halted : sum_by halted_of c.views ≡ 0) where
  abbrev finished : (task : ℕ) → Bool
  finished = is_finished c.published c.views

  no_holder : (place : ℕ) → holders c.views place ≡ 0
  no_holder place = omega (arith, less_at_work (holds place) c.views (held_works place), idle)

  no_runner : (task : ℕ) → runners c.views task ≡ 0
  no_runner task = omega (arith, less_at_work (runs task) c.views (run_works task), idle)

  published_is : (task : ℕ) → task < c.graph.tasks → 1 ≤ slice_index c.published task → slice_index c.published task ≡ 1
  published_is task lt some =
      omega (arith, some, All-get_or (λ word. word ≤ 1) c.published task 0 (omega (arith, lt, sound.shapes.published_length)) sound.shapes.published_words)

  is_done : (task : ℕ) → task < c.graph.tasks → 1 ≤ slice_index c.published task → finished task ≡ true
  is_done task lt some = and_from (slice_index c.published task == 1) (runners c.views task == 0) (eq-eqb _ _ (published_is task lt some)) (eq-eqb _ _ (no_runner task))

  -- how often a word of the ring stands for a finished task
  abbrev stands_for_finished : (word : ℕ) → ℕ
  stands_for_finished word = count_by (λ t. (word == t + 1) && finished t) (tasks_of c.graph)

  each_finished : (place : ℕ) → place < c.graph.tasks → 1 ≤ stands_for_finished (slice_index c.ring place)
  each_finished place lt = by_begun (sound.nothing_lost.begun place (omega (arith, lt, drawn)) lt) where
    by_begun : (1 ≤ holders c.views place) ⊎ (HasBegun (slice_index c.ring place) c.published (runners c.views) ⊎ (c.abort ≡ 1)) → 1 ≤ stands_for_finished (slice_index c.ring place)
    by_begun (inl held) = absurd (omega (arith, held, no_holder place))
    by_begun (inr (inr aborted)) = absurd (let halted = sound.nothing_lost.aborted.0 aborted in omega (arith, halted, none_halted))
    by_begun (inr (inl (task, is, some))) =
        let below = is_task c sound place task is in
        count_one (λ t. (slice_index c.ring place == t + 1) && finished t) c.graph.tasks task below
        (and_from (slice_index c.ring place == task + 1) (finished task) (eq-eqb _ _ is) (is_done task below (omega (arith, some, no_runner task))))

  -- a finished task stands in the ring once at most
  once_finished : (task : ℕ) → task < c.graph.tasks → count_by (λ word. (word == task + 1) && finished task) c.ring ≤ cond (finished task) 1 0
  once_finished task lt = by_test (finished task) where
    by_test : (is : Bool) → count_by (λ word. (word == task + 1) && is) c.ring ≤ cond is 1 0
    by_test true =
        let fewer : count_by (λ word. (word == task + 1) && true) c.ring ≤ number_in c.ring task =
        sum_by-le-sum_by (λ word. cond ((word == task + 1) && true) 1 0) (λ word. cond (word == task + 1) 1 0) c.ring (λ word. one_or_less (word == task + 1) ((word == task + 1) && true) (λ h. (and_parts (word == task + 1) true h).0)) in
        omega (arith, fewer, sound.ring.once task lt, number_le (slice_index c.dep task == 0))
    by_test false =
        let none : count_by (λ word. (word == task + 1) && false) c.ring ≡ 0 =
        counts_none (λ word. (word == task + 1) && false) c.ring (λ k d within. and_right (slice_index_or c.ring k d == task + 1) false refl) in
        omega (arith, none)

  counted : sum_by stands_for_finished c.ring ≤ count_by finished (tasks_of c.graph)
  counted =
      let swapped : sum_by stands_for_finished c.ring ≡ sum_by (λ t. count_by (λ word. (word == t + 1) && finished t) c.ring) (tasks_of c.graph) =
      sum_swap (λ word t. cond ((word == t + 1) && finished t) 1 0) c.ring (tasks_of c.graph) in
      let less =
      sum_less (λ t. count_by (λ word. (word == t + 1) && finished t) c.ring) (λ t. cond (finished t) 1 0) (tasks_of c.graph)
      (each_below (λ t. count_by (λ word. (word == t + 1) && finished t) c.ring ≤ cond (finished t) 1 0) c.graph.tasks once_finished) in
      omega (arith, swapped, less)

  done_all : c.done ≡ c.graph.tasks
  done_all =
      omega (
        arith,
        sum_at_least (λ p. stands_for_finished (slice_index c.ring p)) c.graph.tasks each_finished,
        sum_front stands_for_finished c.ring c.graph.tasks (omega (arith, sound.shapes.ring_length)),
        counted,
        count_within finished c.graph.tasks,
        sound.done.count,
      )

pub drawn_done : DrawnIsDone
drawn_done c sound drawn idle none_halted = done_all c sound drawn (counts_none is_at_work c.views idle) none_halted

-- a seat stands for those that were gone and those that halted, and for itself where it is at work
stands_for_more : (v : View) → gone_of v + (halted_of v + cond (is_at_work v) 1 0) ≤ seats_of v
stands_for_more (view.Ticket p) = omega arith
stands_for_more (view.Running t at owed) = omega arith
stands_for_more view.Gone = omega arith
stands_for_more view.Halted = omega arith
stands_for_more (view.Closing gone halted) = omega arith
stands_for_more view.Unmade = omega arith
stands_for_more view.Idle = omega arith
stands_for_more view.Spent = omega arith

pub all_gone_done : AllGoneIsDone
all_gone_done c seat sound all_gone = by_order (cases_lt seat (length c.views)) where
  by_order : (seat < length c.views) ⊎ (length c.views ≤ seat) → c.done ≡ c.graph.tasks
  by_order (inr past) =
      absurd (let none : gone_of (view_of c seat) ≡ 0 = ap gone_of (get_or_past c.views seat view.Spent past) in omega (arith, none, all_gone, sound.shapes.some_seat))
  by_order (inl within) = done_all c sound (omega (arith, sound.nothing_lost.ended (omega (arith, gone, sound.shapes.some_seat)))) (omega (arith, gone, fewer, parts, idle_part, sound.head.all)) (omega (arith, gone, fewer, parts, idle_part, sound.head.all)) where
    gone : length c.views ≤ sum_by gone_of c.views
    gone = omega (arith, get_or-le-sum_by gone_of c.views seat view.Spent within, all_gone)

    fewer : sum_by (λ v. gone_of v + (halted_of v + cond (is_at_work v) 1 0)) c.views ≤ sum_by seats_of c.views
    fewer = sum_by-le-sum_by (λ v. gone_of v + (halted_of v + cond (is_at_work v) 1 0)) seats_of c.views stands_for_more

    parts : sum_by (λ v. gone_of v + (halted_of v + cond (is_at_work v) 1 0)) c.views ≡ sum_by gone_of c.views + sum_by (λ v. halted_of v + cond (is_at_work v) 1 0) c.views
    parts = sum_add gone_of (λ v. halted_of v + cond (is_at_work v) 1 0) c.views

    idle_part : sum_by (λ v. halted_of v + cond (is_at_work v) 1 0) c.views ≡ sum_by halted_of c.views + count_by is_at_work c.views
    idle_part = sum_add halted_of (λ v. cond (is_at_work v) 1 0) c.views
