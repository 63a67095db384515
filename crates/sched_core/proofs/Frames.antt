-- Parts of the invariant that a step does not touch, since what they speak of is as it was.
use Rattle.std.proofs.Common.{◌≡◌, ◌∙◌, ◌≤◌, ◌<◌, ◌+◌, ◌⊎◌, ◌↔◌, inl, inr, ℕ, Bool, true, List, length, ap, sym, refl, subst, arith, length-set}
use Rattle.std.specs.Prelude.{◌||◌, nat_lt, slice_set, slice_index, All, IsTrue}
use Rattle.std.specs.List.{sum_by}
use Rattle.std.proofs.lemmas.List.Elements.{All-set}
use Rattle.graph_types.specs.declared.graph.Graph.{Graph}
use Rattle.graph_types.specs.Graph.{IsValid}
use Rattle.sched_core.specs.declared.act.Act.{Act}
use Rattle.sched_core.specs.declared.view.View.{View}
use Rattle.sched_core.specs.declared.state.Core.{Core}
use Rattle.sched_core.specs.Core.{holders, runners, number_at, number_behind, is_finished, is_behind, is_scrub, is_put_at, is_in_hand, is_anything, does_something, closes, publishes, lowers_use, lowers_successor, gone_of, halted_of, seats_of}
use Rattle.sched_core.specs.Sound.{is_in_shape, is_unwritten, Shapes, Tickets, Ring, Running, Dependencies, Uses, Slots, Done, Head, NothingLost, HasBegun, IsSound}

-- what holds of a function holds of one that is alike
pub along : {A B : Type 0} (P : (A → B) → Type 0) (f h : A → B) → ((a : A) → f a ≡ h a) → P f → P h
along P f h same = subst P (λ i a. same a i)

pub along2 : {A B C : Type 0} (P : (A → B → C) → Type 0) (f h : A → B → C) → ((a : A) (b : B) → f a b ≡ h a b) → P f → P h
along2 P f h same = subst P (λ i a b. same a b i)

-- no seat comes to owe a task to a place, to have one in hand, to close a slot or to scrub one, and none ceases to
pub record SameDues (g : Graph) (before after : List View) : Type 0 where
  pub put : (place : ℕ) (test : Act → Bool) → number_at g before (is_put_at place) test ≡ number_at g after (is_put_at place) test
  pub in_hand : (task : ℕ) → number_at g before is_in_hand (lowers_successor task) ≡ number_at g after is_in_hand (lowers_successor task)
  pub closing : (slot : ℕ) → number_at g before is_anything (closes slot) ≡ number_at g after is_anything (closes slot)
  pub scrubbing : (slot : ℕ) → number_at g before is_scrub (lowers_use slot) ≡ number_at g after is_scrub (lowers_use slot)

-- the same tasks are finished, and the others have the same behind them
pub record SameBehind (g : Graph) (published published' : List ℕ) (before after : List View) : Type 0 where
  pub finished : (task : ℕ) → is_finished published before task ≡ is_finished published' after task
  pub uses : (task slot : ℕ) → number_behind g before (lowers_use slot) task ≡ number_behind g after (lowers_use slot) task
  pub successors : (task successor : ℕ) → number_behind g before (lowers_successor successor) task ≡ number_behind g after (lowers_successor successor) task

pub ring_alike : (g : Graph) (tail : ℕ) (ring dep : List ℕ) (before after : List View) →
    ((place : ℕ) (test : Act → Bool) → number_at g before (is_put_at place) test ≡ number_at g after (is_put_at place) test) →
    ((task : ℕ) → number_at g before is_in_hand (lowers_successor task) ≡ number_at g after is_in_hand (lowers_successor task)) →
    Ring g tail ring dep (λ place. number_at g before (is_put_at place) does_something) (λ task. number_at g before is_in_hand (lowers_successor task)) (λ place task. number_at g before (is_put_at place) (lowers_successor task)) →
    Ring g tail ring dep (λ place. number_at g after (is_put_at place) does_something) (λ task. number_at g after is_in_hand (lowers_successor task)) (λ place task. number_at g after (is_put_at place) (lowers_successor task))
ring_alike g tail ring dep before after put hand h =
    let owing = λ (vs : List View) (place : ℕ). number_at g vs (is_put_at place) does_something in
    let in_hand = λ (vs : List View) (task : ℕ). number_at g vs is_in_hand (lowers_successor task) in
    let put_at = λ (vs : List View) (place task : ℕ). number_at g vs (is_put_at place) (lowers_successor task) in
    along2 (λ f. Ring g tail ring dep (owing after) (in_hand after) f) (put_at before) (put_at after) (λ place task. put place (lowers_successor task))
    (along (λ f. Ring g tail ring dep (owing after) f (put_at before)) (in_hand before) (in_hand after) hand
    (along (λ f. Ring g tail ring dep f (in_hand before) (put_at before)) (owing before) (owing after) (λ place. put place does_something) h))

pub ring_framed : (g : Graph) (tail : ℕ) (ring dep : List ℕ) (before after : List View) → SameDues g before after →
    Ring g tail ring dep (λ place. number_at g before (is_put_at place) does_something) (λ task. number_at g before is_in_hand (lowers_successor task)) (λ place task. number_at g before (is_put_at place) (lowers_successor task)) →
    Ring g tail ring dep (λ place. number_at g after (is_put_at place) does_something) (λ task. number_at g after is_in_hand (lowers_successor task)) (λ place task. number_at g after (is_put_at place) (lowers_successor task))
ring_framed g tail ring dep before after same h = ring_alike g tail ring dep before after same.put same.in_hand h

pub slots_alike : (g : Graph) (left turn : List ℕ) (home : List Bool) (unwritten : ℕ → Bool) (before after : List View) →
    ((slot : ℕ) → number_at g before is_anything (closes slot) ≡ number_at g after is_anything (closes slot)) →
    ((slot : ℕ) → number_at g before is_scrub (lowers_use slot) ≡ number_at g after is_scrub (lowers_use slot)) →
    Slots g left turn home unwritten (λ slot. number_at g before is_anything (closes slot)) (λ slot. number_at g before is_scrub (lowers_use slot)) →
    Slots g left turn home unwritten (λ slot. number_at g after is_anything (closes slot)) (λ slot. number_at g after is_scrub (lowers_use slot))
slots_alike g left turn home unwritten before after close scrub h =
    let closing = λ (vs : List View) (slot : ℕ). number_at g vs is_anything (closes slot) in
    let scrubbing = λ (vs : List View) (slot : ℕ). number_at g vs is_scrub (lowers_use slot) in
    along (λ f. Slots g left turn home unwritten (closing after) f) (scrubbing before) (scrubbing after) scrub
    (along (λ f. Slots g left turn home unwritten f (scrubbing before)) (closing before) (closing after) close h)

pub slots_framed : (g : Graph) (left turn : List ℕ) (home : List Bool) (unwritten : ℕ → Bool) (before after : List View) → SameDues g before after →
    Slots g left turn home unwritten (λ slot. number_at g before is_anything (closes slot)) (λ slot. number_at g before is_scrub (lowers_use slot)) →
    Slots g left turn home unwritten (λ slot. number_at g after is_anything (closes slot)) (λ slot. number_at g after is_scrub (lowers_use slot))
slots_framed g left turn home unwritten before after same h = slots_alike g left turn home unwritten before after same.closing same.scrubbing h

behind_alike : (a b : Bool) (m n : ℕ) → a ≡ b → m ≡ n → (a || nat_lt 0 m) ≡ (b || nat_lt 0 n)
behind_alike a b m n e f = ap (λ (x : Bool). x || nat_lt 0 m) e ∙ ap (λ (k : ℕ). b || nat_lt 0 k) f

module _ (g : Graph) (published published' : List ℕ) (before after : List View) (same : SameBehind g published published' before after) where
  pub dependencies_framed : (dep : List ℕ) →
      Dependencies g dep (λ task successor. is_behind g published before (lowers_successor successor) task) →
      Dependencies g dep (λ task successor. is_behind g published' after (lowers_successor successor) task)
  dependencies_framed dep h =
      along2 (λ f. Dependencies g dep f) (λ task successor. is_behind g published before (lowers_successor successor) task) (λ task successor. is_behind g published' after (lowers_successor successor) task)
      (λ task successor. behind_alike _ _ _ _ (same.finished task) (same.successors task successor)) h

  pub uses_framed : (left : List ℕ) →
      Uses g left (λ task slot. is_behind g published before (lowers_use slot) task) →
      Uses g left (λ task slot. is_behind g published' after (lowers_use slot) task)
  uses_framed left h =
      along2 (λ f. Uses g left f) (λ task slot. is_behind g published before (lowers_use slot) task) (λ task slot. is_behind g published' after (lowers_use slot) task)
      (λ task slot. behind_alike _ _ _ _ (same.finished task) (same.uses task slot)) h

  pub done_framed : (done : ℕ) → Done g done (is_finished published before) → Done g done (is_finished published' after)
  done_framed done h = along (λ f. Done g done f) (is_finished published before) (is_finished published' after) same.finished h

-- the views keep their shape with a new one among them
pub shapes_seat : (g : Graph) (ring dep published left turn : List ℕ) (home : List Bool) (abort : ℕ) (views : List View) (seat : ℕ) (new : View) →
    is_in_shape g new ≡ true → Shapes g ring dep published left turn home abort views → Shapes g ring dep published left turn home abort (slice_set views seat new)
shapes_seat g ring dep published left turn home abort views seat new fits h = record {
  ring_length = h.ring_length;
  dep_length = h.dep_length;
  published_length = h.published_length;
  left_length = h.left_length;
  turn_length = h.turn_length;
  home_length = h.home_length;
  some_seat = subst (λ (n : ℕ). 1 ≤ n) (sym (length-set views seat new)) h.some_seat;
  few_seats = subst (λ (n : ℕ). n ≤ 64) (sym (length-set views seat new)) h.few_seats;
  published_words = h.published_words;
  turn_words = h.turn_words;
  abort_word = h.abort_word;
  views_fit = All-set (λ (v : View). IsTrue (is_in_shape g v)) views seat new fits h.views_fit;
}

-- other lists of the same lengths, with words in their ranges
pub shapes_as : (c new : Core) (views : List View) →
    length new.ring ≡ length c.ring → length new.dep ≡ length c.dep → length new.published ≡ length c.published → length new.left ≡ length c.left → length new.turn ≡ length c.turn → length new.home ≡ length c.home →
    All (λ word. word ≤ 1) new.published → All (λ word. word ≤ 2) new.turn → new.abort ≤ 1 →
    Shapes c.graph c.ring c.dep c.published c.left c.turn c.home c.abort views → Shapes c.graph new.ring new.dep new.published new.left new.turn new.home new.abort views
shapes_as c new views ring dep published left turn home published_words turn_words abort_word h = record {
  ring_length = ring ∙ h.ring_length;
  dep_length = dep ∙ h.dep_length;
  published_length = published ∙ h.published_length;
  left_length = left ∙ h.left_length;
  turn_length = turn ∙ h.turn_length;
  home_length = home ∙ h.home_length;
  some_seat = h.some_seat;
  few_seats = h.few_seats;
  published_words = published_words;
  turn_words = turn_words;
  abort_word = abort_word;
  views_fit = h.views_fit;
}

-- The parts that speak of the graph and the slots.
pub record IsWorkSound (c : Core) (views : List View) : Type 0 where
  pub ring : Ring c.graph c.tail c.ring c.dep (λ place. number_at c.graph views (is_put_at place) does_something) (λ task. number_at c.graph views is_in_hand (lowers_successor task)) (λ place task. number_at c.graph views (is_put_at place) (lowers_successor task))
  pub dependencies : Dependencies c.graph c.dep (λ task successor. is_behind c.graph c.published views (lowers_successor successor) task)
  pub uses : Uses c.graph c.left (λ task slot. is_behind c.graph c.published views (lowers_use slot) task)
  pub slots : Slots c.graph c.left c.turn c.home (is_unwritten c.graph c.published) (λ slot. number_at c.graph views is_anything (closes slot)) (λ slot. number_at c.graph views is_scrub (lowers_use slot))
  pub done : Done c.graph c.done (is_finished c.published views)

pub work_framed : (c : Core) (before after : List View) → SameDues c.graph before after → SameBehind c.graph c.published c.published before after → IsWorkSound c before → IsWorkSound c after
work_framed c before after dues behind h = record {
  ring = ring_framed c.graph c.tail c.ring c.dep before after dues h.ring;
  dependencies = dependencies_framed c.graph c.published c.published before after behind c.dep h.dependencies;
  uses = uses_framed c.graph c.published c.published before after behind c.left h.uses;
  slots = slots_framed c.graph c.left c.turn c.home (is_unwritten c.graph c.published) before after dues h.slots;
  done = done_framed c.graph c.published c.published before after behind c.done h.done;
}

pub work_of : (c : Core) → IsSound c → IsWorkSound c c.views
work_of c h = record { ring = h.ring; dependencies = h.dependencies; uses = h.uses; slots = h.slots; done = h.done }

-- The parts that speak of seats and tasks.
pub record IsSeatSound (c : Core) (views : List View) : Type 0 where
  pub shapes : Shapes c.graph c.ring c.dep c.published c.left c.turn c.home c.abort views
  pub tickets : Tickets c.graph c.head (holders views)
  pub running : Running c.graph c.head c.ring c.published (holders views) (runners views) (number_behind c.graph views publishes)
  pub head : Head c.graph c.head (sum_by gone_of views) (sum_by seats_of views) (length views)
  pub nothing_lost : NothingLost c.graph c.head c.abort c.ring c.published (sum_by gone_of views) (sum_by halted_of views) (holders views) (runners views)

-- and all parts together
pub sound_of : (c : Core) (views : List View) → IsValid c.graph → IsWorkSound c views → IsSeatSound c views → IsSound (record c { views = views })
sound_of c views valid work seats = record {
  graph = valid;
  shapes = seats.shapes;
  tickets = seats.tickets;
  ring = work.ring;
  running = seats.running;
  dependencies = work.dependencies;
  uses = work.uses;
  slots = work.slots;
  done = work.done;
  head = seats.head;
  nothing_lost = seats.nothing_lost;
}

-- with other words that these parts do not speak of
pub work_as : (c : Core) (head abort : ℕ) (views : List View) → IsWorkSound c views → IsWorkSound (record c { head = head; abort = abort }) views
work_as c head abort views h = record { ring = h.ring; dependencies = h.dependencies; uses = h.uses; slots = h.slots; done = h.done }

pub seats_as : (c : Core) (tail : ℕ) (dep left turn : List ℕ) (home : List Bool) (views : List View) →
    length dep ≡ length c.dep → length left ≡ length c.left → length turn ≡ length c.turn → length home ≡ length c.home → All (λ word. word ≤ 2) turn →
    IsSeatSound c views → IsSeatSound (record c { tail = tail; dep = dep; left = left; turn = turn; home = home }) views
seats_as c tail dep left turn home views same_dep same_left same_turn same_home words h = record {
  shapes = shapes_as c (record c { dep = dep; left = left; turn = turn; home = home }) views refl same_dep refl same_left same_turn same_home h.shapes.published_words words h.shapes.abort_word h.shapes;
  tickets = h.tickets;
  running = h.running;
  head = h.head;
  nothing_lost = h.nothing_lost;
}

-- where tickets are no more than they were, they stay apart and for drawn places
pub fewer_tickets : (g : Graph) (head : ℕ) (tickets tickets' : ℕ → ℕ) → ((place : ℕ) → tickets' place ≤ tickets place) → Tickets g head tickets → Tickets g head tickets'
fewer_tickets g head tickets tickets' fewer h = record {
  below = λ place some. h.below place (omega (arith, fewer place, some));
  apart = λ place. omega (arith, fewer place, h.apart place);
}

-- the views stand for as many seats, and for as many that are gone
pub head_stays : (c : Core) (views : List View) → sum_by gone_of views ≡ sum_by gone_of c.views → sum_by seats_of views ≡ sum_by seats_of c.views → length views ≡ length c.views → IsSound c →
    Head c.graph c.head (sum_by gone_of views) (sum_by seats_of views) (length views)
head_stays c views gone seats number sound = record { drawn = omega (arith, gone, sound.head.drawn); all = seats ∙ (sound.head.all ∙ sym number) }

-- what was drawn is still in the hands of a seat, has begun, or was aborted
pub begun_still : (word abort : ℕ) (published published' : List ℕ) (tickets tickets' : ℕ) (runners runners' : ℕ → ℕ) →
    (1 ≤ tickets → 1 ≤ tickets') → ((task : ℕ) → word ≡ task + 1 → 1 ≤ runners task + slice_index published task → 1 ≤ runners' task + slice_index published' task) →
    (1 ≤ tickets) ⊎ (HasBegun word published runners ⊎ (abort ≡ 1)) → (1 ≤ tickets') ⊎ (HasBegun word published' runners' ⊎ (abort ≡ 1))
begun_still word abort published published' tickets tickets' runners runners' held ran (inl some) = inl (held some)
begun_still word abort published published' tickets tickets' runners runners' held ran (inr (inl (task, there, some))) = inr (inl (task, there, ran task there some))
begun_still word abort published published' tickets tickets' runners runners' held ran (inr (inr aborted)) = inr (inr aborted)

-- nothing is lost with views of as many seats that are gone and halted
pub lost_none : (c : Core) (views : List View) → sum_by gone_of views ≡ sum_by gone_of c.views → sum_by halted_of views ≡ sum_by halted_of c.views →
    ((place : ℕ) → place < c.head → place < c.graph.tasks → (1 ≤ holders views place) ⊎ (HasBegun (slice_index c.ring place) c.published (runners views) ⊎ (c.abort ≡ 1))) → IsSound c →
    NothingLost c.graph c.head c.abort c.ring c.published (sum_by gone_of views) (sum_by halted_of views) (holders views) (runners views)
lost_none c views gone halted begun sound = record {
  aborted = subst (λ (n : ℕ). (c.abort ≡ 1) ↔ (1 ≤ n)) (sym halted) sound.nothing_lost.aborted;
  ended = λ some. sound.nothing_lost.ended (omega (arith, gone));
  begun = begun;
}

-- what runs is as it was, and of what was drawn no ticket is held again
pub running_moved : (g : Graph) (head head' : ℕ) (ring published : List ℕ) (tickets tickets' runners runners' publishing publishing' : ℕ → ℕ) →
    head ≤ head' → ((place : ℕ) → place < head → tickets place ≡ 0 → tickets' place ≡ 0) → ((task : ℕ) → runners task ≡ runners' task) → ((task : ℕ) → publishing task ≡ publishing' task) →
    Running g head ring published tickets runners publishing → Running g head' ring published tickets' runners' publishing'
running_moved g head head' ring published tickets tickets' runners runners' publishing publishing' on none same told h = record {
  drawn = λ task below some.
      let was = h.drawn task below (subst (λ (n : ℕ). 1 ≤ n + slice_index published task) (sym (same task)) some) in
      (was.0, omega arith, was.2, none was.0 was.1 was.3);
  apart = λ task. subst (λ (n : ℕ). n ≤ 1) (same task) (h.apart task);
  told = λ task some. h.told task (subst (λ (n : ℕ). 1 ≤ n) (sym (same task)) some) ∙ told task;
}
