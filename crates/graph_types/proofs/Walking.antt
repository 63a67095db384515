-- The rules of successors and predecessors, task by task.
use Rattle.std.proofs.Common.{◌≡◌, ◌∙◌, ◌≢◌, ℕ, ◌+◌, ◌<◌, ◌≤◌, Bool, true, cond, List, [], length, get_or, ap, sym, subst, arith}
use Rattle.std.specs.Prelude.{Some, replicate, slice_get}
use Rattle.std.specs.List.{All, count_by}
use Rattle.std.proofs.lemmas.Bool.{ne_eqb}
use Rattle.std.proofs.lemmas.List.{get_or-replicate, length-replicate}
use Rattle.std.proofs.lemmas.List.Elements.{All-from_get_or}
use Rattle.std.proofs.lemmas.List.Sums.{length-filter}
use Rattle.graph_types.specs.declared.graph.Graph.{Graph}
use Rattle.graph_types.specs.Counting.{all_has, count_alike, count_more, count_within, filter_at, filter_from, has_all, once_count}
use Rattle.graph_types.specs.Graph.{AreTasksOrdered, follows, has, successors_of, tasks_of}
use Rattle.graph_types.specs.Parts.{AreFollowersCounted, AreLeaders, AreNoted, IsTaskOrdered, followers_before}
use Rattle.graph_types.proofs.Writing.{IsRaised}

-- before any slot is looked at, nothing is noted
pub noted_none : (seen : List ℕ) (mark : ℕ) → All (λ m. m < mark) seen → AreNoted seen mark []
noted_none seen mark fresh = record {
  marks = λ k d below. (let less : get_or seen k d < mark = fresh k d below in omega arith);
  once = λ k below. absurd (omega arith);
  within = λ k d below. absurd (omega arith);
  marked = λ task there. (let other : get_or seen task 0 ≢ mark = (let less : get_or seen task 0 < mark = fresh task 0 there in omega arith) in sym (ne_eqb (get_or seen task 0) mark other));
}

-- ---- how many followers stand before a task

pub followers_none : (g : Graph) → AreFollowersCounted g 0 (replicate g.tasks 0)
followers_none g = record { size = length-replicate g.tasks 0; at = λ task there. get_or-replicate g.tasks task 0 0 there }

pub followers_few : (g : Graph) (before : ℕ) (counts : List ℕ) → before ≤ 65536 → AreFollowersCounted g before counts → All (λ n. n ≤ 65536) counts
followers_few g before counts few counted = All-from_get_or (λ n. n ≤ 65536) counts 0 (λ k there.
    omega (arith, counted.at k (omega (arith, counted.size)), count_within (follows g k) before))

pub followers_more : (g : Graph) (task : ℕ) (leaders old now : List ℕ) → AreLeaders g task leaders → AreFollowersCounted g task old → length now ≡ length old →
    IsRaised old now leaders → AreFollowersCounted g (task + 1) now
followers_more g task leaders old now led counted size raised = record {
  size = size ∙ counted.size;
  at = λ first there.
      raised first (omega (arith, counted.size))
      ∙ ap (λ (n : ℕ). n + cond (has leaders first) 1 0) (counted.at first there)
      ∙ ap (λ (b : Bool). followers_before g first task + cond b 1 0) (led.are first there)
      ∙ sym (count_more (follows g first) task);
}

-- ---- one task

pub count_of_leaders : (g : Graph) (task : ℕ) (leaders : List ℕ) → AreLeaders g task leaders → count_by (λ first. follows g first task) (tasks_of g) ≡ length leaders
count_of_leaders g task leaders led =
    count_alike (λ first. follows g first task) (has leaders) g.tasks (λ first there. sym (led.are first there)) ∙ once_count leaders g.tasks led.once led.within

module _ (g : Graph) (task : ℕ) (leaders before : List ℕ) (led : AreLeaders g task leaders) (counted : AreFollowersCounted g task before) where
  abbrev IsNext : ℕ → Type 0
  IsNext first = slice_get (successors_of g first) (get_or before first 0) ≡ Some task

  leads : (first : ℕ) → has leaders first ≡ true → (first < g.tasks) × (follows g first task ≡ true)
  leads first there = let within = has_all (λ p. p < g.tasks) leaders led.within first there in (within, sym (led.are first within) ∙ there)

  pub ordered_from : All (λ first. first < task) leaders → length leaders ≡ get_or g.predecessors task 0 → All IsNext leaders → IsTaskOrdered g task
  ordered_from behind many next = record {
    behind = λ first there follow. has_all (λ p. p < task) leaders behind first (led.are first there ∙ follow);
    predecessors = sym many ∙ sym (count_of_leaders g task leaders led);
    listed = λ first there follow.
        subst (λ (k : ℕ). slice_get (successors_of g first) k ≡ Some task) (counted.at first there)
        (has_all IsNext leaders next first (led.are first there ∙ follow));
  }

  pub behind_of : IsTaskOrdered g task → All (λ first. first < task) leaders
  behind_of ordered = all_has (λ p. p < task) leaders (λ first there. (let lead = leads first there in ordered.behind first lead.0 lead.1))

  pub many_of : IsTaskOrdered g task → length leaders ≡ get_or g.predecessors task 0
  many_of ordered = sym (count_of_leaders g task leaders led) ∙ sym ordered.predecessors

  pub next_of : IsTaskOrdered g task → All IsNext leaders
  next_of ordered = all_has IsNext leaders (λ first there. (let lead = leads first there in
      subst (λ (k : ℕ). slice_get (successors_of g first) k ≡ Some task) (sym (counted.at first lead.0)) (ordered.listed first lead.0 lead.1)))

-- ---- all tasks

pub task_of : (g : Graph) → AreTasksOrdered g → (task : ℕ) → task < g.tasks → IsTaskOrdered g task
task_of g ordered task there = record {
  behind = λ first here follow. ordered.forward first task here there follow;
  predecessors = ordered.predecessors task there;
  listed = λ first here follow.
      subst (λ (xs : List ℕ). slice_get xs (followers_before g first task) ≡ Some task) (sym (ordered.successors first here)) (filter_at (follows g first) g.tasks task there follow);
}

pub complete_of : (g : Graph) → AreTasksOrdered g → (task : ℕ) → task < g.tasks → length (successors_of g task) ≡ followers_before g task g.tasks
complete_of g ordered task there = ap length (ordered.successors task there) ∙ length-filter (follows g task) (tasks_of g)

pub tasks_from : (g : Graph) → ((task : ℕ) → task < g.tasks → IsTaskOrdered g task) →
    ((task : ℕ) → task < g.tasks → length (successors_of g task) ≡ followers_before g task g.tasks) → AreTasksOrdered g
tasks_from g each complete = record {
  successors = λ task there. filter_from (follows g task) g.tasks (successors_of g task) (λ d below follow. (each d below).listed task there follow) (complete task there);
  forward = λ first second here there follow. (each second there).behind first here follow;
  predecessors = λ task there. (each task there).predecessors;
}
