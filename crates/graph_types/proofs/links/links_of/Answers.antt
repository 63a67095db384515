use Rattle.std.proofs.Common.{◌≡◌, ◌∙◌, ◌≤◌, ◌+◌, ◌++◌, ◌∷◌, [], ℕ, cond, List, length, get_or, take, drop, ap, sym, subst, arith}
use Rattle.std.specs.List.{All}
use Rattle.std.proofs.lemmas.List.{take_at}
use Rattle.graph_types.specs.Graph.{has}
use Rattle.graph_types.proofs.Linking.{AreLinkedBefore, all_linked, few_leaders, linked_more, predecessors_before, predecessors_next}
use Rattle.graph_types.proofs.links.links_of.Goals as goal

pub returns-clause-successors : goal.returns-clause-successors
returns-clause-successors c =
    let g = c.args.g.now in
    let end : c.loop-task.task ≡ g.tasks = omega (arith, c.loop-task.auto.task-end, c.loop-task-test.false) in
    c.from_vec.ensures ∙ all_linked g c.loop-task.successors.items (subst (λ (n : ℕ). AreLinkedBefore g n c.loop-task.successors.items) end c.loop-task.invariant.successors)

pub overflow_cast-len : goal.overflow_cast-len
overflow_cast-len c =
    let few = few_leaders c.args.g.now c.loop-task.task c.in_ok-leaders.leaders.items c.requires.linkable.tasks c.in_ok-leaders.ensures.leaders in
    omega (arith, few, c.len.ensures, c.in_ok-leaders.leaders.ok.0)

pub loop-task-preserved : goal.loop-task-preserved
loop-task-preserved c =
    let g = c.args.g.now in
    let task = c.loop-task.task in
    let leaders = c.in_ok-leaders.leaders.items in
    let was : c.deref_mut.result.now ≡ c.loop-task.seen.items = c.deref_mut.ensures.value in
    let now = c.leaders_of.new.seen in
    let whole : take c.loop-task.seen.len (now ++ drop (length now) c.loop-task.seen.items) ≡ now =
    take_at now (drop (length now) c.loop-task.seen.items) c.loop-task.seen.len (c.leaders_of.auto.seen ∙ c.deref_mut.ensures.len) in
    record {
      seen = subst (λ (xs : List ℕ). All (λ m. m ≤ task + 1) xs) (sym whole) c.in_ok-leaders.ensures.seen;
      successors = linked_more g task leaders c.loop-task.successors.items c.follow.new.successors.items c.in_ok-leaders.ensures.leaders c.loop-task.invariant.successors
          c.in_ok-follow.ensures.size (λ first there.
          c.in_ok-follow.ensures.followed first there
          ∙ ap (λ (xs : List ℕ). get_or c.loop-task.successors.items first [] ++ cond (has xs first) (task ∷ []) []) c.deref.ensures.value);
      predecessors = c.in_ok-push.ensures.ok
          ∙ ap (λ (xs : List ℕ). xs ++ c.len.result ∷ []) c.loop-task.invariant.predecessors
          ∙ ap (λ (n : ℕ). predecessors_before g task ++ n ∷ []) (c.len.ensures ∙ sym c.deref.ensures.len ∙ ap length c.deref.ensures.value)
          ∙ sym (predecessors_next g task leaders c.in_ok-leaders.ensures.leaders);
    }
