-- The lines of a plan by their numbers.
use Rattle.std.proofs.Common.{◌≡◌, ◌∙◌, ℕ, zero, suc, ◌+◌, ◌<◌, List, [], ◌∷◌, ◌++◌, Option, Some, Result, length, get_or, take, ap, refl, sym, arith, zero-add}
use Rattle.std.specs.Prelude.{OnOk, slice_get}
use Rattle.std.specs.List.{enumerate_from}
use Rattle.std.proofs.lemmas.List.{append_assoc, get_or-map, length-append, length-map, take_more}
use Rattle.std.proofs.lemmas.List.FromFn.{get_or-enumerate_from, length-enumerate_from}
use Rattle.std.proofs.lemmas.Option.{get_or_from_slice_get, slice_get-get_or, slice_get_within}
use Rattle.std.proofs.lemmas.Result.{on_ok_weaker}
use Rattle.uts_geom.specs.Counting.{get_left, get_right}
use Rattle.problem_types.specs.declared.problem.Problem.{Problem}
use Rattle.graph_compiler.specs.declared.plan.ListKind.{ListKind}
use Rattle.graph_compiler.specs.declared.plan.Plan.{Plan}
use Rattle.graph_text.specs.Listing.{numbered, plan_line, plan_lines, slot_line, task_line}

-- ---- items with their numbers

pub length-numbered : {A B : Type 0} (of : ℕ → A → B) (items : List A) → length (numbered of items) ≡ length items
length-numbered of items = length-map (enumerate_from 0 items) (λ item. of item.0 item.1) ∙ length-enumerate_from 0 items

pub numbered_at : {A B : Type 0} (of : ℕ → A → B) (items : List A) (n : ℕ) (x : A) → slice_get items n ≡ Some x
    → slice_get (numbered of items) n ≡ Some (of n x)
numbered_at {A} {B} of items n x here =
    let below : n < length items = slice_get_within items n x here in
    let within : n < length (numbered of items) = omega (arith, length-numbered of items) in
    let there : n < length (enumerate_from 0 items) = omega (arith, length-enumerate_from 0 items) in
    let numbered_x : ℕ × A = (0, x) in
    let made : B = of n x in
    slice_get-get_or (numbered of items) n made within
    ∙ ap Some (get_or-map (λ item. of item.0 item.1) (enumerate_from 0 items) n numbered_x made there
    ∙ ap (λ (item : ℕ × A). of item.0 item.1) (get_or-enumerate_from 0 items n numbered_x below)
    ∙ ap (λ (k : ℕ). of k (get_or items n x)) (zero-add n)
    ∙ ap (of n) (get_or_from_slice_get items n x x here))

-- ---- the lines of a plan

module _ (p : Problem) (list : ListKind) (plan : Plan) where
  abbrev slot_lines : List (List ℕ)
  slot_lines = numbered (slot_line p plan.graph) plan.slots

  abbrev task_lines : List (List ℕ)
  task_lines = numbered (task_line p list plan.graph) plan.tasks

  pub length-plan_lines : length (plan_lines p list plan) ≡ 1 + length plan.slots + length plan.tasks
  unfolding plan_lines
  length-plan_lines = omega (
    arith,
    length-append slot_lines task_lines,
    length-numbered (slot_line p plan.graph) plan.slots,
    length-numbered (task_line p list plan.graph) plan.tasks,
  )

  pub at_plan : slice_get (plan_lines p list plan) 0 ≡ Some (plan_line list plan.graph)
  unfolding plan_lines
  at_plan = refl

  pub at_slot : (n : ℕ) → n < length plan.slots → slice_get (plan_lines p list plan) (suc n) ≡ slice_get slot_lines n
  unfolding plan_lines
  at_slot n below = get_left slot_lines task_lines n (omega (arith, length-numbered (slot_line p plan.graph) plan.slots))

  pub at_task : (n : ℕ) → slice_get (plan_lines p list plan) (suc (length plan.slots + n)) ≡ slice_get task_lines n
  unfolding plan_lines
  at_task n =
      get_right slot_lines task_lines (length plan.slots + n) n (omega (arith, length-numbered (slot_line p plan.graph) plan.slots))

-- ---- lines put behind others

pub put_next : (first before now all : List (List ℕ)) (n : ℕ) (line : List ℕ) → before ≡ first ++ take n all → now ≡ before ++ line ∷ []
    → slice_get all n ≡ Some line → now ≡ first ++ take (n + 1) all
put_next first before now all n line so_far put there =
    put
    ∙ ap (λ (lines : List (List ℕ)). lines ++ line ∷ []) so_far
    ∙ append_assoc first (take n all) (line ∷ [])
    ∙ ap (λ (last : List ℕ). first ++ (take n all ++ last ∷ [])) (sym (get_or_from_slice_get all n line line there))
    ∙ ap (λ (lines : List (List ℕ)). first ++ lines) (sym (take_more all n line (slice_get_within all n line there)))

-- ---- the line that a call put

pub four_behind : (old a b c d : List ℕ) → old ++ a ++ b ++ c ++ d ≡ old ++ (a ++ b ++ c ++ d)
four_behind old a b c d = simp append_assoc

module _ {T E : Type 0} where
  -- the line of an item, by its number
  pub put_numbered : {A : Type 0} (of : ℕ → A → List ℕ) (items : List A) (n : ℕ) (x : A) (r : Result T E) (line : List ℕ)
      → slice_get items n ≡ Some x → OnOk r (line ≡ of n x) → OnOk r (slice_get (numbered of items) n ≡ Some line)
  put_numbered of items n x r line here put =
      on_ok_weaker r (λ (is : line ≡ of n x). numbered_at of items n x here ∙ ap Some (sym is)) put

  -- the first line of a plan
  pub put_first : (p : Problem) (list : ListKind) (plan : Plan) (n : ℕ) (r : Result T E) (line : List ℕ)
      → n ≡ 0 → OnOk r (line ≡ plan_line list plan.graph) → OnOk r (slice_get (plan_lines p list plan) n ≡ Some line)
  put_first p list plan n r line first put =
      on_ok_weaker r (λ (is : line ≡ plan_line list plan.graph).
      ap (slice_get (plan_lines p list plan)) first ∙ at_plan p list plan ∙ ap Some (sym is)) put

  -- what stands at one place stands at another
  pub put_at : (all : List (List ℕ)) (n : ℕ) (r : Result T E) (line : List ℕ) {found : Option (List ℕ)}
      → slice_get all n ≡ found → OnOk r (found ≡ Some line) → OnOk r (slice_get all n ≡ Some line)
  put_at all n r line {found} same put = on_ok_weaker r (λ (is : found ≡ Some line). same ∙ is) put
