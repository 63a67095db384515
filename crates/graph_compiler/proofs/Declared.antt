-- The slots of a list are of variables and reductions that are declared.
use Rattle.std.proofs.Common.{◌≡◌, ◌∙◌, ◌<◌, inl, inr, ℕ, List, [], ◌∷◌, Bool, true, cond, Option, Some, None, length, map, get_or, ap, sym, arith, subst, ltb}
use Rattle.std.specs.Prelude.{slice_get, option_map, ◌==◌, find}
use Rattle.std.specs.List.{position, position_or_len}
use Rattle.std.specs.Option.{is_some, option_map_or}
use Rattle.std.proofs.lemmas.Bool.{cases_Bool, eqb-true, ltb-false, true≢false}
use Rattle.std.proofs.lemmas.List.{get_or-map, length-map}
use Rattle.std.proofs.lemmas.List.Elements.{All-contains}
use Rattle.std.proofs.lemmas.List.Folds.{find_at}
use Rattle.std.proofs.lemmas.List.Quantifiers.{position-Some}
use Rattle.std.proofs.lemmas.Option.{get_or_from_slice_get, same_Some, slice_get-get_or, slice_get-map, slice_get_past, slice_get_within}
use Rattle.uts_geom.specs.Lists.{all_at, placed}
use Rattle.problem_types.specs.Lists.{is_of_field, is_reduces, reduction_place, variable_place}
use Rattle.problem_types.specs.declared.problem.Problem.{Problem}
use Rattle.problem_types.specs.declared.problem.Reduction.{Reduction}
use Rattle.problem_types.specs.declared.problem.Task.{Task}
use Rattle.problem_types.specs.declared.problem.Var.{Var}
use Rattle.problem_types.specs.declared.problem.Write.{Write}
use Rattle.problem_types.specs.declared.problem.WriteKind.{WriteKind}
use Rattle.problem_types.specs.declared.problem.WriteKind.TheVariants as write
use Rattle.task_rules.specs.Names.{IsVariable, IsReduction, IsKnownAs, AreNamesKnown}
use Rattle.task_check.specs.Bounds.{AreBoundedTasks, IsBounded, IsBoundedTask}
use Rattle.task_check.specs.Plan.{Slot as TaskSlot, Old, OldNumber, New, Part, Number, old_numbers, slots_of}
use Rattle.graph_compiler.specs.Kept.{IsDeclared, IsOnGrid}
use Rattle.graph_compiler.specs.Kinds.{tasks_in}
use Rattle.graph_compiler.specs.Plan.{slots_of_list}
use Rattle.graph_compiler.specs.Shown.{of_line, shown_slot}
use Rattle.graph_compiler.specs.declared.plan.ListKind.{ListKind}
use Rattle.graph_compiler.specs.declared.plan.ListKind.TheVariants as list
use Rattle.graph_compiler.specs.declared.plan.Slot.{Slot}
use Rattle.graph_compiler.specs.Slots.{IsNumberOf, IsOfList, IsOnPatch}
use Rattle.graph_compiler.proofs.Standing.{slot_is_of_list}

-- the tasks of a list are bounded
pub bounded_list : (p : Problem) (l : ListKind) (tasks : List Task) → IsBounded p → tasks ≡ tasks_in p l → AreBoundedTasks p tasks
bounded_list p list.Init tasks limits is = subst (AreBoundedTasks p) (sym is) limits.init
bounded_list p list.Timestep tasks limits is = subst (AreBoundedTasks p) (sym is) limits.timestep

-- what is found stands at a place
pub found_place : {X : Type 0} (test : X → Bool) (xs : List X) → is_some (find test xs) ≡ true → position test xs ≡ None → ⊥
found_place test xs found none = elim (cases_Bool (ltb first (length xs))) [
  | inl within ↦ absurd (no_some (sym (ap (λ (b : Bool). cond b (Some first) None) within) ∙ none))
  | inr past ↦ absurd (true≢false (sym found ∙ ap is_some (find_at test xs ∙ slice_get_past xs first (ltb-false first (length xs) past))))
]
  where
    first : ℕ
    first = position_or_len test xs

    no_some : Some first ≡ None → ⊥
    no_some e = cc

-- what stands at the place of a name has the name
pub at_position : {X : Type 0} (name_of : X → ℕ) (name place : ℕ) (xs : List X) → position (λ x. name_of x == name) xs ≡ Some place
    → (x : X) × (slice_get xs place ≡ Some x) × (name_of x ≡ name)
at_position name_of name place [] is = absurd cc
at_position {X} name_of name place (z ∷ zs) is =
    let there = position-Some (λ x. name_of x == name) (z ∷ zs) place z is in
    (get_or (z ∷ zs) place z, slice_get-get_or (z ∷ zs) place z there.0, eqb-true (name_of (get_or (z ∷ zs) place z)) name there.1)

module _ (p : Problem) (limits : IsBounded p) (tasks : List Task) (bounded : AreBoundedTasks p tasks) where
  task_bounded : (task : ℕ) (t : Task) → slice_get tasks task ≡ Some t → IsBoundedTask p t
  task_bounded task t at = all_at (IsBoundedTask p) tasks task t at bounded.tasks

  known_as : (task line : ℕ) (t : Task) (w : Write) → slice_get tasks task ≡ Some t → slice_get t.writes line ≡ Some w → IsKnownAs p w.name w.kind
  known_as task line t w at there = (all_at (AreNamesKnown p) t.writes line w there (task_bounded task t at).names).0

  name_is : (task line : ℕ) (t : Task) (w : Write) → slice_get tasks task ≡ Some t → slice_get t.writes line ≡ Some w → of_line tasks task line (λ v. v.name) ≡ w.name
  name_is task line t w at there =
      ap (λ (o : Option Task). option_map_or (λ u. option_map_or (λ v. v.name) (slice_get u.writes line) 0) o 0) at
      ∙ ap (λ (o : Option Write). option_map_or (λ v. v.name) o 0) there

  of_field : (name : ℕ) (k : WriteKind) → is_of_field k ≡ true → IsKnownAs p name k → IsVariable p name
  of_field name write.Computes fits known = known
  of_field name write.Modifies fits known = known
  of_field name (write.Reduces c) fits known = absurd cc

  of_reduces : (name : ℕ) (k : WriteKind) → is_reduces k ≡ true → IsKnownAs p name k → IsReduction p name
  of_reduces name write.Computes fits known = absurd cc
  of_reduces name write.Modifies fits known = absurd cc
  of_reduces name (write.Reduces c) fits known = known

  on_grid : (task line level material patch : ℕ) → IsOnPatch p tasks task line level material patch is_of_field → IsOnGrid p (shown_slot tasks (New task line level material patch))
  on_grid task line level material patch here =
      let name = name_is task line here.t here.w here.task_at here.line_at in
      record {
        level = All-contains (λ l. l < length p.levels) here.t.levels level (task_bounded task here.t here.task_at).levels here.of_levels;
        material = All-contains (λ m. m < p.materials.value) here.t.materials material (task_bounded task here.t here.task_at).materials here.of_materials;
        patch = here.of_patches;
        declared = subst (IsVariable p) (sym name) (of_field here.w.name here.w.kind here.of_kind (known_as task line here.t here.w here.task_at here.line_at));
      }

  a_reduction : (task line : ℕ) → IsNumberOf tasks task line → IsReduction p (of_line tasks task line (λ v. v.name))
  a_reduction task line here =
      subst (IsReduction p) (sym (name_is task line here.t here.w here.task_at here.line_at)) (of_reduces here.w.name here.w.kind here.of_kind (known_as task line here.t here.w here.task_at here.line_at))

  by_slot : (s : TaskSlot) → IsOfList p tasks s → IsDeclared p (shown_slot tasks s).kind (shown_slot tasks s)
  by_slot (Old name level material patch) here = tt
  by_slot (OldNumber name) here = tt
  by_slot (New task line level material patch) here = on_grid task line level material patch here
  by_slot (Part task line level material patch) here = tt
  by_slot (Number task line) here = a_reduction task line here

  -- each slot of the list
  pub slot_declared : (place : ℕ) (s : Slot) → slice_get (slots_of_list p tasks) place ≡ Some s → IsDeclared p s.kind s
  slot_declared place s at =
      let below : place < length (slots_of p tasks) = omega (arith, slice_get_within (slots_of_list p tasks) place s at, length-map (slots_of p tasks) (shown_slot tasks)) in
      let raw = placed (slots_of p tasks) place below in
      let shown : shown_slot tasks raw.0 ≡ s = same_Some (shown_slot tasks raw.0) s (sym (slice_get-map (shown_slot tasks) (slots_of p tasks) place ∙ ap (option_map (shown_slot tasks)) raw.1) ∙ at) in
      subst (λ (x : Slot). IsDeclared p x.kind x) shown (by_slot raw.0 (slot_is_of_list p tasks place raw.0 raw.1))

-- a mark at the place of a slot is the slot's
pub mark_at : (test : TaskSlot → Bool) (olds : List TaskSlot) (marks : List Bool) (place : ℕ) (s : TaskSlot) (d : Bool) → marks ≡ map test olds → slice_get olds place ≡ Some s
    → (place < length marks) × (get_or marks place d ≡ test s)
mark_at test olds marks place s d are at =
    let below = slice_get_within olds place s at in (
      omega (arith, below, ap length are, length-map olds test),
      ap (λ (ms : List Bool). get_or ms place d) are ∙ get_or-map test olds place s d below ∙ ap test (get_or_from_slice_get olds place s s at),
    )

-- the places of declared names
pub variable_at : (p : Problem) (name place : ℕ) → variable_place p name ≡ Some place → (v : Var) × (slice_get p.vars place ≡ Some v) × (v.name ≡ name)
variable_at p name place is = at_position (λ (v : Var). v.name) name place p.vars is

pub number_at : (p : Problem) (name place : ℕ) → reduction_place p name ≡ Some place → slice_get (old_numbers p) place ≡ Some (OldNumber name)
number_at p name place is =
    let q = at_position (λ (r : Reduction). r.name) name place p.reductions is in
    slice_get-map (λ (r : Reduction). OldNumber r.name) p.reductions place ∙ ap (option_map (λ (r : Reduction). OldNumber r.name)) q.1 ∙ ap (λ (n : ℕ). Some (OldNumber n)) q.2
