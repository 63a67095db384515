-- The parts of a reduction: one for each detailed task of its task on a patch.
use Rattle.std.proofs.Common.{◌≡◌, ◌∙◌, ◌+◌, ℕ, List, Bool, true, false, cond, Some, length, ap, sym, refl, arith, subst}
use Rattle.std.specs.Prelude.{slice_get, ◌==◌, ◌&&◌}
use Rattle.std.specs.List.{count_by, sum_by, flat_map}
use Rattle.std.proofs.lemmas.Bool.{eqb-true, eq-eqb}
use Rattle.std.proofs.lemmas.Option.{slice_get_within}
use Rattle.problem_types.specs.Lists.{is_reduces}
use Rattle.problem_types.specs.declared.problem.Problem.{Problem}
use Rattle.problem_types.specs.declared.problem.Task.{Task}
use Rattle.problem_types.specs.declared.problem.Write.{Write}
use Rattle.problem_types.specs.declared.problem.WriteKind.{WriteKind}
use Rattle.problem_types.specs.declared.problem.WriteKind.TheVariants as write
use Rattle.task_check.specs.Plan.{Slot, patches_of, on_patches, details_of, slot_written, written_by, is_part_of}
use Rattle.task_check.proofs.Sums.{sum-same, sum-constant}
use Rattle.task_check.proofs.AtPlaces.{count-counted}
use Rattle.task_check.proofs.PlanSums.{by_place-one, sum-on_patches, sum-all_written, written_on_patches, written_combined}
use Rattle.task_check.proofs.OldSlots.{nothing_written_on_patches, nothing_combined}

module _ (p : Problem) (tasks : List Task) (place line : ℕ) where
  abbrev parts : Slot → ℕ
  parts s = cond (is_part_of place line s) 1 0

  of_other_task : (k : ℕ) → (k == place) ≡ false → (kind : WriteKind) (at_line level material patch : ℕ) → parts (slot_written kind k at_line level material patch) ≡ 0
  of_other_task k other write.Computes at_line level material patch = refl
  of_other_task k other write.Modifies at_line level material patch = refl
  of_other_task k other (write.Reduces c) at_line level material patch = ap (λ (b : Bool). cond (b && (at_line == line)) 1 0) other

  of_other_line : (at_line : ℕ) → (at_line == line) ≡ false → (kind : WriteKind) (level material patch : ℕ) → parts (slot_written kind place at_line level material patch) ≡ 0
  of_other_line at_line other write.Computes level material patch = refl
  of_other_line at_line other write.Modifies level material patch = refl
  of_other_line at_line other (write.Reduces c) level material patch =
      ap (λ (b : Bool). cond (b && (at_line == line)) 1 0) (eq-eqb place place refl) ∙ ap (λ (b : Bool). cond b 1 0) other

  of_the_line : (at_line : ℕ) → (at_line == line) ≡ true → (kind : WriteKind) (level material patch : ℕ) → is_reduces kind ≡ true →
      parts (slot_written kind place at_line level material patch) ≡ 1
  of_the_line at_line same write.Computes level material patch reducing = absurd cc
  of_the_line at_line same write.Modifies level material patch reducing = absurd cc
  of_the_line at_line same (write.Reduces c) level material patch reducing =
      ap (λ (b : Bool). cond (b && (at_line == line)) 1 0) (eq-eqb place place refl) ∙ ap (λ (b : Bool). cond b 1 0) same

  module _ (t : Task) (w : Write) (at : slice_get tasks place ≡ Some t) (at_line : slice_get t.writes line ≡ Some w) (reducing : is_reduces w.kind ≡ true) where
    one_of_line : (level material patch k : ℕ) (v : Write) → slice_get t.writes k ≡ Some v → parts (slot_written v.kind place k level material patch) ≡ cond (k == line) 1 0
    one_of_line level material patch k v there = by_line (k == line) refl
      where
        by_line : (b : Bool) → (k == line) ≡ b → parts (slot_written v.kind place k level material patch) ≡ cond b 1 0
        by_line false other = of_other_line k other v.kind level material patch
        by_line true same = of_the_line k same v.kind level material patch
            (let e : k ≡ line = eqb-true k line same in
            let found : slice_get t.writes line ≡ Some v = subst (λ n. slice_get t.writes n ≡ Some v) e there in
            let alike : w ≡ v = cc in
            subst (λ (u : Write). is_reduces u.kind ≡ true) alike reducing)

    of_the_task : written_on_patches parts p place t ≡ length (on_patches p place t)
    of_the_task =
        sum-same _ (λ level. sum_by (λ material. sum_by (λ patch. 1) (patches_of p level)) t.materials) t.levels
        (λ i level here. sum-same _ (λ material. sum_by (λ patch. 1) (patches_of p level)) t.materials
        (λ j material there. sum-same _ (λ patch. 1) (patches_of p level)
        (λ h patch on. by_place-one t.writes (λ k. k == line) (λ k v. parts (slot_written v.kind place k level material patch)) 1
        (count-counted (length t.writes) line (slice_get_within t.writes line w at_line)) (one_of_line level material patch))))
        ∙ sym (sum-on_patches (λ d. 1) p place t)
        ∙ sum-constant 1 (on_patches p place t)
        ∙ omega arith

    pub parts_once : count_by (is_part_of place line) (flat_map (written_by tasks) (details_of p tasks)) ≡ length (on_patches p place t)
    parts_once =
        sum-all_written parts p tasks
        ∙ by_place-one tasks (λ k. k == place) (λ k u. written_on_patches parts p k u + written_combined parts k u) (length (on_patches p place t))
        (count-counted (length tasks) place (slice_get_within tasks place t at))
        (λ k u there. omega (arith, nothing_combined parts k u (λ i. refl), by_task k u there (k == place) refl))
      where
        by_task : (k : ℕ) (u : Task) → slice_get tasks k ≡ Some u → (b : Bool) → (k == place) ≡ b →
            written_on_patches parts p k u ≡ cond (k == place) (length (on_patches p place t)) 0
        by_task k u there false other =
            nothing_written_on_patches parts p k u (λ i v level material patch at_i. of_other_task k other v.kind i level material patch)
            ∙ ap (λ (b : Bool). cond b (length (on_patches p place t)) 0) (sym other)
        by_task k u there true same =
            let e : place ≡ k = sym (eqb-true k place same) in
            let found : slice_get tasks place ≡ Some u = subst (λ n. slice_get tasks n ≡ Some u) (sym e) there in
            let alike : t ≡ u = cc in
            subst (λ n. written_on_patches parts p n u ≡ length (on_patches p place t)) e
            (subst (λ (s : Task). written_on_patches parts p place s ≡ length (on_patches p place t)) alike of_the_task)
            ∙ ap (λ (b : Bool). cond b (length (on_patches p place t)) 0) (sym same)
