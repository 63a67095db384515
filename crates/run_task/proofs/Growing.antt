-- What holds of the items of two lists side by side holds with one item more, and nothing is seen at first.
use Rattle.std.proofs.Common.{◌≡◌, ℕ, zero, suc, List, [], ◌∷◌, ◌++◌, length, Some, subst, arith, length-append}
use Rattle.std.specs.Prelude.{Contains, slice_get}
use Rattle.problem_types.specs.declared.problem.Problem.{Problem}
use Rattle.problem_types.specs.declared.problem.Require.{Require}
use Rattle.problem_types.specs.declared.problem.Task.{Task}
use Rattle.problem_types.specs.declared.problem.Write.{Write}
use Rattle.task_check.specs.Plan.{Slot}
use Rattle.field_box.specs.declared.value.Value.{Value}
use Rattle.kernel_eval.specs.declared.part.Part.{Part}
use Rattle.kernel_eval.specs.declared.windows.Given.{Given}
use Rattle.run_task.specs.Gathered.{AreGiven, AreParts, AreRoomFor, IsGivenFor, IsPartOf, IsRoomFor, HasSeen}
use Rattle.run_task.specs.declared.work.Site.{Site}

paired_more : {A B : Type 0} (P : A → B → Type 0) (xs : List A) (ys : List B) (x : A) (y : B) → length ys ≡ length xs →
    ((k : ℕ) (a : A) (b : B) → slice_get xs k ≡ Some a → slice_get ys k ≡ Some b → P a b) → P x y →
    (k : ℕ) (a : A) (b : B) → slice_get (xs ++ x ∷ []) k ≡ Some a → slice_get (ys ++ y ∷ []) k ≡ Some b → P a b
paired_more P [] [] x y many each one zero a b at_a at_b =
    let same_a : x ≡ a = cc in
    let same_b : y ≡ b = cc in
    subst (λ v. P v b) same_a (subst (λ v. P x v) same_b one)
paired_more P [] [] x y many each one (suc k) a b at_a at_b = absurd (cc)
paired_more P [] (v ∷ ys) x y many each one k a b at_a at_b = absurd (omega (arith, many))
paired_more P (u ∷ xs) [] x y many each one k a b at_a at_b = absurd (omega (arith, many))
paired_more P (u ∷ xs) (v ∷ ys) x y many each one zero a b at_a at_b = each zero a b at_a at_b
paired_more P (u ∷ xs) (v ∷ ys) x y many each one (suc k) a b at_a at_b =
    paired_more P xs ys x y (omega (arith, many)) (λ j. each (suc j)) one k a b at_a at_b

as_many : {A B : Type 0} (xs : List A) (ys : List B) (x : A) (y : B) → length ys ≡ length xs → length (ys ++ y ∷ []) ≡ length (xs ++ x ∷ [])
as_many xs ys x y many = omega (arith, length-append xs (x ∷ []), length-append ys (y ∷ []), many)

none_seen : (s : Slot) → Contains [] s → ⊥
none_seen s (k, below, here) = omega (arith, below)

pub parts_more : (p : Problem) (t : Task) (site : Site) (before : List Require) (parts : List Part) (r : Require) (part : Part) → IsPartOf p t site r part →
    AreParts p t site [] before parts → AreParts p t site [] (before ++ r ∷ []) (parts ++ part ∷ [])
parts_more p t site before parts r part is are = record {
  many = as_many before parts r part are.many;
  each =
      paired_more (λ r part. IsPartOf p t site r part × HasSeen p site [] r part) before parts r part are.many are.each
      (is, λ s i has. absurd (none_seen s has));
}

pub given_more : (p : Problem) (site : Site) (before : List Require) (numbers : List Given) (r : Require) (given : Given) → IsGivenFor p site [] r given →
    AreGiven p site [] before numbers → AreGiven p site [] (before ++ r ∷ []) (numbers ++ given ∷ [])
given_more p site before numbers r given is are = record {
  many = as_many before numbers r given are.many;
  each = paired_more (IsGivenFor p site []) before numbers r given are.many are.each is;
}

pub not_given_yet : (p : Problem) (site : Site) (s : Slot) {T : Type 0} → Contains [] s → T
not_given_yet p site s has = absurd (none_seen s has)

pub room_more : (p : Problem) (site : Site) (before : List Write) (outputs : List Value) (w : Write) (made : Value) → IsRoomFor p site w made →
    AreRoomFor p site before outputs → AreRoomFor p site (before ++ w ∷ []) (outputs ++ made ∷ [])
room_more p site before outputs w made is are = record {
  many = as_many before outputs w made are.many;
  each = paired_more (IsRoomFor p site) before outputs w made are.many are.each is;
}
