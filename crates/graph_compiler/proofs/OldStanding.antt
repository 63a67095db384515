-- Where old slots stand, by what is read before them.
use Rattle.std.proofs.Common.{◌≡◌, ◌∙◌, ◌<◌, ◌+◌, ℕ, zero, suc, List, [], ◌∷◌, ◌++◌, Bool, true, false, cond, Some, length, map, take, filter, ap, sym, refl, arith, subst}
use Rattle.std.specs.Prelude.{slice_get, slice_index}
use Rattle.std.specs.List.{count_by, flat_map}
use Rattle.std.proofs.lemmas.List.{get_or-map, length-map, take-append-le}
use Rattle.std.proofs.Math.Seq.{take-append-add}
use Rattle.std.proofs.lemmas.List.Sums.{sum_by-append, sum_by-cons}
use Rattle.std.proofs.lemmas.Option.{get_or_from_slice_get, slice_get_within}
use Rattle.uts_geom.specs.Spans.{counted}
use Rattle.uts_geom.specs.Counting.{counted-at, get_left, get_right, length-counted}
use Rattle.problem_types.specs.declared.problem.Problem.{Problem}
use Rattle.problem_types.specs.declared.problem.Task.{Task}
use Rattle.task_check.specs.Plan.{Slot as TaskSlot, details_of, is_read, old_numbers, old_variables, written_by}
use Rattle.graph_compiler.specs.Places.{AreOldSlots, StandsAt, marked_before, read_slots}
use Rattle.graph_compiler.specs.declared.old_slots.OldSlots.{OldSlots}

-- what passes stands behind those before it that pass
pub filter_place : {A : Type 0} (test : A → Bool) (xs : List A) (k : ℕ) (x : A) → slice_get xs k ≡ Some x → test x ≡ true → slice_get (filter test xs) (count_by test (take k xs)) ≡ Some x
filter_place test [] k x at passes = absurd cc
filter_place {A} test (z ∷ zs) zero x at passes =
    let same : x ≡ z = cc in
    ap (λ (b : Bool). slice_get (cond b (z ∷ filter test zs) (filter test zs)) 0) (ap test (sym same) ∙ passes) ∙ ap Some (sym same)
filter_place {A} test (z ∷ zs) (suc k) x at passes = by_test (test z) refl (filter_place test zs k x at passes)
  where
    by_test : (b : Bool) → test z ≡ b → slice_get (filter test zs) (count_by test (take k zs)) ≡ Some x → slice_get (filter test (z ∷ zs)) (count_by test (z ∷ take k zs)) ≡ Some x
    by_test true is rest =
        let one : cond {A = ℕ} (test z) 1 0 ≡ 1 = ap (λ (b : Bool). cond b 1 0) is in
        ap (λ (b : Bool). slice_get (cond b (z ∷ filter test zs) (filter test zs)) (count_by test (z ∷ take k zs))) is
        ∙ ap (slice_get (z ∷ filter test zs)) (let e : count_by test (z ∷ take k zs) ≡ suc (count_by test (take k zs)) = omega (arith, one, sum_by-cons (λ y. cond (test y) 1 0) z (take k zs)) in e)
        ∙ rest
    by_test false is rest =
        let none : cond {A = ℕ} (test z) 1 0 ≡ 0 = ap (λ (b : Bool). cond b 1 0) is in
        ap (λ (b : Bool). slice_get (cond b (z ∷ filter test zs) (filter test zs)) (count_by test (z ∷ take k zs))) is
        ∙ ap (slice_get (filter test zs)) (let e : count_by test (z ∷ take k zs) ≡ count_by test (take k zs) = omega (arith, none, sum_by-cons (λ y. cond (test y) 1 0) z (take k zs)) in e)
        ∙ rest

-- the marks of a list that are set are those of what passes
pub count_marks : {A : Type 0} (test : A → Bool) (xs : List A) → count_by (λ mark. mark) (map test xs) ≡ count_by test xs
count_marks test [] = refl
count_marks test (x ∷ xs) =
    sum_by-cons (λ mark. cond mark 1 0) (test x) (map test xs)
    ∙ ap (λ (n : ℕ). cond (test x) 1 0 + n) (count_marks test xs)
    ∙ sym (sum_by-cons (λ y. cond (test y) 1 0) x xs)

pub marks_before : {A : Type 0} (test : A → Bool) (xs : List A) (k : ℕ) → marked_before (map test xs) k ≡ count_by test (take k xs)
marks_before test xs zero = refl
marks_before test [] (suc k) = refl
marks_before test (x ∷ xs) (suc k) =
    sum_by-cons (λ mark. cond mark 1 0) (test x) (take k (map test xs))
    ∙ ap (λ (n : ℕ). cond (test x) 1 0 + n) (marks_before test xs k)
    ∙ sym (sum_by-cons (λ y. cond (test y) 1 0) x (take k xs))

module _ (p : Problem) (tasks : List Task) where
  abbrev might : List TaskSlot
  might = old_variables p ++ old_numbers p

  abbrev read : TaskSlot → Bool
  read s = is_read p tasks s

  -- an old slot stands behind those before it that are read
  old_stands : (k : ℕ) (s : TaskSlot) → slice_get might k ≡ Some s → read s ≡ true → StandsAt p tasks (count_by read (take k might)) s
  old_stands k s at is_read_here =
      let there = filter_place read might k s at is_read_here in
      get_left (filter read might) (flat_map (written_by tasks) (details_of p tasks)) (count_by read (take k might)) (slice_get_within (filter read might) (count_by read (take k might)) s there) ∙ there

  place_is : (more : ℕ) (xs : List TaskSlot) (marks : List Bool) (k : ℕ) → marks ≡ map read xs → k < length xs
      → slice_index (map (λ j. more + marked_before marks j) (counted 0 (length marks))) k ≡ more + count_by read (take k xs)
  place_is more xs marks k are below =
      let size : length marks ≡ length xs = ap length are ∙ length-map xs read in
      get_or-map (λ j. more + marked_before marks j) (counted 0 (length marks)) k 0 0 (omega (arith, below, size, length-counted 0 (length marks)))
      ∙ ap (λ (n : ℕ). more + marked_before marks n) (get_or_from_slice_get (counted 0 (length marks)) k k 0 (counted-at (length marks) k (omega (arith, below, size))))
      ∙ ap (λ (ms : List Bool). more + marked_before ms k) are
      ∙ ap (λ (n : ℕ). more + n) (marks_before read xs k)

  pub are_old_slots : (old : OldSlots) (variables numbers : List Bool) → variables ≡ map read (old_variables p) → numbers ≡ map read (old_numbers p) → old.slots ≡ read_slots p tasks
      → old.variables.items ≡ map (λ k. 0 + marked_before variables k) (counted 0 (length variables))
      → old.numbers.items ≡ map (λ k. count_by (λ mark. mark) variables + marked_before numbers k) (counted 0 (length numbers)) → AreOldSlots p tasks old
  are_old_slots old variables numbers variables_are numbers_are slots_are places_are number_places_are = record {
    slots = slots_are;
    variables = λ place s at reads.
        let below = slice_get_within (old_variables p) place s at in
        subst (λ (n : ℕ). StandsAt p tasks n s) (sym (
        ap (λ (xs : List ℕ). slice_index xs place) places_are
        ∙ place_is 0 (old_variables p) variables place variables_are below
        ∙ (let e : 0 + count_by read (take place (old_variables p)) ≡ count_by read (take place (old_variables p)) = omega arith in e)
        ∙ ap (count_by read) (sym (take-append-le place (old_variables p) (old_numbers p) (omega (arith, below))))))
        (old_stands place s (get_left (old_variables p) (old_numbers p) place below ∙ at) reads);
    variable_count = ap length places_are ∙ length-map (counted 0 (length variables)) (λ k. 0 + marked_before variables k) ∙ length-counted 0 (length variables) ∙ ap length variables_are ∙ length-map (old_variables p) read;
    numbers = λ place s at reads.
        let below = slice_get_within (old_numbers p) place s at in
        subst (λ (n : ℕ). StandsAt p tasks n s) (sym (
        ap (λ (xs : List ℕ). slice_index xs place) number_places_are
        ∙ place_is (count_by (λ mark. mark) variables) (old_numbers p) numbers place numbers_are below
        ∙ ap (λ (n : ℕ). n + count_by read (take place (old_numbers p))) (ap (count_by (λ mark. mark)) variables_are ∙ count_marks read (old_variables p))
        ∙ sym (sum_by-append (λ y. cond (read y) 1 0) (old_variables p) (take place (old_numbers p)))
        ∙ ap (count_by read) (sym (take-append-add (old_variables p) (old_numbers p) place))))
        (old_stands (length (old_variables p) + place) s (get_right (old_variables p) (old_numbers p) (length (old_variables p) + place) place refl ∙ at) reads);
    number_count = ap length number_places_are ∙ length-map (counted 0 (length numbers)) (λ k. count_by (λ mark. mark) variables + marked_before numbers k) ∙ length-counted 0 (length numbers) ∙ ap length numbers_are ∙ length-map (old_numbers p) read;
  }
