-- Sums over detailed tasks and over what they write, task by task.
use Rattle.std.proofs.Common.{◌≡◌, ◌∙◌, ◌≤◌, ◌<◌, ◌+◌, ℕ, zero, suc, List, [], ◌∷◌, ◌++◌, Bool, true, false, cond, Option, Some, None, length, map, take, ap, sym, refl, arith}
use Rattle.std.specs.Prelude.{slice_get, filter}
use Rattle.std.specs.List.{count_by, sum_by, flat_map}
use Rattle.std.specs.Option.{option_map_or}
use Rattle.std.proofs.lemmas.List.{take_all}
use Rattle.std.proofs.lemmas.List.Sums.{sum_by-append, sum_by_more}
use Rattle.std.proofs.lemmas.Option.{get_or_from_slice_get, slice_get_within}
use Rattle.uts_geom.specs.Spans.{counted}
use Rattle.uts_geom.specs.Counting.{at-counted, counted-at}
use Rattle.uts_geom.specs.Lists.{placed}
use Rattle.problem_types.specs.Lists.{is_reduces}
use Rattle.problem_types.specs.declared.problem.Problem.{Problem}
use Rattle.problem_types.specs.declared.problem.Task.{Task}
use Rattle.problem_types.specs.declared.problem.Write.{Write}
use Rattle.task_check.specs.Plan.{Detail, OnPatch, Combining, Slot, Number, patches_of, line_is, on_patches, combining, details_of, slot_written, written_by}
use Rattle.task_check.specs.PlanSums.{by_place}
use Rattle.task_check.proofs.Sums.{sum-same, sum-nothing, sum-flat_map, sum-map, sum-filter, sum-one, sum-counted_more, count-one}

-- Sums by place.

by_option : {X : Type 0} (f g : X → ℕ) (o : Option X) → ((x : X) → o ≡ Some x → f x ≡ g x) → option_map_or f o 0 ≡ option_map_or g o 0
by_option f g None same = refl
by_option f g (Some x) same = same x refl

pub by_place-same : {X : Type 0} (xs : List X) (f g : ℕ → X → ℕ) → ((k : ℕ) (x : X) → slice_get xs k ≡ Some x → f k x ≡ g k x) → by_place xs f ≡ by_place xs g
by_place-same xs f g same =
    sum-same (λ k. option_map_or (f k) (slice_get xs k) 0) (λ k. option_map_or (g k) (slice_get xs k) 0) (counted 0 (length xs))
    (λ i k at. by_option (f k) (g k) (slice_get xs k) (λ x there. same k x there))

none_of_option : {X : Type 0} (f : X → ℕ) (o : Option X) → ((x : X) → o ≡ Some x → f x ≡ 0) → option_map_or f o 0 ≡ 0
none_of_option f None none = refl
none_of_option f (Some x) none = none x refl

pub by_place-nothing : {X : Type 0} (xs : List X) (f : ℕ → X → ℕ) → ((k : ℕ) (x : X) → slice_get xs k ≡ Some x → f k x ≡ 0) → by_place xs f ≡ 0
by_place-nothing xs f none = sum-nothing (λ k. option_map_or (f k) (slice_get xs k) 0) (counted 0 (length xs))
    (λ i k at. none_of_option (f k) (slice_get xs k) (λ x there. none k x there))

-- a sum of one number for the one place that passes
pub by_place-one : {X : Type 0} (xs : List X) (p : ℕ → Bool) (f : ℕ → X → ℕ) (n : ℕ) → count_by p (counted 0 (length xs)) ≡ 1 →
    ((k : ℕ) (x : X) → slice_get xs k ≡ Some x → f k x ≡ cond (p k) n 0) → by_place xs f ≡ n
by_place-one xs p f n one each = sum-one p (λ k. option_map_or (f k) (slice_get xs k) 0) n (counted 0 (length xs)) one
    (λ i k at.
    let below = at-counted (length xs) i k at in
    let there = placed xs k (omega (arith, below.0, below.1)) in
    ap (λ o. option_map_or (f k) o 0) there.1 ∙ each k there.0 there.1)

-- a place that passes alone
pub count-one_place : {X : Type 0} (xs : List X) (p : ℕ → Bool) (k : ℕ) (x : X) → slice_get xs k ≡ Some x → p k ≡ true →
    ((j : ℕ) → p j ≡ true → j ≡ k) → count_by p (counted 0 (length xs)) ≡ 1
count-one_place xs p k x at passes only =
    count-one p (counted 0 (length xs)) k k (counted-at (length xs) k (slice_get_within xs k x at)) passes
    (λ j y there also. let same = at-counted (length xs) j y there in let here = only y also in omega (arith, same.0, here))

sum_to : {X : Type 0} (f : X → ℕ) (xs : List X) (n : ℕ) → n ≤ length xs → sum_by (λ k. option_map_or f (slice_get xs k) 0) (counted 0 n) ≡ sum_by f (take n xs)
sum_to f xs zero within = refl
sum_to f xs (suc n) within =
    let there = placed xs n (omega arith) in
    let below : n < length xs = omega arith in
    let plus : n + 1 ≡ suc n = omega arith in
    ap (λ m. sum_by (λ k. option_map_or f (slice_get xs k) 0) (counted 0 m)) (sym plus)
    ∙ sum-counted_more (λ k. option_map_or f (slice_get xs k) 0) n
    ∙ ap (λ m. m + option_map_or f (slice_get xs n) 0) (sum_to f xs n (omega arith))
    ∙ ap (λ o. sum_by f (take n xs) + option_map_or f o 0) there.1
    ∙ ap (λ y. sum_by f (take n xs) + f y) (sym (get_or_from_slice_get xs n there.0 there.0 there.1))
    ∙ sym (sum_by_more f xs n there.0 below)
    ∙ ap (λ m. sum_by f (take m xs)) plus

-- where the place does not count it is a sum over the list
pub by_place-sum : {X : Type 0} (f : X → ℕ) (xs : List X) → by_place xs (λ k x. f x) ≡ sum_by f xs
by_place-sum f xs = sum_to f xs (length xs) (omega arith) ∙ ap (sum_by f) (take_all (length xs) xs (omega arith))

pieces_of_option : {X A : Type 0} (f : A → ℕ) (g : X → List A) (o : Option X) → sum_by f (option_map_or g o []) ≡ option_map_or (λ x. sum_by f (g x)) o 0
pieces_of_option f g None = refl
pieces_of_option f g (Some x) = refl

pub sum-by_place : {X A : Type 0} (f : A → ℕ) (g : ℕ → X → List A) (xs : List X) →
    sum_by f (flat_map (λ k. option_map_or (g k) (slice_get xs k) []) (counted 0 (length xs))) ≡ by_place xs (λ k x. sum_by f (g k x))
sum-by_place f g xs =
    sum-flat_map f (λ k. option_map_or (g k) (slice_get xs k) []) (counted 0 (length xs))
    ∙ sum-same (λ k. sum_by f (option_map_or (g k) (slice_get xs k) [])) (λ k. option_map_or (λ x. sum_by f (g k x)) (slice_get xs k) 0) (counted 0 (length xs))
    (λ i k at. pieces_of_option f (g k) (slice_get xs k))

-- Detailed tasks.

pub sum-details : (f : Detail → ℕ) (p : Problem) (tasks : List Task) →
    sum_by f (details_of p tasks) ≡ by_place tasks (λ place t. sum_by f (on_patches p place t) + sum_by f (combining place t))
sum-details f p tasks =
    sum-by_place f (λ place t. on_patches p place t ++ combining place t) tasks
    ∙ by_place-same tasks (λ place t. sum_by f (on_patches p place t ++ combining place t)) (λ place t. sum_by f (on_patches p place t) + sum_by f (combining place t))
    (λ place t at. sum_by-append f (on_patches p place t) (combining place t))

pub sum-on_patches : (f : Detail → ℕ) (p : Problem) (place : ℕ) (t : Task) →
    sum_by f (on_patches p place t) ≡ sum_by (λ level. sum_by (λ material. sum_by (λ patch. f (OnPatch place level material patch)) (patches_of p level)) t.materials) t.levels
sum-on_patches f p place t =
    sum-flat_map f (λ level. flat_map (λ material. map (OnPatch place level material) (patches_of p level)) t.materials) t.levels
    ∙ sum-same (λ level. sum_by f (flat_map (λ material. map (OnPatch place level material) (patches_of p level)) t.materials))
    (λ level. sum_by (λ material. sum_by (λ patch. f (OnPatch place level material patch)) (patches_of p level)) t.materials) t.levels
    (λ i level at.
    sum-flat_map f (λ material. map (OnPatch place level material) (patches_of p level)) t.materials
    ∙ sum-same (λ material. sum_by f (map (OnPatch place level material) (patches_of p level)))
    (λ material. sum_by (λ patch. f (OnPatch place level material patch)) (patches_of p level)) t.materials
    (λ j material there. sum-map f (OnPatch place level material) (patches_of p level)))

line_of_option : {X : Type 0} (test : X → Bool) (n : ℕ) (o : Option X) → cond (option_map_or test o false) n 0 ≡ option_map_or (λ x. cond (test x) n 0) o 0
line_of_option test n None = refl
line_of_option test n (Some x) = refl

pub sum-combining : (f : Detail → ℕ) (place : ℕ) (t : Task) →
    sum_by f (combining place t) ≡ by_place t.writes (λ line w. cond (is_reduces w.kind) (f (Combining place line)) 0)
sum-combining f place t =
    sum-map f (Combining place) (filter (line_is t.writes (λ w. is_reduces w.kind)) (counted 0 (length t.writes)))
    ∙ sum-filter (λ line. f (Combining place line)) (line_is t.writes (λ w. is_reduces w.kind)) (counted 0 (length t.writes))
    ∙ sum-same (λ line. cond (line_is t.writes (λ w. is_reduces w.kind) line) (f (Combining place line)) 0)
    (λ line. option_map_or (λ (w : Write). cond (is_reduces w.kind) (f (Combining place line)) 0) (slice_get t.writes line) 0) (counted 0 (length t.writes))
    (λ i line at. line_of_option (λ (w : Write). is_reduces w.kind) (f (Combining place line)) (slice_get t.writes line))

-- What detailed tasks write.

sum-single : {X : Type 0} (f : X → ℕ) (x : X) → sum_by f (x ∷ []) ≡ f x
sum-single f x = let e : 0 + f x ≡ f x = omega arith in e

pub sum-written : (f : Slot → ℕ) (tasks : List Task) (place level material patch : ℕ) (t : Task) → slice_get tasks place ≡ Some t →
    sum_by f (written_by tasks (OnPatch place level material patch)) ≡ by_place t.writes (λ line w. f (slot_written w.kind place line level material patch))
sum-written f tasks place level material patch t at =
    ap (λ (o : Option Task). sum_by f (flat_map (λ line.
    option_map_or (λ (u : Task). option_map_or (λ (w : Write). slot_written w.kind place line level material patch ∷ []) (slice_get u.writes line) []) o [])
    (counted 0 (option_map_or (λ (u : Task). length u.writes) o 0)))) at
    ∙ sum-by_place f (λ line (w : Write). slot_written w.kind place line level material patch ∷ []) t.writes
    ∙ by_place-same t.writes (λ line (w : Write). sum_by f (slot_written w.kind place line level material patch ∷ []))
    (λ line (w : Write). f (slot_written w.kind place line level material patch))
    (λ line w there. sum-single f (slot_written w.kind place line level material patch))

-- what a task writes on patches, and what it combines
abbrev pub written_on_patches : (Slot → ℕ) → Problem → (place : ℕ) → Task → ℕ
written_on_patches f p place t = sum_by (λ level. sum_by (λ material. sum_by (λ patch.
    by_place t.writes (λ line w. f (slot_written w.kind place line level material patch))) (patches_of p level)) t.materials) t.levels

abbrev pub written_combined : (Slot → ℕ) → (place : ℕ) → Task → ℕ
written_combined f place t = by_place t.writes (λ line w. cond (is_reduces w.kind) (f (Number place line)) 0)

pub sum-all_written : (f : Slot → ℕ) (p : Problem) (tasks : List Task) →
    sum_by f (flat_map (written_by tasks) (details_of p tasks)) ≡ by_place tasks (λ place t. written_on_patches f p place t + written_combined f place t)
sum-all_written f p tasks =
    sum-flat_map f (written_by tasks) (details_of p tasks)
    ∙ sum-details (λ d. sum_by f (written_by tasks d)) p tasks
    ∙ by_place-same tasks
    (λ place t. sum_by (λ d. sum_by f (written_by tasks d)) (on_patches p place t) + sum_by (λ d. sum_by f (written_by tasks d)) (combining place t))
    (λ place t. written_on_patches f p place t + written_combined f place t)
    (λ place t at. ap (λ n. n + sum_by (λ d. sum_by f (written_by tasks d)) (combining place t)) (patches place t at)
    ∙ ap (λ n. written_on_patches f p place t + n) (combined place t))
  where
    patches : (place : ℕ) (t : Task) → slice_get tasks place ≡ Some t → sum_by (λ d. sum_by f (written_by tasks d)) (on_patches p place t) ≡ written_on_patches f p place t
    patches place t at =
        sum-on_patches (λ d. sum_by f (written_by tasks d)) p place t
        ∙ sum-same (λ level. sum_by (λ material. sum_by (λ patch. sum_by f (written_by tasks (OnPatch place level material patch))) (patches_of p level)) t.materials)
        (λ level. sum_by (λ material. sum_by (λ patch. by_place t.writes (λ line w. f (slot_written w.kind place line level material patch))) (patches_of p level)) t.materials) t.levels
        (λ i level here.
        sum-same (λ material. sum_by (λ patch. sum_by f (written_by tasks (OnPatch place level material patch))) (patches_of p level))
        (λ material. sum_by (λ patch. by_place t.writes (λ line w. f (slot_written w.kind place line level material patch))) (patches_of p level)) t.materials
        (λ j material there.
        sum-same (λ patch. sum_by f (written_by tasks (OnPatch place level material patch)))
        (λ patch. by_place t.writes (λ line w. f (slot_written w.kind place line level material patch))) (patches_of p level)
        (λ k patch on. sum-written f tasks place level material patch t at)))

    combined : (place : ℕ) (t : Task) → sum_by (λ d. sum_by f (written_by tasks d)) (combining place t) ≡ written_combined f place t
    combined place t =
        sum-combining (λ d. sum_by f (written_by tasks d)) place t
        ∙ by_place-same t.writes (λ line w. cond (is_reduces w.kind) (sum_by f (Number place line ∷ [])) 0) (λ line w. cond (is_reduces w.kind) (f (Number place line)) 0)
        (λ line w at. ap (λ n. cond (is_reduces w.kind) n 0) (sum-single f (Number place line)))
