-- Marks for patches, one after another and one test after another.
use Rattle.std.proofs.Common.{◌≡◌, ◌∙◌, ◌≤◌, ◌<◌, ◌+◌, ◌≢◌, ◌⊎◌, inl, inr, ℕ, zero, suc, List, Bool, true, false, length, get_or, take, ap, sym, refl, arith, subst, get_or-set_same, get_or-set_other}
use Rattle.std.specs.Prelude.{◌||◌, replicate, slice_set}
use Rattle.std.specs.List.{list_any}
use Rattle.std.proofs.Math.Nat.{eq-or-lt_of_le}
use Rattle.std.proofs.lemmas.List.{take_all}
use Rattle.std.proofs.lemmas.List.Folds.{list_any_more}
use Rattle.task_check.specs.Marks.{AreMarkedToo, is_marked}

or_none : (b : Bool) → (b || false) ≡ b
or_none true = refl
or_none false = refl

or_assoc : (a b c : Bool) → ((a || b) || c) ≡ (a || (b || c))
or_assoc true b c = refl
or_assoc false b c = refl

-- patch by patch: those before a place are marked too, and the rest are as they were
pub record AreMarkedBefore (before after : List Bool) (place : ℕ) (test : ℕ → Bool) : Type 0 where
  pub marked : AreMarkedToo before after place test
  pub rest : (patch : ℕ) → place ≤ patch → is_marked after patch ≡ is_marked before patch

pub none_marked : (before : List Bool) (test : ℕ → Bool) → AreMarkedBefore before before 0 test
none_marked before test = record { marked = λ patch below. absurd (omega arith); rest = λ patch from. refl }

pub one_marked : (before marks : List Bool) (place : ℕ) (test : ℕ → Bool) (met : Bool) → place < length marks → AreMarkedBefore before marks place test → met ≡ test place →
    AreMarkedBefore before (slice_set marks place (is_marked marks place || met)) (place + 1) test
one_marked before marks place test met room so_far is = record {
  marked = λ patch below. by_order patch (eq-or-lt_of_le (let le : patch ≤ place = omega arith in le));
  rest = λ patch from.
      let other : patch ≢ place = omega arith in
      get_or-set_other marks place patch (is_marked marks place || met) false other ∙ so_far.rest patch (omega arith);
}
  where
    by_order : (patch : ℕ) → (patch ≡ place) ⊎ (patch < place) → is_marked (slice_set marks place (is_marked marks place || met)) patch ≡ (is_marked before patch || test patch)
    by_order patch (inl here) = rw here (
        get_or-set_same marks place (is_marked marks place || met) false room
        ∙ ap (λ (b : Bool). b || met) (so_far.rest place (omega arith))
        ∙ ap (λ (b : Bool). is_marked before place || b) is)
    by_order patch (inr less) =
        let other : patch ≢ place = omega arith in
        get_or-set_other marks place patch (is_marked marks place || met) false other ∙ so_far.marked patch less

-- test by test
pub marked_alike : (before after : List Bool) (count : ℕ) (p q : ℕ → Bool) → ((patch : ℕ) → patch < count → p patch ≡ q patch) →
    AreMarkedToo before after count p → AreMarkedToo before after count q
marked_alike before after count p q same marked = λ patch below. marked patch below ∙ ap (λ (b : Bool). is_marked before patch || b) (same patch below)

module _ {X : Type 0} (test : ℕ → X → Bool) (before : List Bool) (count : ℕ) (xs ys : List X) (same : ys ≡ xs) (i : ℕ) where
  pub marked_more : (marks after : List Bool) (d : X) → i < length ys → AreMarkedToo before marks count (λ patch. list_any (test patch) (take i xs)) →
      AreMarkedToo marks after count (λ patch. test patch (get_or ys i d)) → AreMarkedToo before after count (λ patch. list_any (test patch) (take (i + 1) xs))
  marked_more marks after d below so_far here = λ patch within.
      let below_xs : i < length xs = subst (λ (zs : List X). i < length zs) same below in
      here patch within
      ∙ ap (λ (b : Bool). b || test patch (get_or ys i d)) (so_far patch within)
      ∙ or_assoc (is_marked before patch) (list_any (test patch) (take i xs)) (test patch (get_or ys i d))
      ∙ ap (λ (zs : List X). is_marked before patch || (list_any (test patch) (take i xs) || test patch (get_or zs i d))) same
      ∙ ap (λ (b : Bool). is_marked before patch || b) (sym (list_any_more (test patch) xs i d below_xs))

  pub marked_all : (marks : List Bool) → length ys ≤ i → AreMarkedToo before marks count (λ patch. list_any (test patch) (take i xs)) →
      AreMarkedToo before marks count (λ patch. list_any (test patch) xs)
  marked_all marks end marked = λ patch within.
      marked patch within
      ∙ ap (λ (zs : List X). is_marked before patch || list_any (test patch) zs) (take_all i xs (subst (λ (zs : List X). length zs ≤ i) same end))

pub unmarked : (n patch : ℕ) → is_marked (replicate n false) patch ≡ false
unmarked zero patch = refl
unmarked (suc n) zero = refl
unmarked (suc n) (suc patch) = unmarked n patch
