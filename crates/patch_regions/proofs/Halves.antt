-- A level of two patches is tiled.
use Rattle.std.proofs.Common.{◌≡◌, ◌∙◌, ◌<◌, ◌≤◌, ◌⊎◌, inl, inr, ℕ, zero, suc, ℤ, pos, Bool, true, false, List, [], ◌∷◌, length, map, ap, refl, sym, subst, arith}
use Rattle.std.specs.Prelude.{◌||◌, IsTrue, Any, All, AllPairs, int_lt}
use Rattle.std.specs.List.{list_any}
use Rattle.std.proofs.lemmas.Bool.{cases_Bool}
use Rattle.std.proofs.lemmas.Int.{ints}
use Rattle.std.proofs.lemmas.List.Elements.{All-cons, All-nil, All-same}
use Rattle.uts_geom.specs.Spans.{is_between, is_inside}
use Rattle.uts_geom.specs.declared.centring.Centring.TheVariants.{Cell}
use Rattle.uts_geom.specs.declared.index.Index.{Index}
use Rattle.problem_types.specs.Levels.{IsProper, IsTiled, LiesIn, AreApart, HasNearBounds, KeepsGridLimits, cells_of}
use Rattle.problem_types.specs.Regions.{space_of}
use Rattle.problem_types.specs.declared.problem.BoxLine.{BoxLine}
use Rattle.problem_types.specs.declared.problem.Level.{Level}
use Rattle.uts_geom.specs.Axes.{by_axes, inside_from_axes}

abbrev along_x : ℕ → ℕ → ℕ → BoxLine
along_x line from to = record { line = line; lo = from ∷ 0 ∷ 0 ∷ []; hi = to ∷ 1 ∷ 1 ∷ [] }

proper : (line from to : ℕ) → from < to → IsProper (along_x line from to)
proper line from to some zero below = some
proper line from to some (suc zero) below = omega arith
proper line from to some (suc (suc zero)) below = omega arith
proper line from to some (suc (suc (suc axis))) below = absurd (omega arith)

near : (line from to : ℕ) → from ≤ 4096 → to ≤ 4096 → HasNearBounds (along_x line from to)
near line from to low high zero below = (low, high)
near line from to low high (suc zero) below = (omega arith, omega arith)
near line from to low high (suc (suc zero)) below = (omega arith, omega arith)
near line from to low high (suc (suc (suc axis))) below = absurd (omega arith)

lies : (line other from to high : ℕ) → to ≤ high → LiesIn (cells_of (along_x line from to)) (cells_of (along_x other 0 high))
lies line other from to high below i of =
    let at = by_axes (cells_of (along_x line from to)) i of in
    let on_x = at.x in
    inside_from_axes (cells_of (along_x other 0 high)) i (record { x = grind (arith, ints); y = at.y; z = at.z })

apart : AreApart (cells_of (along_x 3 0 2)) (cells_of (along_x 4 2 4))
apart i first second =
    let left = (by_axes (cells_of (along_x 3 0 2)) i first).x in
    let right = (by_axes (cells_of (along_x 4 2 4)) i second).x in
    clash i.x left right
  where
    clash : (n : ℤ) → is_between (pos 0) (pos 2) n ≡ true → is_between (pos 2) (pos 4) n ≡ true → ⊥
    clash n left right = grind (arith, ints)

pairs_apart : AllPairs (λ q r. AreApart (cells_of q) (cells_of r)) (along_x 3 0 2 ∷ along_x 4 2 4 ∷ [])
pairs_apart zero (suc zero) d before below = apart
pairs_apart zero zero d before below = absurd (omega arith)
pairs_apart (suc i) zero d before below = absurd (omega arith)
pairs_apart (suc i) (suc zero) d before below = absurd (omega arith)
pairs_apart i (suc (suc j)) d before below = absurd (omega arith)

filled : (i : Index) → is_inside (cells_of (along_x 2 0 4)) i ≡ true →
    Any (λ q. IsTrue (is_inside (cells_of q) i)) (along_x 3 0 2 ∷ along_x 4 2 4 ∷ [])
filled i on = by_half (cases_Bool (int_lt i.x (pos 2))) (by_axes (cells_of (along_x 2 0 4)) i on).x
  where
    lower : (n : ℤ) → int_lt n (pos 2) ≡ true → is_between (pos 0) (pos 4) n ≡ true → is_between (pos 0) (pos 2) n ≡ true
    lower n less on_x = grind (arith, ints)

    upper : (n : ℤ) → int_lt n (pos 2) ≡ false → is_between (pos 0) (pos 4) n ≡ true → is_between (pos 2) (pos 4) n ≡ true
    upper n less on_x = grind (arith, ints)

    by_half : (int_lt i.x (pos 2) ≡ true) ⊎ (int_lt i.x (pos 2) ≡ false) → is_between (pos 0) (pos 4) i.x ≡ true →
        Any (λ q. IsTrue (is_inside (cells_of q) i)) (along_x 3 0 2 ∷ along_x 4 2 4 ∷ [])
    by_half (inl less) on_x =
        let at = by_axes (cells_of (along_x 2 0 4)) i on in
        (0, along_x 3 0 2, omega arith, refl, inside_from_axes (cells_of (along_x 3 0 2)) i (record { x = lower i.x less on_x; y = at.y; z = at.z }))
    by_half (inr more) on_x =
        let at = by_axes (cells_of (along_x 2 0 4)) i on in
        (1, along_x 4 2 4, omega arith, refl, inside_from_axes (cells_of (along_x 4 2 4)) i (record { x = upper i.x more on_x; y = at.y; z = at.z }))

all_of_one : (P : BoxLine → Type 0) (xs : List BoxLine) (q : BoxLine) → xs ≡ q ∷ [] → P q → All P xs
all_of_one P xs q is holds = All-same P xs (q ∷ []) is (All-cons P q [] holds (All-nil P))

all_of_two : (P : BoxLine → Type 0) (xs : List BoxLine) (q r : BoxLine) → xs ≡ q ∷ r ∷ [] → P q → P r → All P xs
all_of_two P xs q r is first second = All-same P xs (q ∷ r ∷ []) is (All-cons P q (r ∷ []) first (All-cons P r [] second (All-nil P)))

or_false : (t : Bool) → (t || false) ≡ t
or_false true = refl
or_false false = refl

-- the index space of a level of one box
on_one : (bs : List BoxLine) (b : BoxLine) (i : Index) → bs ≡ b ∷ [] → list_any (λ s. is_inside s i) (map (space_of Cell) bs) ≡ is_inside (space_of Cell b) i
on_one bs b i same = ap (λ (xs : List BoxLine). list_any (λ s. is_inside s i) (map (space_of Cell) xs)) same ∙ or_false (is_inside (space_of Cell b) i)

pub halves_tiled : (l : Level) → l.boxes ≡ along_x 2 0 4 ∷ [] → l.patches ≡ along_x 3 0 2 ∷ along_x 4 2 4 ∷ [] → IsTiled l
halves_tiled l box patches =
    let In : BoxLine → Type 0 = λ q. Any (λ b. LiesIn (cells_of q) (cells_of b)) l.boxes in
    let lies_in = λ (q : BoxLine) (h : LiesIn (cells_of q) (cells_of (along_x 2 0 4))).
    subst (λ (bs : List BoxLine). Any (λ b. LiesIn (cells_of q) (cells_of b)) bs) (sym box) (0, along_x 2 0 4, omega arith, refl, h) in
    record {
      boxes = all_of_one IsProper l.boxes (along_x 2 0 4) box (proper 2 0 4 (omega arith));
      patches = all_of_two IsProper l.patches (along_x 3 0 2) (along_x 4 2 4) patches (proper 3 0 2 (omega arith)) (proper 4 2 4 (omega arith));
      inside = all_of_two In l.patches (along_x 3 0 2) (along_x 4 2 4) patches
          (lies_in (along_x 3 0 2) (lies 3 2 0 2 4 (omega arith))) (lies_in (along_x 4 2 4) (lies 4 2 2 4 4 (omega arith)));
      apart = subst (λ (qs : List BoxLine). AllPairs (λ q r. AreApart (cells_of q) (cells_of r)) qs) (sym patches) pairs_apart;
      filled = λ i on. subst (λ (qs : List BoxLine). Any (λ q. IsTrue (is_inside (cells_of q) i)) qs) (sym patches)
          (filled i (sym (on_one l.boxes (along_x 2 0 4) i box) ∙ on));
    }

pub halves_limits : (l : Level) → l.boxes ≡ along_x 2 0 4 ∷ [] → l.patches ≡ along_x 3 0 2 ∷ along_x 4 2 4 ∷ [] → KeepsGridLimits l
halves_limits l box patches = record {
  one_box = ap length box;
  few_patches = (let two : length l.patches ≡ 2 = ap length patches in omega arith);
  boxes = all_of_one HasNearBounds l.boxes (along_x 2 0 4) box (near 2 0 4 (omega arith) (omega arith));
  patches = all_of_two HasNearBounds l.patches (along_x 3 0 2) (along_x 4 2 4) patches
      (near 3 0 2 (omega arith) (omega arith)) (near 4 2 4 (omega arith) (omega arith));
}
