-- Levels of one box.
use Rattle.std.proofs.Common.{◌≡◌, ◌∙◌, ◌<◌, ◌*◌, ◌/◌, ◌%◌, ℕ, zero, suc, pos, List, [], ◌∷◌, Bool, true, false, get_or, sym, refl, arith, subst}
use Rattle.std.specs.Prelude.{◌||◌, ◌↔◌, IsTrue, All, AllPairs, Any, slice_index}
use Rattle.std.proofs.Math.Nat.{mul_comm}
use native.Mathlib.Nat.{div-lt_iff_lt-mul}
use Rattle.std.proofs.lemmas.Bool.{and_from}
use Rattle.std.proofs.lemmas.Int.{ints}
use Rattle.std.proofs.lemmas.List.Elements.{All-head, All-cons, All-nil, All-weaker}
use Rattle.uts_geom.specs.declared.index.Index.{Index}
use Rattle.uts_geom.specs.declared.centring.Centring.TheVariants.{Cell}
use Rattle.uts_geom.specs.Spans.{is_between, is_inside}
use Rattle.problem_types.specs.declared.problem.BoxLine.{BoxLine}
use Rattle.problem_types.specs.declared.problem.Level.{Level}
use Rattle.problem_types.specs.Levels.{cells_of, is_on_level, IsProper, LiesIn, AreApart, IsTiled}
use Rattle.grid_levels.specs.Good.{HasMultiples, AreMultiples, divided, IsNested}

all_of_one : {X : Type 0} (P : X → Type 0) (xs : List X) (x : X) → xs ≡ x ∷ [] → P x → All P xs
all_of_one P xs x one p = rw one (All-cons P x [] p (All-nil P))

one_of_all : {X : Type 0} (P : X → Type 0) (xs : List X) (x : X) → xs ≡ x ∷ [] → All P xs → P x
one_of_all P xs x one each = All-head P x [] (rw one at each)

any_of_one : {X : Type 0} (P : X → Type 0) (xs : List X) (x : X) → xs ≡ x ∷ [] → P x → Any P xs
any_of_one P xs x one p = rw one (0, x, omega arith, refl, p)

at_one : {X : Type 0} (P : X → Type 0) (x y : X) (k : ℕ) → k < 1 → get_or (x ∷ []) k y ≡ y → P y → P x
at_one P x y zero below is p = subst P (sym is) p
at_one P x y (suc k) below is p = absurd (omega arith)

one_of_any : {X : Type 0} (P : X → Type 0) (xs : List X) (x : X) → xs ≡ x ∷ [] → Any P xs → P x
one_of_any P xs x one some = let there = rw one at some in at_one P x there.1 there.0 there.2 there.3 there.4

-- a level of one box that its patches tile
pub record Tiles (b : BoxLine) (qs : List BoxLine) : Type 0 where
  pub proper : All IsProper qs
  pub inside : All (λ q. LiesIn (cells_of q) (cells_of b)) qs
  pub apart : AllPairs (λ q r. AreApart (cells_of q) (cells_of r)) qs
  pub filled : (i : Index) → IsTrue (is_inside (cells_of b) i) → Any (λ q. IsTrue (is_inside (cells_of q) i)) qs

abbrev pub TilesByParts : BoxLine → List BoxLine → Type 0
TilesByParts b qs =
    All IsProper qs × All (λ q. LiesIn (cells_of q) (cells_of b)) qs × AllPairs (λ q r. AreApart (cells_of q) (cells_of r)) qs
    × ((i : Index) → IsTrue (is_inside (cells_of b) i) → Any (λ q. IsTrue (is_inside (cells_of q) i)) qs)

pub by_parts : (b : BoxLine) (qs : List BoxLine) → TilesByParts b qs ↔ Tiles b qs
by_parts b qs = (
  λ parts. record { proper = parts.0; inside = parts.1; apart = parts.2; filled = parts.3 },
  λ tiles. (tiles.proper, tiles.inside, tiles.apart, tiles.filled),
)

or_none : (b : Bool) → (b || false) ≡ b
or_none true = refl
or_none false = refl

on_level : (l : Level) (b : BoxLine) (i : Index) → l.boxes ≡ b ∷ [] → is_on_level Cell l i ≡ is_inside (cells_of b) i
on_level l b i one = rw one (or_none (is_inside (cells_of b) i))

pub tiled_from : (l : Level) (b : BoxLine) → l.boxes ≡ b ∷ [] → All IsProper l.boxes → Tiles b l.patches → IsTiled l
tiled_from l b one boxes tiles = record {
  boxes = boxes;
  patches = tiles.proper;
  inside = All-weaker (λ q. LiesIn (cells_of q) (cells_of b)) (λ q. Any (λ d. LiesIn (cells_of q) (cells_of d)) l.boxes)
      (λ q lies. any_of_one (λ d. LiesIn (cells_of q) (cells_of d)) l.boxes b one lies) l.patches tiles.inside;
  apart = tiles.apart;
  filled = λ i in_b. tiles.filled i (sym (on_level l b i one) ∙ in_b);
}

pub tiles_from : (l : Level) (b : BoxLine) → l.boxes ≡ b ∷ [] → IsTiled l → Tiles b l.patches
tiles_from l b one tiled = record {
  proper = tiled.patches;
  inside = All-weaker (λ q. Any (λ d. LiesIn (cells_of q) (cells_of d)) l.boxes) (λ q. LiesIn (cells_of q) (cells_of b))
      (λ q some. one_of_any (λ d. LiesIn (cells_of q) (cells_of d)) l.boxes b one some) l.patches tiled.inside;
  apart = tiled.apart;
  filled = λ i in_b. tiled.filled i (on_level l b i one ∙ in_b);
}

-- a box of multiples that has cells keeps some where it is divided
divided_below : (ratio low high : ℕ) → 0 < ratio → low < high → high % ratio ≡ 0 → low / ratio < high / ratio
divided_below ratio low high some below multiple =
    let whole : high ≡ high / ratio * ratio = omega (arith, mul_comm (high / ratio) ratio) in
    (div-lt_iff_lt-mul some).1 (omega arith)

between_first : (low high : ℕ) → low < high → is_between (pos low) (pos high) (pos low) ≡ true
between_first low high below = grind (arith, ints)

pub divided_has_corner : (ratio : ℕ) (b : BoxLine) → 0 < ratio → IsProper b → HasMultiples ratio b →
    IsTrue (is_inside (divided ratio (cells_of b)) (divided ratio (cells_of b)).lo)
divided_has_corner ratio b some proper multiples =
    let x = between_first _ _ (divided_below ratio (slice_index b.lo 0) (slice_index b.hi 0) some (proper 0 (omega arith)) (multiples 0 (omega arith)).1) in
    let y = between_first _ _ (divided_below ratio (slice_index b.lo 1) (slice_index b.hi 1) some (proper 1 (omega arith)) (multiples 1 (omega arith)).1) in
    let z = between_first _ _ (divided_below ratio (slice_index b.lo 2) (slice_index b.hi 2) some (proper 2 (omega arith)) (multiples 2 (omega arith)).1) in
    and_from _ _ x (and_from _ _ y z)

-- the box of a level that is tiled, of which the bounds are multiples
pub has_corner : (l : Level) (b : BoxLine) → l.boxes ≡ b ∷ [] → 0 < l.ratio → IsTiled l → AreMultiples l →
    IsTrue (is_inside (divided l.ratio (cells_of b)) (divided l.ratio (cells_of b)).lo)
has_corner l b one some tiled multiples =
    divided_has_corner l.ratio b some (one_of_all IsProper l.boxes b one tiled.boxes) (one_of_all (HasMultiples l.ratio) l.boxes b one multiples.boxes)

pub nested_by_one : (coarser l : Level) (c b : BoxLine) → coarser.boxes ≡ c ∷ [] → l.boxes ≡ b ∷ [] →
    LiesIn (divided l.ratio (cells_of b)) (cells_of c) ↔ IsNested coarser l
nested_by_one coarser l c b one_coarser one = (
  λ lies. all_of_one (λ e. Any (λ d. LiesIn (divided l.ratio (cells_of e)) (cells_of d)) coarser.boxes) l.boxes b one
      (any_of_one (λ d. LiesIn (divided l.ratio (cells_of b)) (cells_of d)) coarser.boxes c one_coarser lies),
  λ nested. one_of_any (λ d. LiesIn (divided l.ratio (cells_of b)) (cells_of d)) coarser.boxes c one_coarser
      (one_of_all (λ e. Any (λ d. LiesIn (divided l.ratio (cells_of e)) (cells_of d)) coarser.boxes) l.boxes b one nested),
)
